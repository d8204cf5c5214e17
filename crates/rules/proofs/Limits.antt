-- Heights, tips and records stay within what the forms can hold. Assumes nothing.
use Rattle.std.proofs.Common.{◌≡◌, ◌+◌, ◌^◌, ◌<◌, false, List, [], ◌∷◌, refl, ap, ◌∙◌, arith, All}
use Rattle.std.proofs.lemmas.List.Elements.{All-nil, All-cons}
use mathlib.Core.List.{Memᴰ}
use Rattle.forms.specs.Values.{Activity, ack, certified, tip}
use Rattle.forms.specs.Reading as forms
use Rattle.journal.specs.Log.{Log}
use Rattle.provider.specs.Answers.{Answers}
use Rattle.provider.specs.Laws.{Lawful}
use Rattle.rules.specs.State.{Settings, Engine, shut, running, halted, section}
use Rattle.rules.specs.Runs.{Run, Deed}
use Rattle.rules.specs.Limits.{height_in, LowHeights, RecordsFit}
use Rattle.rules.proofs.Recs.{reading_in}
use Rattle.rules.proofs.Ledger.{height_of_lem}
use Rattle.rules.proofs.Moves.{apart}
use Rattle.rules.proofs.Bridge.{sized, back, sizes}
use Rattle.rules.proofs.Law.{ledger, run_inv}

same-height : (x : Activity) → height_of_lem x ≡ height_in x
same-height (ack a) = refl
same-height (certified c) = refl
same-height (tip t) = refl

all_from : {X : Type 0} (P : X → Type 0) (xs : List X) → ((x : X) → Memᴰ x xs → P x) → All P xs
all_from P [] f = All-nil P
all_from P (x ∷ xs) f = All-cons P x xs (f x (Memᴰ.head refl)) (all_from P xs (λ y m. f y (Memᴰ.tail m)))

-- what holds of a running engine
pub low_heights : (p : Answers) (s : Settings) (past : List Deed) (v : Log) (x : Engine) → Lawful p → Run p s (record { engine = x; log = v }) past → LowHeights x
low_heights p s past v shut l run = tt
low_heights p s past v (running m k) l run =
    let i = (run_inv back sizes p l s false run (λ z. apart (cc))).eng in
    (i.top, all_from (λ x. x.height < 2 ^ 62 + 8) m.pending (λ x n. omega (arith, i.top, i.wide, i.under x n)))
low_heights p s past v (halted k) l run = tt

pub records_fit : RecordsFit
records_fit p s x past l run =
    let j = ledger back sizes p l s false run (λ z. apart (cc)) in (
      (λ r m.
          let f = j.form r.section r.bytes (reading_in x.log r m) in
          record {
            says = f.0;
            sized = sized f.0 f.3;
            written = f.1;
            back = ap forms.read f.1 ∙ back f.0 f.3;
            placed = f.2 ∙ ap (section s) (same-height f.0);
          }),
      low_heights p s past x.log x.engine l run,
    )
