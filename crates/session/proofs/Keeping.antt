-- A journal that is kept in no file stays in none, whatever a line says; and so a file holds what the journal is.
use Rattle.std.proofs.Common.{◌≡◌, ℕ, Bool, true, false, cond, inl, inr, List, Option, Some, None, Ok, Err, Result, IsSome, refl, sym, ap, ◌∙◌, subst, arith, IfSome}
use Rattle.std.specs.Option.{option_map}
use Rattle.anyhow.specs.declared.error.Error.{Error}
use Rattle.console.specs.Heard.{Heard, nothing, tips, forms, providers, journals, unknown, Journaled}
use Rattle.console.specs.declared.answers.Answer.{Answer}
use Rattle.console.specs.declared.answers.Answer.TheVariants.{Tips as TipsAnswer, Forms as FormsAnswer, Providers as ProvidersAnswer, Journals as JournalsAnswer}
use Rattle.console.specs.declared.consoles.Console.{Console}
use Rattle.console.specs.declared.refusals.Refused.{Refused}
use Rattle.console.specs.declared.refusals.Refused.TheVariants.{Tips as TipsRefused, Forms as FormsRefused, Providers as ProvidersRefused, Journals as JournalsRefused, Unknown}
use Rattle.console_journal.specs.Held.{Stored, in_slots, in_bytes, Held, Operated, OperatedIn}
use Rattle.console_journal.specs.Obeying.{Answered, Obeys, OnOpen, Opens, Damages, bytes_in, kept_bytes}
use Rattle.console_journal.specs.declared.answers.Answer.{Answer as JournalAnswer}
use Rattle.console_journal.specs.declared.answers.Refusal.{Refusal as JournalRefusal}
use Rattle.journal.specs.Laws.{Op}
use Rattle.journal_commands.specs.Files.{Named}
use Rattle.journal_commands.specs.Reading.{Said, new_bytes, new_slots, operate, power, damage, show}
use Rattle.journal_commands.specs.declared.faults.Fault.{Fault}
use Rattle.std.specs.Io.KnownBytes.{Keeps, Appends}
use Rattle.session.specs.Files.{bytes_of}
use Rattle.session.specs.Sessions.{Takes, Loses, Does}
use Rattle.session.specs.declared.journal_file.JournalFile.{JournalFile}
use Rattle.session.specs.declared.replies.Reply.TheVariants.{NotKept}
use Rattle.session.specs.declared.sessions.Session.{Session}

-- no bytes to keep before, and none after: the mark is the same, and there are no bytes where there were none
none_in : (b b' : Bool) (s s' : Option (List ℕ)) → (s ≡ None → s' ≡ None) → b' ≡ b → cond b s None ≡ None → cond b' s' None ≡ None
none_in true b' s s' into same e = subst (λ x. cond x s' None ≡ None) (sym same) (into e)
none_in false b' s s' into same e = subst (λ x. cond x s' None ≡ None) (sym same) refl

-- a medium stays one of slots or of bytes
same_kind : (op : Op) (s t : Stored) (h k : Held) (r : Result JournalAnswer JournalRefusal) → OperatedIn op s h.carried r t k.carried → bytes_in s ≡ None → bytes_in t ≡ None
same_kind op (in_slots xs) (in_slots ys) h k r d e = refl
same_kind op (in_slots xs) (in_bytes bs) h k r d e = absurd d
same_kind op (in_bytes bs) t h k r d e = grind arith

damaged_kind : (i b : ℕ) (s t : Stored) (r : Result JournalAnswer JournalRefusal) → Damages i b s r t → bytes_in s ≡ None → bytes_in t ≡ None
damaged_kind i b (in_slots xs) t r d e = ap bytes_in d.1
damaged_kind i b (in_bytes bs) t r d e = grind arith

-- a new journal is kept in no file
opened : (s : Stored) (a : JournalAnswer) (o p : Option Held) (r : Result JournalAnswer JournalRefusal) → Opens s a o r p → kept_bytes o ≡ None → kept_bytes p ≡ None
opened s a o p r (inl d) e = ap kept_bytes d.1
opened s a o p r (inr d) e = ap kept_bytes d.1 ∙ e

on_open : (P : Held → Held → Type 0) (o p : Option Held) (r : Result JournalAnswer JournalRefusal) → ((h k : Held) → P h k → kept_bytes (Some h) ≡ None → kept_bytes (Some k) ≡ None)
    → OnOpen P o r p → kept_bytes o ≡ None → kept_bytes p ≡ None
on_open P None p r each d e = ap kept_bytes d.1
on_open P (Some h) (Some k) r each d e = each h k d e
on_open P (Some h) None r each d e = refl

obeyed : (s : Said) (o p : Option Held) (r : Result JournalAnswer JournalRefusal) → Obeys s o r p → kept_bytes o ≡ None → kept_bytes p ≡ None
obeyed (new_bytes n) o p r d e = opened _ _ o p r d e
obeyed (new_slots n) o p r d e = opened _ _ o p r d e
obeyed (operate op) o p r d e = on_open (λ h k. Operated op h r k) o p r (λ h k x f. none_in h.kept k.kept (bytes_in h.stored) (bytes_in k.stored) (same_kind op h.stored k.stored h k r x.0) x.1 f) d e
obeyed (power q) o p r d e = on_open _ o p r (λ h k x f. ap (λ y. kept_bytes (Some y)) x.1 ∙ f) d e
obeyed (damage i b) o p r d e = on_open _ o p r (λ h k x f. none_in h.kept k.kept (bytes_in h.stored) (bytes_in k.stored) (damaged_kind i b h.stored k.stored r x.0) x.2 f) d e
obeyed (show i n) o p r d e = on_open _ o p r (λ h k x f. ap (λ y. kept_bytes (Some y)) x.1 ∙ f) d e

answered : (m : Result Said Fault) (o p : Option Held) (r : Result JournalAnswer JournalRefusal) → Answered m o r p → kept_bytes o ≡ None → kept_bytes p ≡ None
answered (Ok s) o p r d e = obeyed s o p r d e
answered (Err x) o p r d e = ap kept_bytes d.1 ∙ e

still_none : (h : Heard) (o p : Option Held) (r : Result (Option Answer) Refused) → Journaled h o p r → kept_bytes o ≡ None → kept_bytes p ≡ None
still_none nothing o p r d e = ap kept_bytes d ∙ e
still_none (tips s) o p r d e = ap kept_bytes d ∙ e
still_none (forms m) o p r d e = ap kept_bytes d ∙ e
still_none (providers m) o p r d e = ap kept_bytes d ∙ e
still_none (unknown w) o p r d e = ap kept_bytes d ∙ e
still_none (journals m) o p (Ok (Some (JournalsAnswer a))) d e = answered d.0 o p (Ok a) d.2 e
still_none (journals m) o p (Err (JournalsRefused x)) d e = answered d.0 o p (Err x) d.2 e
still_none (journals m) o p (Ok None) d e = absurd d
still_none (journals m) o p (Ok (Some (TipsAnswer a))) d e = absurd d
still_none (journals m) o p (Ok (Some (FormsAnswer a))) d e = absurd d
still_none (journals m) o p (Ok (Some (ProvidersAnswer a))) d e = absurd d
still_none (journals m) o p (Err (TipsRefused x)) d e = absurd d
still_none (journals m) o p (Err (FormsRefused x)) d e = absurd d
still_none (journals m) o p (Err (ProvidersRefused x)) d e = absurd d
still_none (journals m) o p (Err (Unknown x)) d e = absurd d

-- what the file holds after a line, once the bytes that are to be kept are in it
pub in_step : (file kept : Option JournalFile) (h : Heard) (o p : Option Held) (r : Result (Option Answer) Refused) → Journaled h o p r → (file ≡ None → kept ≡ None)
    → (IsSome file → option_map bytes_of kept ≡ kept_bytes p) → option_map bytes_of file ≡ kept_bytes o → option_map bytes_of kept ≡ kept_bytes p
in_step None kept h o p r d none some e = ap (option_map bytes_of) (none refl) ∙ sym (still_none h o p r d (sym e))
in_step (Some f) kept h o p r d none some e = some refl

-- what a line does where its journal is lost
pub lost : (m : Option (Result Named Fault)) (line : List ℕ) (old new : Session) (c : Console) (r : Result (Option Answer) Refused) (x : Error) → m ≡ None
    → Takes line old.console c r → Loses c new.console → IsSome old.file → new.file ≡ None → Does m line old (NotKept x) new
lost m line old new c r x e t l some none = subst (λ y. Does y line old (NotKept x) new) (sym e) (some, none, (r, c, t, l))

-- what was printed stays printed where the writer is flushed
pub flushed : (text old written new : Option (List ℕ)) → IfSome text (Appends old written) → Keeps written new → IfSome text (Appends old new)
flushed None old written new w k = tt
flushed (Some t) None written new w k = tt
flushed (Some t) (Some o) None new w k = absurd w
flushed (Some t) (Some o) (Some x) None w k = absurd k
flushed (Some t) (Some o) (Some x) (Some y) w k = k ∙ w
