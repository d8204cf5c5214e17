-- What the answers of a list of epochs keep of a provider's laws. Assumes nothing.
use Rattle.std.proofs.Common.{◌≡◌, ℕ, ◌<◌, true, ltb, List, length, Some, None, Option, sym, refl, ap, ◌∙◌, subst, arith}
use Rattle.std.proofs.lemmas.Slice.Eq.{bytes_eq-Decides}
use Rattle.std.proofs.lemmas.Bool.{and_parts, and_from, lt-ltb, false≢true}
use Rattle.std.specs.Str.{bytes_eq}
use Rattle.types.specs.Numbers.{Participant}
use Rattle.provider.specs.Answers.{Bytes}
use Rattle.provider.specs.Laws.{KeySet}
use Rattle.provider.specs.Values.{number}
use Rattle.tags.specs.Tags.{signature_of}
use Rattle.tags.specs.Words.{eight_bytes}
use Rattle.trial.specs.declared.epoch_set.EpochSet.{EpochSet}
use Rattle.trial.specs.Fits.{Fit}
use Rattle.trial.specs.Sets.{keys_in, count_of}
use Rattle.trial.specs.Trials.{keys_among, own_among, tagged, accepted_among, signed_by}
use Rattle.trial.proofs.Checked.{some_none}

pub tagged-length : (i h : ℕ) (d : Bytes) → length (tagged i h d) ≡ 64
unfolding signature_of eight_bytes
tagged-length i h d = refl

-- the number of an own signer is that of a participant
owner : (me : Option Participant) (i : ℕ) → number me ≡ Some i → (p : Participant) × (me ≡ Some p) × (p.0 ≡ i)
owner None i e = absurd (some_none i (sym e))
owner (Some p) i e = (p, refl, cc)

-- over a set that fits, if there is one
pub set-kept : (o : Option EpochSet) → ((s : EpochSet) → o ≡ Some s → Fit s) → (ks : List Bytes) → keys_among o ≡ Some ks → KeySet ks
set-kept None fit ks e = absurd (some_none ks (sym e))
set-kept (Some s) fit ks e = let same : keys_in s ≡ ks = cc in subst KeySet same (fit s refl).keys

pub size-kept : (o : Option EpochSet) (i h : ℕ) (d s : Bytes) → accepted_among o i h d s ≡ true → length s ≡ 64
size-kept None i h d s e = absurd (false≢true e)
size-kept (Some t) i h d s e =
    let both = and_parts (ltb i (count_of t)) (bytes_eq (tagged i h d) s) e in
    sym (ap length ((bytes_eq-Decides (tagged i h d) s).0 both.1)) ∙ tagged-length i h d

pub member-kept : (o : Option EpochSet) → ((s : EpochSet) → o ≡ Some s → Fit s) → (i : ℕ) → own_among o ≡ Some i → (ks : List Bytes) × (keys_among o ≡ Some ks) × (i < length ks)
member-kept None fit i e = absurd (some_none i (sym e))
member-kept (Some s) fit i e =
    let p = owner s.me i e in
    let f = fit s refl in
    let below = f.own p.0 p.1 in
    (keys_in s, refl, omega (arith, f.count, below, p.2))

pub signs-kept : (o : Option EpochSet) → ((s : EpochSet) → o ≡ Some s → Fit s) → (i h : ℕ) (d : Bytes) → own_among o ≡ Some i
    → (s : Bytes) × (signed_by (own_among o) h d ≡ Some s) × (length s ≡ 64) × (accepted_among o i h d s ≡ true)
signs-kept None fit i h d e = absurd (some_none i (sym e))
signs-kept (Some s) fit i h d e =
    let p = owner s.me i e in
    let below = (fit s refl).own p.0 p.1 in (
      tagged i h d,
      ap (λ (x : Option ℕ). signed_by x h d) e,
      tagged-length i h d,
      and_from (ltb i (count_of s)) (bytes_eq (tagged i h d) (tagged i h d)) (lt-ltb i (count_of s) (omega (arith, below, p.2))) ((bytes_eq-Decides (tagged i h d) (tagged i h d)).1 refl),
    )

pub silent-kept : (o : Option ℕ) (h : ℕ) (d : Bytes) → o ≡ None → signed_by o h d ≡ None
silent-kept o h d e = ap (λ (x : Option ℕ). signed_by x h d) e
