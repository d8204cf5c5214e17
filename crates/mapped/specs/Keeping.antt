-- A provider whose certificates begin with the map of their signers keeps the laws of every provider: the proof that its trait asks for. Assumes nothing.
use Rattle.std.specs.Prelude.{◌≡◌, ℕ, ◌+◌, ◌*◌, ◌/◌, ◌%◌, ◌≤◌, Bool, true, ◌&&◌, List, [], ◌∷◌, length, Some, None, All, Option, ◌==◌, nat_le, refl}
use Rattle.std.proofs.Common.{sym, ap, subst, ◌∙◌, arith}
use Rattle.std.proofs.lemmas.List.{length-map}
use Rattle.std.proofs.lemmas.Bool.{and_parts, and_from, eq-eqb, eqb-true, le-leb, leb-true, cond-true, false≢true}
use Rattle.tips.specs.Faults.{quorum}
use Rattle.bitmaps.proofs.Mapped.{made}
use Rattle.bitmaps.proofs.Enoughs.{says-enough, tells-enough, all-below}
use Rattle.bitmaps.proofs.Returns.{returned, sixteen, two_back, room, standing-few}
use Rattle.bitmaps.specs.Maps.{all_below, enough, map_of, rising, standing}
use Rattle.provider.specs.Answers.{Attested, Bytes}
use Rattle.provider.specs.Laws.{Enough, Lawful, signers_of}
use Rattle.trial.proofs.Checked.{fits, some_none}
use Rattle.trial.proofs.Kept.{set-kept, size-kept, member-kept, signs-kept, silent-kept}
use Rattle.trial.specs.declared.epoch_set.EpochSet.{EpochSet}
use Rattle.trial.specs.Faults.{sound}
use Rattle.trial.specs.Fits.{Fit}
use Rattle.trial.specs.Sets.{keys_in, count_of, set_at}
use Rattle.trial.specs.Trials.{keys_among, own_among, accepted_among}
use Rattle.mapped.specs.Bodies.{Meaning, Fitting}
use Rattle.mapped.specs.Certificates.{certificate_of, assemble_in}
use Rattle.mapped.specs.Judging.{accepted_body, valid_for, valid_in}
use Rattle.mapped.specs.Mapping.{mapped}

signers_length : (qs : List Attested) → length (signers_of qs) ≡ length qs
signers_length qs = length-map qs (λ (q : Attested). q.signer)

-- a certificate whose body is right for its signers is accepted
pub accepted_for : (body : List Attested → Bytes) (size : ℕ → ℕ) (good : List ℕ → Bytes → Bool) (n : ℕ) (qs : List Attested) → n ≤ 16 → enough n (signers_of qs) ≡ true
    → length (body qs) ≡ size (length qs) → good (signers_of qs) (body qs) ≡ true → valid_for size good n (certificate_of body qs) ≡ true
accepted_for body size good n qs small many long right =
    let is = signers_of qs in
    let parts = and_parts (nat_le (quorum n) (length is)) (rising 0 n is) many in
    let same : standing ((map_of is) / 256 % 256 * 256 + map_of is % 256) ≡ is =
    ap standing (two_back (map_of is) (sixteen n is small parts.1)) ∙ returned n is small parts.1 in
    ap (λ (js : List ℕ). accepted_body size good n js (body qs)) same
    ∙ and_from (all_below n is) (nat_le (quorum n) (length is) && (length (body qs) == size (length is) && good is (body qs))) (all-below 0 n is parts.1)
    (and_from (nat_le (quorum n) (length is)) (length (body qs) == size (length is) && good is (body qs)) parts.0
    (and_from (length (body qs) == size (length is)) (good is (body qs))
    (eq-eqb (length (body qs)) (size (length is)) (long ∙ ap size (sym (signers_length qs))))
    right))

module _ (m : Meaning) (f : Fitting m) where
  -- over a set that fits, if there is one
  assembles_in : (o : Option EpochSet) → ((s : EpochSet) → o ≡ Some s → Fit s) → (ks : List Bytes) (qs : List Attested) → keys_among o ≡ Some ks → Enough (length ks) (signers_of qs)
      → (c : Bytes) × (assemble_in m.body o qs ≡ Some c)
  assembles_in None fit ks qs known many = absurd (some_none ks (sym known))
  assembles_in (Some s) fit ks qs known many =
      let t = fit s refl in
      let same : keys_in s ≡ ks = cc in
      let size : length ks ≡ count_of s = sym (ap length same) ∙ t.count in
      let good = tells-enough (count_of s) (signers_of qs) (subst (λ (n : ℕ). Enough n (signers_of qs)) size many) in (
        certificate_of m.body qs,
        cond-true (nat_le (count_of s) 16 && enough (count_of s) (signers_of qs)) (Some (certificate_of m.body qs)) None
            (and_from (nat_le (count_of s) 16) (enough (count_of s) (signers_of qs)) (le-leb (count_of s) 16 t.most) good),
      )

  no_other_in : (o : Option EpochSet) → ((s : EpochSet) → o ≡ Some s → Fit s) → (qs : List Attested) (c : Bytes) → assemble_in m.body o qs ≡ Some c
      → (ks : List Bytes) × (keys_among o ≡ Some ks) × Enough (length ks) (signers_of qs) × (length c ≤ 1026)
  no_other_in None fit qs c e = absurd (some_none c (sym e))
  no_other_in (Some s) fit qs c e =
      let t = fit s refl in
      let n = count_of s in
      let by = made (nat_le n 16 && enough n (signers_of qs)) (certificate_of m.body qs) c e in
      let parts = and_parts (nat_le n 16) (enough n (signers_of qs)) by.0 in
      let more = and_parts (nat_le (quorum n) (length (signers_of qs))) (rising 0 n (signers_of qs)) parts.1 in
      let many = says-enough n (signers_of qs) parts.1 in
      let few = room 0 n (signers_of qs) (omega arith) more.1 in
      let short = f.room qs (omega (arith, few, signers_length qs, t.most)) in
      let size : length (certificate_of m.body qs) ≤ 1026 = omega (arith, short) in
      (keys_in s, refl, subst (λ (k : ℕ). Enough k (signers_of qs)) (sym t.count) many, subst (λ (b : Bytes). length b ≤ 1026) by.1 size)

  accepted_in : (o : Option EpochSet) (h : ℕ) (d : Bytes) (qs : List Attested) (c : Bytes) → assemble_in m.body o qs ≡ Some c
      → All (λ (q : Attested). accepted_among o q.signer h d q.signature ≡ true) qs → valid_in m.size (m.good o h d) o c ≡ true
  accepted_in None h d qs c e each = absurd (some_none c (sym e))
  accepted_in (Some s) h d qs c e each =
      let n = count_of s in
      let by = made (nat_le n 16 && enough n (signers_of qs)) (certificate_of m.body qs) c e in
      let parts = and_parts (nat_le n 16) (enough n (signers_of qs)) by.0 in
      let right = f.made (Some s) h d qs each in
      subst (λ (b : Bytes). valid_for m.size (m.good (Some s) h d) n b ≡ true) by.1
      (accepted_for m.body m.size (m.good (Some s) h d) n qs (leb-true n 16 parts.0) parts.1 right.0 right.1)

  -- an accepted certificate of at most sixteen signers has at most 1,026 bytes
  size_for : (good : List ℕ → Bytes → Bool) (n : ℕ) (c : Bytes) → valid_for m.size good n c ≡ true → length c ≤ 1026
  size_for good n [] e = absurd (false≢true e)
  size_for good n (a ∷ []) e = absurd (false≢true e)
  size_for good n (a ∷ b ∷ body) e =
      let is = standing (a * 256 + b) in
      let first = and_parts (all_below n is) (nat_le (quorum n) (length is) && (length body == m.size (length is) && good is body)) e in
      let second = and_parts (nat_le (quorum n) (length is)) (length body == m.size (length is) && good is body) first.1 in
      let third = and_parts (length body == m.size (length is)) (good is body) second.1 in
      let short = f.most (length is) (standing-few (a * 256 + b)) in
      omega (arith, eqb-true (length body) (m.size (length is)) third.0, short)

  size_in : (good : List ℕ → Bytes → Bool) (o : Option EpochSet) (c : Bytes) → valid_in m.size good o c ≡ true → length c ≤ 1026
  size_in good None c e = absurd (false≢true e)
  size_in good (Some s) c e = size_for good (count_of s) c e

  pub keeps : (ss : List EpochSet) → sound ss ≡ true → Lawful (mapped m ss)
  keeps ss checked =
      let fit = fits ss checked in
      record {
        sound = record {
          set = λ e ks known. set-kept (set_at e ss) (fit e) ks known;
          signature_size = λ e i h d s good. size-kept (set_at e ss) i h d s good;
          certificate_size = λ e h d c good. size_in (m.good (set_at e ss) h d) (set_at e ss) c good;
        };
        member = λ e i own. member-kept (set_at e ss) (fit e) i own;
        signs = λ e i h d own. signs-kept (set_at e ss) (fit e) i h d own;
        silent = λ e h d none. silent-kept (own_among (set_at e ss)) h d none;
        assembles = λ e ks qs known many. assembles_in (set_at e ss) (fit e) ks qs known many;
        no_other = λ e qs c out. no_other_in (set_at e ss) (fit e) qs c out;
        accepted = λ e h d qs c out good. accepted_in (set_at e ss) h d qs c out good;
      }
