-- The pooled provider keeps the laws of every provider: the proof that its trait asks for. Assumes nothing.
use Rattle.std.specs.Prelude.{◌≡◌, ℕ, ◌+◌, ◌%◌, ◌^◌, true, List, [], ◌∷◌, length, Some, None, All, Option, nat_lt, refl}
use Rattle.std.proofs.Common.{sym, ap, ◌∙◌, arith}
use Rattle.std.proofs.Math.Nat.{add-mod, mod-mod}
use Rattle.std.proofs.lemmas.List.Elements.{All-nil, All-cons, All-head, All-tail}
use Rattle.std.proofs.lemmas.Slice.Eq.{bytes_eq-Decides}
use Rattle.std.proofs.lemmas.Bool.{and_parts, false≢true}
use Rattle.std.specs.Str.{bytes_eq}
use Rattle.provider.specs.Answers.{Attested, Bytes}
use Rattle.provider.specs.Laws.{Lawful, signers_of}
use Rattle.tags.proofs.Words.{word-eight_bytes}
use Rattle.tags.specs.Tags.{signature_of, tag_of}
use Rattle.tags.specs.Words.{eight_bytes, word}
use Rattle.trial.specs.declared.epoch_set.EpochSet.{EpochSet}
use Rattle.trial.specs.Faults.{sound}
use Rattle.trial.specs.Sets.{count_of}
use Rattle.trial.specs.Trials.{accepted_among, tagged}
use Rattle.mapped.specs.Bodies.{Fitting}
use Rattle.mapped.specs.Keeping as mapped
use Rattle.pooled.specs.Certificates.{carried, pool_of}
use Rattle.pooled.specs.Judging.{tag_sum, summed}
use Rattle.pooled.specs.Pooling.{pooling, pooled}

pub eight : (n : ℕ) → length (eight_bytes n) ≡ 8
unfolding eight_bytes
eight n = refl

-- what a signature carries is its tag, as 64 bits
carries : (i h : ℕ) (d : Bytes) → word (tagged i h d) ≡ tag_of i h d % 2 ^ 64
unfolding signature_of
carries i h d = word-eight_bytes (tag_of i h d) _

abbrev pub Carry : ℕ → Bytes → List Attested → Type 0
Carry h d qs = All (λ (q : Attested). word q.signature ≡ tag_of q.signer h d % 2 ^ 64) qs

pub carry_own : (h : ℕ) (d : Bytes) (qs : List Attested) → All (λ (q : Attested). q.signature ≡ tagged q.signer h d) qs → Carry h d qs
carry_own h d [] own = All-nil (λ (q : Attested). word q.signature ≡ tag_of q.signer h d % 2 ^ 64)
carry_own h d (q ∷ qs) own =
    All-cons (λ (p : Attested). word p.signature ≡ tag_of p.signer h d % 2 ^ 64) q qs
    (ap word (All-head (λ (p : Attested). p.signature ≡ tagged p.signer h d) q qs own) ∙ carries q.signer h d)
    (carry_own h d qs (All-tail (λ (p : Attested). p.signature ≡ tagged p.signer h d) q qs own))

-- signatures that carry their tags have the sum of the tags, as 64 bits
same_sum : (h : ℕ) (d : Bytes) (qs : List Attested) → Carry h d qs → carried qs % 2 ^ 64 ≡ tag_sum h d (signers_of qs) % 2 ^ 64
same_sum h d [] each = refl
same_sum h d (q ∷ qs) each =
    let here = All-head (λ (p : Attested). word p.signature ≡ tag_of p.signer h d % 2 ^ 64) q qs each in
    let later = All-tail (λ (p : Attested). word p.signature ≡ tag_of p.signer h d % 2 ^ 64) q qs each in
    let t = tag_of q.signer h d in
    let rest = tag_sum h d (signers_of qs) in
    let one : word q.signature % 2 ^ 64 ≡ t % 2 ^ 64 = ap (λ (n : ℕ). n % 2 ^ 64) here ∙ mod-mod t (2 ^ 64) in
    add-mod (word q.signature) (carried qs) (2 ^ 64)
    ∙ ap (λ (n : ℕ). (n + carried qs % 2 ^ 64) % 2 ^ 64) one
    ∙ ap (λ (n : ℕ). (t % 2 ^ 64 + n) % 2 ^ 64) (same_sum h d qs later)
    ∙ sym (add-mod t rest (2 ^ 64))

-- accepted signatures carry their tags
carry_all : (o : Option EpochSet) (h : ℕ) (d : Bytes) (qs : List Attested) → All (λ (q : Attested). accepted_among o q.signer h d q.signature ≡ true) qs → Carry h d qs
carry_all o h d [] good = All-nil (λ (q : Attested). word q.signature ≡ tag_of q.signer h d % 2 ^ 64)
carry_all None h d (q ∷ qs) good = absurd (false≢true (All-head (λ (p : Attested). accepted_among None p.signer h d p.signature ≡ true) q qs good))
carry_all (Some s) h d (q ∷ qs) good =
    let here = All-head (λ (p : Attested). accepted_among (Some s) p.signer h d p.signature ≡ true) q qs good in
    let both = and_parts (nat_lt q.signer (count_of s)) (bytes_eq (tagged q.signer h d) q.signature) here in
    All-cons (λ (p : Attested). word p.signature ≡ tag_of p.signer h d % 2 ^ 64) q qs
    (ap word (sym ((bytes_eq-Decides (tagged q.signer h d) q.signature).0 both.1)) ∙ carries q.signer h d)
    (carry_all (Some s) h d qs (All-tail (λ (p : Attested). accepted_among (Some s) p.signer h d p.signature ≡ true) q qs good))

-- so their sum is the one that is asked for
pub good_sum : (h : ℕ) (d : Bytes) (qs : List Attested) → Carry h d qs → summed h d (signers_of qs) (pool_of qs) ≡ true
good_sum h d qs each = (bytes_eq-Decides (pool_of qs) (eight_bytes (tag_sum h d (signers_of qs) % 2 ^ 64))).1 (ap eight_bytes (same_sum h d qs each))

pub pooling_fits : Fitting pooling
pooling_fits = record {
  room = λ qs few. omega (arith, eight (carried qs % 2 ^ 64));
  most = λ k few. omega arith;
  made = λ o h d qs good. (eight (carried qs % 2 ^ 64), good_sum h d qs (carry_all o h d qs good));
}

pub keeps : (ss : List EpochSet) → sound ss ≡ true → Lawful (pooled ss)
keeps = mapped.keeps pooling pooling_fits
