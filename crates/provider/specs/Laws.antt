-- What every provider keeps. Assumes nothing.
use Rattle.std.specs.Prelude.{◌≡◌, ℕ, ◌<◌, ◌≤◌, Bool, true, cond, List, [], ◌∷◌, map, length, Some, None, All, Option, nat_lt}
use Rattle.std.specs.Str.{bytes_eq}
use Rattle.table.specs.Keys.{lower}
use Rattle.table.specs.Rows.{onward}
use Rattle.tips.specs.Faults.{quorum}
use Rattle.provider.specs.Answers.{Bytes, Attested, Verifying, Answers}

-- each element is before the next
abbrev pub Ascending : {A : Type 0} → (A → A → Bool) → List A → Type 0
Ascending before [] = Unit {0}
Ascending before (x ∷ []) = Unit {0}
Ascending before (x ∷ y ∷ xs) = (before x y ≡ true) × Ascending before (y ∷ xs)

-- the position of a key among the keys of an epoch: it is the key's signer
abbrev pub position : Bytes → List Bytes → Option ℕ
position k [] = None
position k (x ∷ xs) = cond (bytes_eq k x) (Some 0) (onward (position k xs))

-- the position of a key, where the epoch is known
abbrev pub position_in : Bytes → Option (List Bytes) → Option ℕ
position_in k None = None
position_in k (Some ks) = position k ks

-- 2 to 16 keys of 32 bytes, distinct and in ascending order
pub record KeySet (ks : List Bytes) : Type 0 where
  pub least : 2 ≤ length ks
  pub most : length ks ≤ 16
  pub sized : All (λ k. length k ≡ 32) ks
  pub ascending : Ascending lower ks

-- the signers of some signatures
abbrev pub signers_of : List Attested → List ℕ
signers_of qs = map (λ (q : Attested). q.signer) qs

-- n − f or more signers below n, in ascending order
pub record Enough (n : ℕ) (is : List ℕ) : Type 0 where
  pub quorate : quorum n ≤ length is
  pub ascending : Ascending nat_lt is
  pub below : All (λ i. i < n) is

-- what holds of the questions that need no signing
pub record Sound (v : Verifying) : Type 0 where
  -- a known epoch has a set of keys
  pub set : (e : ℕ) (ks : List Bytes) → v.keys e ≡ Some ks → KeySet ks
  -- an accepted signature has 64 bytes
  pub signature_size : (e i h : ℕ) (d s : Bytes) → v.accepts e i h d s ≡ true → length s ≡ 64
  -- an accepted certificate has at most 1,026 bytes
  pub certificate_size : (e h : ℕ) (d c : Bytes) → v.valid e h d c ≡ true → length c ≤ 1026

pub record Lawful (a : Answers) : Type 0 where
  pub sound : Sound a.verifying
  -- the own signer is one of the epoch's
  pub member : (e i : ℕ) → a.signing.own e ≡ Some i → (ks : List Bytes) × (a.verifying.keys e ≡ Some ks) × (i < length ks)
  -- with an own signer it signs, in 64 bytes, and accepts what it signs
  pub signs : (e i h : ℕ) (d : Bytes) → a.signing.own e ≡ Some i
      → (s : Bytes) × (a.signing.sign e h d ≡ Some s) × (length s ≡ 64) × (a.verifying.accepts e i h d s ≡ true)
  -- without one it does not sign
  pub silent : (e h : ℕ) (d : Bytes) → a.signing.own e ≡ None → a.signing.sign e h d ≡ None
  -- it assembles any ascending list of n − f or more signers below n
  pub assembles : (e : ℕ) (ks : List Bytes) (qs : List Attested) → a.verifying.keys e ≡ Some ks → Enough (length ks) (signers_of qs)
      → (c : Bytes) × (a.signing.assemble e qs ≡ Some c)
  -- and no other, into at most 1,026 bytes
  pub no_other : (e : ℕ) (qs : List Attested) (c : Bytes) → a.signing.assemble e qs ≡ Some c
      → (ks : List Bytes) × (a.verifying.keys e ≡ Some ks) × Enough (length ks) (signers_of qs) × (length c ≤ 1026)
  -- a certificate assembled from accepted signatures is accepted
  pub accepted : (e h : ℕ) (d : Bytes) (qs : List Attested) (c : Bytes) → a.signing.assemble e qs ≡ Some c
      → All (λ (q : Attested). a.verifying.accepts e q.signer h d q.signature ≡ true) qs → a.verifying.valid e h d c ≡ true
