-- What stands behind the map in a certificate. Assumes nothing.
use Rattle.std.specs.Prelude.{◌≡◌, ℕ, ◌≤◌, Bool, true, List, length, All, Option}
use Rattle.provider.specs.Answers.{Attested, Bytes}
use Rattle.provider.specs.Laws.{signers_of}
use Rattle.trial.specs.declared.epoch_set.EpochSet.{EpochSet}
use Rattle.trial.specs.Trials.{accepted_among}

-- what a kind of body means
pub record Meaning : Type 0 where
  -- the body that signatures make
  pub body : List Attested → Bytes
  -- how many bytes the body of so many signers has
  pub size : ℕ → ℕ
  -- whether a body is good for these signers of an epoch, for a height and a digest
  pub good : Option EpochSet → ℕ → Bytes → List ℕ → Bytes → Bool

-- what makes a provider of a body keep the laws
pub record Fitting (m : Meaning) : Type 0 where
  -- behind the map there is room for the body of sixteen signatures
  pub room : (qs : List Attested) → length qs ≤ 16 → length (m.body qs) ≤ 1024
  -- and no longer body is right for sixteen signers
  pub most : (k : ℕ) → k ≤ 16 → m.size k ≤ 1024
  -- the body of accepted signatures has the length that their signers ask for, and is good
  pub made : (o : Option EpochSet) (h : ℕ) (d : Bytes) (qs : List Attested) → All (λ (q : Attested). accepted_among o q.signer h d q.signature ≡ true) qs
      → (length (m.body qs) ≡ m.size (length qs)) × (m.good o h d (signers_of qs) (m.body qs) ≡ true)
