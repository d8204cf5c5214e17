-- What a provider answers: each answer is a function of the question alone. Assumes nothing.
use Rattle.std.specs.Prelude.{ℕ, Bool, List, Option}

-- a key, a digest, a signature or a certificate
abbrev pub Bytes : Type 0
Bytes = List ℕ

-- a signer and its signature
pub record Attested : Type 0 where
  pub signer : ℕ
  pub signature : Bytes

-- the questions that need no signing
pub record Verifying : Type 0 where
  -- the keys of an epoch, or none where it is unknown
  pub keys : ℕ → Option (List Bytes)
  -- whether the signature of this epoch, signer, height and digest is accepted
  pub accepts : ℕ → ℕ → ℕ → Bytes → Bytes → Bool
  -- whether the certificate of this epoch, height and digest is accepted
  pub valid : ℕ → ℕ → Bytes → Bytes → Bool

-- the questions that need signing
pub record Signing : Type 0 where
  -- the own signer of an epoch, if there is one
  pub own : ℕ → Option ℕ
  -- the own signature for this epoch, height and digest
  pub sign : ℕ → ℕ → Bytes → Option Bytes
  -- the certificate that signatures of this epoch make
  pub assemble : ℕ → List Attested → Option Bytes

pub record Answers : Type 0 where
  pub verifying : Verifying
  pub signing : Signing
