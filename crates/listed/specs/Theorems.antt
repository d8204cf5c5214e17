-- What listed certificates show. Assumes nothing.
use Rattle.std.specs.Prelude.{◌≡◌, ℕ, ◌≤◌, Bool, true, List, length, All, Option}
use Rattle.provider.specs.Answers.{Attested, Bytes}
use Rattle.provider.specs.Laws.{Enough, signers_of}
use Rattle.trial.specs.declared.epoch_set.EpochSet.{EpochSet}
use Rattle.mapped.specs.Theorems.{HasReason}
use Rattle.listed.specs.Certificates.{certificate_of}
use Rattle.listed.specs.Judging.{size_of, each_accepted, valid_for}

-- each signature has 64 bytes
abbrev pub Sized : List Attested → Type 0
Sized qs = All (λ (q : Attested). length q.signature ≡ 64) qs

-- a certificate of signatures that are accepted is accepted
abbrev pub AssembledIsAccepted : Type 0
AssembledIsAccepted = (n : ℕ) (ok : ℕ → Bytes → Bool) (qs : List Attested) → n ≤ 16 → Enough n (signers_of qs) → Sized qs
    → All (λ (q : Attested). ok q.signer q.signature ≡ true) qs → valid_for n ok (certificate_of qs) ≡ true

-- a certificate determines its signers, and so two lists of signers never give the same one
abbrev pub DeterminesSigners : Type 0
DeterminesSigners = (n : ℕ) (ps qs : List Attested) → n ≤ 16 → Enough n (signers_of ps) → Enough n (signers_of qs) → certificate_of ps ≡ certificate_of qs → signers_of ps ≡ signers_of qs

-- and it determines their signatures
abbrev pub DeterminesSignatures : Type 0
DeterminesSignatures = (n : ℕ) (ps qs : List Attested) → n ≤ 16 → Enough n (signers_of ps) → Enough n (signers_of qs) → Sized ps → Sized qs → certificate_of ps ≡ certificate_of qs → ps ≡ qs

-- a certificate is rejected exactly where there is a reason, and the reason holds
abbrev pub Reasons : Type 0
Reasons = (o : Option EpochSet) (ok : ℕ → Bytes → Bool) (c : Bytes) → HasReason size_of (each_accepted ok) o c
