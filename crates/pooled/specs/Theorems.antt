-- What pooled certificates show. Assumes nothing.
use Rattle.std.specs.Prelude.{◌≡◌, ℕ, ◌≤◌, true, List, All, Option}
use Rattle.provider.specs.Answers.{Attested, Bytes}
use Rattle.provider.specs.Laws.{Enough, signers_of}
use Rattle.trial.specs.Trials.{tagged}
use Rattle.trial.specs.declared.epoch_set.EpochSet.{EpochSet}
use Rattle.mapped.specs.Theorems.{HasReason}
use Rattle.pooled.specs.Certificates.{certificate_of}
use Rattle.pooled.specs.Judging.{size_of, summed, valid_for}

-- a certificate of the signers' own signatures is accepted
abbrev pub AssembledIsAccepted : Type 0
AssembledIsAccepted = (n h : ℕ) (d : Bytes) (qs : List Attested) → n ≤ 16 → Enough n (signers_of qs)
    → All (λ (q : Attested). q.signature ≡ tagged q.signer h d) qs → valid_for n h d (certificate_of qs) ≡ true

-- a certificate is rejected exactly where there is a reason, and the reason holds
abbrev pub Reasons : Type 0
Reasons = (o : Option EpochSet) (h : ℕ) (d c : Bytes) → HasReason size_of (summed h d) o c
