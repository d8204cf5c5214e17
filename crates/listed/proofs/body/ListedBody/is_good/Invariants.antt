use Rattle.std.proofs.Common.{◌≡◌, ℕ, ◌-◌, ◌*◌, Bool, drop, length}
use Rattle.provider.specs.Answers.{Bytes}
use Rattle.trial.specs.Trials.{accepts_at}
use Rattle.listed.specs.Judging.{each_accepted}
use Rattle.listed.proofs.body.ListedBody.is_good.Given as goal

-- what is left is accepted where the whole is
abbrev pub invariant-loop-signer : goal.invariant-loop-signer
invariant-loop-signer l =
    let ok : ℕ → Bytes → Bool = λ i s. accepts_at l.epochs.sets.now l.epoch.0 i l.item.height.0 l.item.digest.now s in
    (each_accepted ok (drop l.signer-index l.signers) l.rest ≡ each_accepted ok l.signers l.body)
    × (length l.rest ≡ 64 * (length l.signers - l.signer-index))
