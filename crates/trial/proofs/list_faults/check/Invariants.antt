use Rattle.std.proofs.Common.{◌≡◌, drop, None}
use Rattle.trial.specs.Epochs.{epoch_number}
use Rattle.trial.specs.Faults.{faults_from}
use Rattle.trial.proofs.list_faults.check.Given as goal

-- what is left has the fault that the whole has
abbrev pub invariant-loop-i : goal.invariant-loop-i
invariant-loop-i l = faults_from l.i-counter (epoch_number l.before) (drop l.i-counter l.sets) ≡ faults_from 0 None l.sets
