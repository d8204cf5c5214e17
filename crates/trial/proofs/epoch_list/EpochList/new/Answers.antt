use Rattle.std.proofs.Common.{refl}
use Rattle.trial.specs.Faults.{list_fault}
use Rattle.trial.proofs.epoch_list.EpochList.new.Goals as goal

pub invariant_of-result : goal.invariant_of-result
unfolding list_fault
invariant_of-result c = record { sound = refl }
