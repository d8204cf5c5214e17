-- What a list of epochs holds after another is lent to it. Assumes nothing.
use Rattle.std.specs.Prelude.{◌≡◌, List, Some, None, Ok, Err, Result}
use Rattle.trial.specs.declared.epoch_set.EpochSet.{EpochSet}
use Rattle.trial.specs.declared.fault.ListFault.{ListFault}
use Rattle.trial.specs.Faults.{list_fault}

-- the new list, where it has no fault; else the fault is answered, and the old one is kept
abbrev pub Lent : List EpochSet → List EpochSet → Result (Unit {0}) ListFault → List EpochSet → Type 0
Lent old new (Ok _) after = (list_fault new ≡ None) × (after ≡ new)
Lent old new (Err f) after = (list_fault new ≡ Some f) × (after ≡ old)
