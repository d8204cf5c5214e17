use Rattle.std.proofs.Common.{rules}
use Rattle.trial.proofs.list_faults.check_epoch.Goals as goal

pub returns-in-Some-2 : goal.returns-in-Some-2
returns-in-Some-2 c = search rules
