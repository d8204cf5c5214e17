use Rattle.std.proofs.Common.{rules}
use Rattle.trial.proofs.epoch_list.EpochList.me.Goals as goal

pub returns-clause-own : goal.returns-clause-own
returns-clause-own c = search rules
