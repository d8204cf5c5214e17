use Rattle.std.proofs.Common.{rules}
use Rattle.trial.proofs.epoch_list.EpochList.sign.Goals as goal

pub returns : goal.returns
returns c = search rules
