use Rattle.std.proofs.Common.{rules}
use Rattle.trial.proofs.epoch_list.EpochList.accepts.Goals as goal

pub returns-then-signer-set : goal.returns-then-signer-set
returns-then-signer-set c = search rules
