use Rattle.rules.proofs.Bridge.{promises}
use Rattle.rules.proofs.promises_stand.Goals as goal

pub returns : goal.returns
returns c = promises
