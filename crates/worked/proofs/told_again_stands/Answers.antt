use Rattle.worked.proofs.Again.{again}
use Rattle.worked.proofs.told_again_stands.Goals as goal

pub returns : goal.returns
returns c = again
