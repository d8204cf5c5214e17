use Rattle.tips.proofs.Unique.{one}
use Rattle.tips.proofs.laws.safe_tip_is_one.Goals as goal

pub returns : goal.returns
returns c = one
