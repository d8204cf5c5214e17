use Rattle.std.proofs.Common.{sym}
use Rattle.areas.proofs.Parts.{length-plan}
use Rattle.areas.proofs.finds.count.Goals as goal

pub returns : goal.returns
returns c = sym (length-plan c.args.medium.now)
