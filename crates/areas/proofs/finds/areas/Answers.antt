use Rattle.std.proofs.Common.{◌∙◌}
use Rattle.areas.proofs.Chunks.{areas_are}
use Rattle.areas.proofs.finds.areas.Goals as goal

pub returns : goal.returns
returns c = c.as_chunks.ensures.front ∙ areas_are c.args.medium.now
