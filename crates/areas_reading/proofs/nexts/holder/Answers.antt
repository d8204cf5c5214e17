use Rattle.std.proofs.Common.{rules}
use Rattle.std.proofs.lemmas.Iterator.Search.{find_from_yields_List}
use Rattle.areas.specs.Plan.{shows, plan}
use Rattle.areas.proofs.Chunks.{YieldsList-areas}
use Rattle.areas_reading.proofs.Shows.{held_from}
use Rattle.areas_reading.proofs.nexts.holder.Goals as goal

pub returns : goal.returns
returns c =
    held_from c.args.section (plan c.args.medium.now) c.find.result (find_from_yields_List (shows c.args.section) _ _ c.find.result c.find.ensures.ran (YieldsList-areas c.args.medium.now (cc)) (λ x b q k. search rules))
