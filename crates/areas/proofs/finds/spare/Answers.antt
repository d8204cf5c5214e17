use Rattle.std.proofs.Common.{not, is_some, rules}
use Rattle.std.proofs.lemmas.Iterator.Search.{position_from_yields_List}
use Rattle.areas.specs.Plan.{plan}
use Rattle.areas.proofs.Chunks.{YieldsList-areas}
use Rattle.areas.proofs.Walks.{spare_from}
use Rattle.areas.proofs.finds.spare.Goals as goal

pub returns : goal.returns
returns c =
    spare_from (plan c.args.medium.now) c.position.result (position_from_yields_List (λ o. not (is_some o)) _ _ c.position.result c.position.ensures.ran (YieldsList-areas c.args.medium.now (cc))
    (λ x b q k. search rules))
