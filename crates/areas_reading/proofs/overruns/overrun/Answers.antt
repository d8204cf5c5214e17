use Rattle.std.proofs.Common.{◌∙◌, rules}
use Rattle.std.proofs.lemmas.Iterator.Consumers.{YieldsList-at, YieldsList-from_filter_map}
use Rattle.areas.specs.Plan.{plan}
use Rattle.areas.proofs.Chunks.{YieldsList-areas}
use Rattle.areas_reading.specs.Overruns.{overrun_by}
use Rattle.areas_reading.proofs.Beyond.{first_is}
use Rattle.areas_reading.proofs.Keyed.{first_least}
use Rattle.areas_reading.proofs.overruns.overrun.Goals as goal

pub returns : goal.returns
returns c =
    let all = plan c.args.medium.now in
    first_least _ (λ x. x.place.section) _ (λ x k q t. search rules) c.filter_map.result c.min_by_key.result c.min_by_key.ensures.ran
    (YieldsList-from_filter_map _ (overrun_by all)
    (YieldsList-at c.filter_map.ensures.source (YieldsList-areas c.args.medium.now (cc)))
    c.filter_map.ensures.closure (λ x r q k. search rules))
    ∙ first_is all
