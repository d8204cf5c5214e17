use Rattle.std.proofs.Common.{ℕ, Option, subst, sym, rules}
use Rattle.std.proofs.lemmas.Iterator.Consumers.{YieldsList-at, YieldsList-from_enumerate, YieldsList-from_filter_map}
use Rattle.areas.specs.Plan.{lowest, plan}
use Rattle.areas.proofs.Chunks.{YieldsList-areas}
use Rattle.areas_reading.specs.Next.{Points}
use Rattle.areas_reading.proofs.Keyed.{first_least}
use Rattle.areas_reading.proofs.Lows.{found, points_at}
use Rattle.areas_reading.proofs.nexts.lowest.Goals as goal

pub returns : goal.returns
returns c =
    let all = plan c.args.medium.now in
    let least = first_least _ (λ p. p.0) _ (λ x k q t. search rules) c.filter_map.result c.min_by_key.result c.min_by_key.ensures.ran
    (YieldsList-from_filter_map _ (found c.args.low)
    (YieldsList-at c.filter_map.ensures.source
    (YieldsList-from_enumerate (YieldsList-at c.enumerate.ensures.source (YieldsList-areas c.args.medium.now (cc))) c.enumerate.ensures.count))
    c.filter_map.ensures.closure (λ x r q k. search rules)) in
    subst (λ (r : Option (ℕ × ℕ)). Points r (lowest c.args.low all) all) (sym least) (points_at c.args.low all)
