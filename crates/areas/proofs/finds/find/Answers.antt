use Rattle.std.proofs.Common.{◌∙◌, sym, rules}
use Rattle.std.proofs.lemmas.Iterator.Adapters.{YieldsList-from_skip}
use Rattle.std.proofs.lemmas.Iterator.Consumers.{YieldsList-at}
use Rattle.std.proofs.lemmas.Iterator.Search.{position_from_yields_List}
use Rattle.areas.specs.Plan.{owned_by, plan}
use Rattle.areas.proofs.Chunks.{YieldsList-areas}
use Rattle.areas.proofs.Walks.{found_none, found_at}
use Rattle.areas.proofs.finds.find.Goals as goal

pub returns-in_err-at : goal.returns-in_err-at
returns-in_err-at c =
    let at = position_from_yields_List (owned_by c.args.section) _ _ c.position.result c.position.ensures.ran (YieldsList-from_skip c.args.«from» (YieldsList-at c.skip.ensures.source (YieldsList-areas c.args.medium.now (cc))) c.skip.ensures.count)
    (λ x b q k. search rules) in
    rw c.from_residual.ensures (found_none c.args.section c.args.«from» (plan c.args.medium.now) (sym c.in_err-at.was ∙ at))

pub returns : goal.returns
returns c =
    let at = position_from_yields_List (owned_by c.args.section) _ _ c.position.result c.position.ensures.ran (YieldsList-from_skip c.args.«from» (YieldsList-at c.skip.ensures.source (YieldsList-areas c.args.medium.now (cc))) c.skip.ensures.count)
    (λ x b q k. search rules) in
    found_at c.args.section c.args.«from» c.in_ok-at.at (plan c.args.medium.now) (sym c.in_ok-at.was ∙ at)
