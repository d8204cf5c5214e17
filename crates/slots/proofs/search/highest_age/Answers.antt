use Rattle.std.proofs.Common.{rules, ap, ◌∙◌, unwrap_or}
use Rattle.std.specs.Ordering.{nat_cmp, max_by_ordering}
use Rattle.std.proofs.lemmas.Iterator.{YieldsList-from_slice, YieldsList-from_map}
use Rattle.std.proofs.lemmas.Iterator.Consumers.{reduce_from_yields_List}
use Rattle.std.proofs.lemmas.List.Folds.{max_of_map}
use Rattle.slots.proofs.search.highest_age.Goals as goal

pub returns : goal.returns
returns c =
    let most = reduce_from_yields_List (λ p z. max_by_ordering (nat_cmp p z) p z) c.map.result c.max.result c.max.ensures.ran (YieldsList-from_map _ (λ x. x.age) (YieldsList-from_slice c.args.slots.now (cc)) c.map.ensures.closure (λ x r q k. search rules)) in
    c.unwrap_or.ensures ∙ ap (λ o. unwrap_or o 0) most ∙ max_of_map (λ x. x.age) c.args.slots.now
