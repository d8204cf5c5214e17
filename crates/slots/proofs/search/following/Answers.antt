use Rattle.std.proofs.Common.{◌∙◌, None, rules}
use Rattle.std.proofs.lemmas.Iterator.{YieldsList-from_slice}
use Rattle.std.proofs.lemmas.Iterator.Consumers.{fold_from_yields_List, YieldsList-from_enumerate, YieldsList-at}
use Rattle.slots.specs.Order.{near_slot}
use Rattle.slots.proofs.Sorting.{nearest_is}
use Rattle.slots.proofs.search.following.Goals as goal

pub returns : goal.returns
returns c =
    let nearest = fold_from_yields_List _ (λ b p. near_slot c.args.from b p.0 p.1) None c.fold.result c.fold.ensures.ran
    (YieldsList-from_enumerate (YieldsList-at c.enumerate.ensures.source (YieldsList-from_slice c.args.slots.now (cc))) c.enumerate.ensures.count)
    (λ a x b q k. search rules) in
    nearest ∙ nearest_is c.args.from c.args.slots.now
