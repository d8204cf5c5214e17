use Rattle.std.proofs.Common.{◌∙◌, rules, tests}
use Rattle.std.proofs.lemmas.Iterator.{YieldsList-from_slice}
use Rattle.std.proofs.lemmas.Iterator.Search.{any_from_yields_List}
use Rattle.table.specs.Order.{level}
use Rattle.tips.proofs.Keyed.{among_is}
use Rattle.tips.proofs.seats.is_among.Goals as goal

pub returns : goal.returns
returns g c =
    any_from_yields_List (λ y. level g.K.Key.less y c.args.key.now) _ _ _ c.any.ensures.ran (YieldsList-from_slice c.args.keys.now cc) (λ x b q k. search (rules, tests))
    ∙ among_is g.K.Key.less c.args.key.now c.args.keys.now
