use Rattle.std.proofs.Common.{length, sym, refl, rules}
use Rattle.areas.specs.Plan.{plan}
use Rattle.areas.proofs.Parts.{length-plan}
use Rattle.areas_writing.proofs.Adds.{takes_again, none_again, extended}
use Rattle.areas_writing.proofs.writes.extend.Goals as goal

pub overflow_add-at : goal.overflow_add-at
overflow_add-at c =
    let w = c.requires.within in
    let l = length-plan c.args.medium.now in
    search rules

pub returns-then-is_some-clause-step : goal.returns-then-is_some-clause-step
returns-then-is_some-clause-step c =
    (takes_again (plan c.args.medium.now) c.args.section (length c.args.body.now) c.args.at c.find.result c.requires c.find.ensures (sym c.if-is_some.ensures), refl, refl)

pub returns-clause-step : goal.returns-clause-step
returns-clause-step c =
    let w = c.append_at.ensures in
    let one = none_again (plan c.args.medium.now) c.args.section c.args.at c.find.result c.find.ensures (sym c.if-is_some.ensures) in
    extended c.args.medium.now c.append_at.new.medium c.args.power.now c.append_at.new.power c.args.section c.args.at c.args.body.now c.requires one w.others c.append_at.result w.step w.back
