use Rattle.std.proofs.Common.{◌≡◌, Err, length, sym, refl, subst, rules, arith}
use Rattle.areas.specs.Plan.{plan}
use Rattle.areas_writing.specs.Steps.{Adding}
use Rattle.areas_writing.proofs.Adds.{takes_long, takes_none, unbegun, begun}
use Rattle.areas_writing.proofs.writes.begin.Goals as goal

pub returns-then-body-gt-MAX_RECORD-clause-step : goal.returns-then-body-gt-MAX_RECORD-clause-step
returns-then-body-gt-MAX_RECORD-clause-step c =
    (takes_long (plan c.args.medium.now) c.args.section (length c.args.body.now) (omega arith), refl, refl)

pub returns-in_default-clause-step : goal.returns-in_default-clause-step
returns-in_default-clause-step c = (takes_none (plan c.args.medium.now) c.args.section (length c.args.body.now) c.requires c.in_default.ensures, refl, refl)

pub returns-in_err-start_at-clause-step : goal.returns-in_err-start_at-clause-step
returns-in_err-start_at-clause-step c =
    let bs = c.args.medium.now in
    let e = c.in_err-start_at.field-0.0 in
    let told : c.from_residual.result ≡ Err e = search rules in
    let f = c.in-Some.ensures in
    let w = unbegun bs c.args.power.now c.args.section c.in-Some.at c.args.body.now c.requires (omega arith) f.0 f.1 f.2 c.start_at.new.medium c.start_at.new.power e c.start_at.ensures.others c.in_err-start_at.ensures.step in
    subst (λ r. Adding bs c.args.power.now c.args.section c.args.body.now r c.start_at.new.medium c.start_at.new.power) (sym told) w

pub returns-clause-step : goal.returns-clause-step
returns-clause-step c =
    let f = c.in-Some.ensures in
    begun c.args.medium.now c.args.power.now c.args.section c.in-Some.at c.args.body.now c.requires (omega arith) f.0 f.1 f.2 c.start_at.new.medium c.append_at.new.medium c.start_at.new.power c.append_at.new.power c.append_at.result c.start_at.ensures.others c.in_ok-start_at.ensures.step c.append_at.ensures.others c.append_at.ensures.step
