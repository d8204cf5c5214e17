use Rattle.std.proofs.Common.{◌≡◌, ℕ, ◌-◌, true, Err, length, drop, sym, refl, ap, ◌∙◌, subst, rules, arith}
use Rattle.areas.specs.Plan.{plan}
use Rattle.areas_writing.specs.Steps.{cleared_from, unders, Clearing}
use Rattle.areas_writing.proofs.Clears.{clear_start, unders_none, clear_again, clear_cut, length-cleared}
use Rattle.power.specs.Power.{Took}
use Rattle.power.proofs.Power.{took_none}
use Rattle.areas_writing.proofs.writes.prune.Goals as goal

pub loop-at-init : goal.loop-at-init
loop-at-init c =
    let n = c.count-at.ensures in
    let p = c.args.power.now in
    let os = plan c.args.medium.now in
    (clear_start c.count-at.result c.args.bound os (omega arith), subst (λ (k : ℕ). Took k true p p) (sym (unders_none c.count-at.result c.args.bound os (omega arith))) (took_none p), refl)

pub clear_at-requires : goal.clear_at-requires
clear_at-requires c =
    let n = c.count-at.ensures in
    let os = plan c.args.medium.now in
    omega (arith, ap length c.loop-at.invariant.0 ∙ length-cleared c.loop-at.at c.args.bound os)

pub loop-at-preserved : goal.loop-at-preserved
loop-at-preserved c =
    let n = c.count-at.ensures in
    let v = c.loop-at.invariant in
    let i = c.loop-at.at - 1 in
    let a = clear_again (plan c.args.medium.now) c.loop-at.medium c.clear_at.new.medium c.args.power.now c.loop-at.power c.clear_at.new.power i c.loop-at.at c.args.bound (omega arith) (omega arith) v.0 v.1 tt c.in_ok-clear_at.ensures.step in
    (a.0, a.1, c.clear_at.ensures.rest ∙ v.2)

pub returns-in_err-clear_at-clause-step : goal.returns-in_err-clear_at-clause-step
returns-in_err-clear_at-clause-step c =
    let n = c.count-at.ensures in
    let v = c.loop-at.invariant in
    let e = c.in_err-clear_at.field-0.0 in
    let told : c.from_residual.result ≡ Err e = search rules in
    let bs = c.args.medium.now in
    let i = c.loop-at.at - 1 in
    let w = clear_cut (plan bs) c.loop-at.medium c.clear_at.new.medium c.args.power.now c.loop-at.power c.clear_at.new.power i c.loop-at.at c.args.bound (omega arith) (omega arith) v.0 v.1 bs e refl c.in_err-clear_at.ensures.step in
    subst (λ r. Clearing bs c.args.power.now c.args.bound r c.clear_at.new.medium c.clear_at.new.power) (sym told) w

pub returns-clause-step : goal.returns-clause-step
unfolding cleared_from
returns-clause-step c =
    let z : c.loop-at.at ≡ 0 = omega arith in
    let v = c.loop-at.invariant in
    let p = c.args.power.now in
    let os = plan c.args.medium.now in
    (v.0 ∙ ap (λ (k : ℕ). cleared_from k c.args.bound os) z, subst (λ (k : ℕ). Took (unders c.args.bound (drop k os)) true p c.loop-at.power) z v.1)
