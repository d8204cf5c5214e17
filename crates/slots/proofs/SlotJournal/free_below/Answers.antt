use Rattle.std.proofs.Common.{◌≡◌, cond, is_ok, Err, rules, refl, sym, ap, ◌∙◌}
use Rattle.power.specs.Power.{lit}
use Rattle.slots.specs.Stores.{freed_at}
use Rattle.slots.proofs.Powers.{lit-err, lit_ok, swept-start, swept_on, swept_off}
use Rattle.slots.proofs.SlotJournal.free_below.Goals as goal

pub loop-at-init : goal.loop-at-init
loop-at-init c = (swept-start c.args.section c.args.self.now.power c.args.self.now.slots.now, (refl, refl))

pub returns-in_err-free_one-clause-answer : goal.returns-in_err-free_one-clause-answer
returns-in_err-free_one-clause-answer c =
    let told : c.from_residual.result ≡ Err c.in_err-free_one.field-0.0 = search rules in
    let off = lit-err _ _ (sym c.in_err-free_one.was ∙ c.free_one.ensures.answer) in
    told ∙ ap Err off.0 ∙ ap lit (sym (swept_off c.args.section c.loop-at.at c.args.self.now.power c.args.self.now.slots.now c.loop-at.self.slots.now c.loop-at.self.power c.loop-at.invariant.0 c.loop-at-test.true
    c.free_one.new.self.power (off.1, c.free_one.ensures.left)).0)

pub returns-in_err-free_one-clause-left : goal.returns-in_err-free_one-clause-left
returns-in_err-free_one-clause-left c =
    let off = lit-err _ _ (sym c.in_err-free_one.was ∙ c.free_one.ensures.answer) in
    (swept_off c.args.section c.loop-at.at c.args.self.now.power c.args.self.now.slots.now c.loop-at.self.slots.now c.loop-at.self.power c.loop-at.invariant.0 c.loop-at-test.true
    c.free_one.new.self.power (off.1, c.free_one.ensures.left)).1

pub loop-at-preserved : goal.loop-at-preserved
loop-at-preserved c =
    let e = c.free_one.ensures in (
      swept_on c.args.section c.loop-at.at c.args.self.now.power c.args.self.now.slots.now c.loop-at.self.slots.now c.loop-at.self.power c.loop-at.invariant.0 c.loop-at-test.true
          c.free_one.new.self.slots.now c.free_one.new.self.power (e.freed ∙ ap (λ r. cond (is_ok r) (freed_at c.args.section c.loop-at.at c.loop-at.self.slots.now) c.loop-at.self.slots.now) c.in_ok-free_one.was)
          (lit_ok _ (sym c.in_ok-free_one.was ∙ e.answer), e.left),
      (e.same.0 ∙ c.loop-at.invariant.1.0, e.same.1 ∙ c.loop-at.invariant.1.1),
    )
