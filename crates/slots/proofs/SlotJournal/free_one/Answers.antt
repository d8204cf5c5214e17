use Rattle.std.proofs.Common.{◌≡◌, sym, ap, ◌∙◌}
use Rattle.std.proofs.lemmas.Bool.{cond-true}
use Rattle.power.specs.Power.{lasts, lit, spent}
use Rattle.slots.specs.Stores.{stores_at}
use Rattle.slots.proofs.SlotJournal.free_one.Goals as goal

pub returns-in_ok-store-clause-answer : goal.returns-in_ok-store-clause-answer
returns-in_ok-store-clause-answer c =
    let one : stores_at c.args.section c.args.at c.args.self.now.slots.now ≡ 1 = cond-true _ _ _ (sym c.is_under.ensures ∙ c.if-is_under.true) in
    sym (c.in_ok-store.was) ∙ c.store.ensures.answer ∙ ap (λ n. lit (lasts n c.args.self.now.power)) (sym one)

pub returns-in_ok-store-clause-left : goal.returns-in_ok-store-clause-left
returns-in_ok-store-clause-left c =
    let one : stores_at c.args.section c.args.at c.args.self.now.slots.now ≡ 1 = cond-true _ _ _ (sym c.is_under.ensures ∙ c.if-is_under.true) in
    c.store.ensures.left ∙ ap (λ n. spent n c.args.self.now.power) (sym one)
