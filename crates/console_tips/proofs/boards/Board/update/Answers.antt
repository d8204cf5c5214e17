use Rattle.std.proofs.Common.{length, ap, ◌∙◌}
use Rattle.console_tips.proofs.Seating.{lent, kept}
use Rattle.console_tips.proofs.boards.Board.update.Goals as goal

pub invariant_of-self : goal.invariant_of-self
invariant_of-self c =
    let b = lent c.args.self.now c.deref_mut.result.now c.deref_mut.ensures.value in
    let k = kept c.args.self.now.seats.items c.update.new.seats c.update.new.self (c.update.auto.seats ∙ ap length c.deref_mut.ensures.value)
    (c.update.ensures.sorted b.0) (c.update.ensures.holds b.1) in
    record { ascending = k.0; holds = k.1 }
