use Rattle.std.proofs.Common.{length, ap, ◌∙◌}
use Rattle.console_tips.proofs.Seating.{lent, kept, ascending-keys}
use Rattle.console_tips.proofs.boards.Board.change.Goals as goal

pub invariant_of-self : goal.invariant_of-self
invariant_of-self c =
    let b = lent c.args.self.now c.deref_mut.result.now c.deref_mut.ensures.value in
    let a = ascending-keys c.args.set.now c.keys.result.now c.keys.ensures.keys in
    let k = kept c.args.self.now.seats.items c.reconcile.new.seats c.reconcile.new.self (c.reconcile.auto.seats ∙ ap length c.deref_mut.ensures.value)
    (c.reconcile.ensures.sorted b.0 a) (c.reconcile.ensures.holds b.0 a b.1) in
    record { ascending = k.0; holds = k.1 }
