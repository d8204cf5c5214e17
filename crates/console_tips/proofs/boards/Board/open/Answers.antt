use Rattle.std.proofs.Common.{length, refl, ap, ◌∙◌}
use Rattle.console_tips.proofs.Seating.{kept, ascending-keys}
use Rattle.console_tips.proofs.boards.Board.open.Goals as goal

pub invariant_of-self-2 : goal.invariant_of-self-2
invariant_of-self-2 c =
    let a = ascending-keys c.args.set.now c.keys.result.now c.keys.ensures.keys in
    let k = kept c.loop-key.seats.items c.init.new.seats c.init.new.self (c.init.auto.seats ∙ ap length c.deref_mut.ensures.value)
    (c.in_ok-init.ensures.sorted refl a) (c.in_ok-init.ensures.holds refl) in
    record { ascending = k.0; holds = k.1 }
