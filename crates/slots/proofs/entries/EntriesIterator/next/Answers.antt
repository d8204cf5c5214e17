use Rattle.std.proofs.Common.{sym, subst, rules, arith}
use Rattle.std.specs.Iterator.{YieldsFirstBy}
use Rattle.slots.specs.Entries.{turn_of, left}
use Rattle.slots.proofs.Walk.{met, met_left, met_room, none_left}
use Rattle.slots.proofs.entries.EntriesIterator.next.Goals as goal

pub returns-in_err-key-clause-steps : goal.returns-in_err-key-clause-steps
returns-in_err-key-clause-steps c =
    let it = c.args.self.now in
    let none = none_left it.last it.number it.slots.now c.in_err-key.ensures in
    subst (λ r. YieldsFirstBy turn_of left it r it) (sym c.from_residual.ensures) (none, none)

pub bounds-slots-key : goal.bounds-slots-key
bounds-slots-key c = (met c.args.self.now.last c.in_ok-key.key c.args.self.now.slots.now c.in_ok-key.ensures).within

pub offset_bounds-slots-key : goal.offset_bounds-slots-key
offset_bounds-slots-key c = let within = (met c.args.self.now.last c.in_ok-key.key c.args.self.now.slots.now c.in_ok-key.ensures).within in search rules

pub returns-clause-steps : goal.returns-clause-steps
returns-clause-steps c =
    let it = c.args.self.now in
    met_left it.last c.in_ok-key.key it.number c.next_number-number.result it.slots.now (met it.last c.in_ok-key.key it.slots.now c.in_ok-key.ensures) c.next_number-number.ensures

pub returns-clause-goes : goal.returns-clause-goes
returns-clause-goes c =
    let it = c.args.self.now in
    let room = met_room it.last c.in_ok-key.key it.number c.next_number-number.result it.slots.now (met it.last c.in_ok-key.key it.slots.now c.in_ok-key.ensures) c.next_number-number.ensures c.requires in
    record { on = λ _. (room.0, tt, omega (arith, room.1)); keeps = room.0; rests = λ _. tt }
