-- A set of keys as seats. Assumes nothing.
use Rattle.std.specs.Prelude.{List, map, Ok, Err, Result}
use Rattle.types.specs.Numbers.{Participant}
use Rattle.tip_commands.specs.Order.{Seats, at_zero}
use Rattle.tip_commands.specs.declared.key_sets.KeySet.{KeySet}
use Rattle.tip_commands.specs.declared.faults.Fault.{Fault}

-- the seats of a set: its keys, each with the tip 0
abbrev pub seats_of : KeySet → Seats
seats_of s = at_zero s.keys.items

-- the keys of seats
abbrev pub keys_of : Seats → List Participant
keys_of seats = map (λ e. e.key) seats

-- a set that was read, as its seats
abbrev pub seats_read : Result KeySet Fault → Result Seats Fault
seats_read (Ok s) = Ok (seats_of s)
seats_read (Err e) = Err e
