use Rattle.std.proofs.Common.{◌≡◌, map, length, take}
use Rattle.types.specs.Numbers.{Height}
use Rattle.tips.specs.Seats.{seated}
use Rattle.tips.proofs.seats.seat_all.Given as goal

abbrev pub invariant-loop-i : goal.invariant-loop-i
invariant-loop-i g l = (f : g.row.K.Denot → Height) → take (length l.keys) l.tips ≡ map f l.keys → take l.i l.seats ≡ seated f (take l.i l.keys)
