use Rattle.std.proofs.Common.{◌≡◌, map, take}
use Rattle.tips.specs.Seats.{carried}
use Rattle.tips.proofs.seats.change.Given as goal

abbrev pub invariant-loop-key : goal.invariant-loop-key
invariant-loop-key g l = l.tips.items ≡ map (carried g.K.Key.less l.seats) (take l.key-index l.keys)
