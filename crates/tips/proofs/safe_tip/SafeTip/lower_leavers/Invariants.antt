use Rattle.tips.specs.Seats.{tip_of}
use Rattle.tips.specs.Tips.{Recorded}
use Rattle.tips.proofs.Leaving.{Halfway}
use Rattle.tips.proofs.safe_tip.SafeTip.lower_leavers.Given as goal

abbrev pub invariant-loop-seat : goal.invariant-loop-seat
invariant-loop-seat g l = Recorded tip_of l.seats l.initial.self → Halfway g.K.Key.less l.keys l.seats l.seat-index l.self
