use Rattle.tips.proofs.Leaving.{begun, is_there, turned, done}
use Rattle.tips.proofs.safe_tip.SafeTip.lower_leavers.Goals as goal

pub loop-seat-init : goal.loop-seat-init
loop-seat-init g c = begun g.K.Key.less c.args.keys.now c.args.seats.now c.args.self.now

pub loop-seat-preserved : goal.loop-seat-preserved
loop-seat-preserved g c r =
    let h = c.loop-seat.invariant r in
    let there = is_there g.K.Key.less c.args.keys.now c.args.seats.now c.loop-seat.seat-index c.loop-seat.self h c.seat-item.result c.loop-seat-test.true c.seat-item.is in
    turned g.K.Key.less c.args.keys.now c.args.seats.now c.loop-seat.seat-index c.loop-seat.self h c.seat-item.result c.loop-seat-test.true c.seat-item.is c.settle.new.self (c.settle.ensures there)

pub returns : goal.returns
returns g c r = done g.K.Key.less c.args.keys.now c.args.seats.now c.loop-seat.self c.loop-seat.seat-index c.loop-seat-test.false (c.loop-seat.invariant r)
