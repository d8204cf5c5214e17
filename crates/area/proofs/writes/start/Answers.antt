use Rattle.std.proofs.Common.{arith}
use Rattle.area.proofs.Heads.{started_from}
use Rattle.area.proofs.writes.start.Goals as goal

pub returns : goal.returns
returns c =
    started_from c.args.area.now c.store_head.new.area c.args.power.now c.store_head.new.power c.args.section c.store_head.result c.if-area-ne-NO_MARK.false (omega arith) c.ranges.section.fits c.store_head.ensures
