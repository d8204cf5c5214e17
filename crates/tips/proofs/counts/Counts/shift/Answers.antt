use Rattle.std.proofs.Common.{ap, arith}
use Rattle.tips.specs.Counting.{total}
use Rattle.tips.specs.Tables.{rows_of}
use Rattle.tips.proofs.Tidy.{counted}
use Rattle.tips.proofs.Shifts.{room}
use Rattle.tips.proofs.counts.Counts.shift.Goals as goal

pub inc-requires : goal.inc-requires
inc-requires c =
    let es = rows_of c.args.self.now in
    omega (arith, ap total c.dec.ensures, room c.args.old c.args.new es (counted es c.args.self.now.counted) c.requires.there, c.requires.few)
