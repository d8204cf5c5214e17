use Rattle.std.proofs.Common.{arith}
use Rattle.tips.specs.Tables.{rows_of}
use Rattle.tips.proofs.Weights.{at-le}
use Rattle.tips.proofs.Changes.{raised}
use Rattle.tips.proofs.counts.Counts.inc.Goals as goal

pub overflow_add-count : goal.overflow_add-count
overflow_add-count c = omega (arith, at-le c.args.height (rows_of c.args.self.now), c.requires, c.count-count.ensures)

pub invariant_of-self : goal.invariant_of-self
invariant_of-self c =
    let s = c.args.self.now in
    record { counted = (raised c.args.height (rows_of s) _ s.counted _ c.count-count.ensures c.requires c.insert.result c.insert.ensures).1 }

pub returns : goal.returns
returns c =
    let s = c.args.self.now in
    (raised c.args.height (rows_of s) _ s.counted _ c.count-count.ensures c.requires c.insert.result c.insert.ensures).0
