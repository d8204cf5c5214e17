use Rattle.tips.specs.Tables.{rows_of}
use Rattle.tips.proofs.Changes.{lowered, cleared}
use Rattle.tips.proofs.counts.Counts.dec.Goals as goal

pub invariant_of-self : goal.invariant_of-self
invariant_of-self c =
    let s = c.args.self.now in
    record { counted = (lowered c.args.height (rows_of s) _ s.counted _ c.count-count.ensures c.if-count-gt1.true c.insert.result c.insert.ensures).1 }

pub invariant_of-self-else-count-gt1 : goal.invariant_of-self-else-count-gt1
invariant_of-self-else-count-gt1 c =
    let s = c.args.self.now in
    record { counted = (cleared c.args.height (rows_of s) _ s.counted _ c.count-count.ensures c.if-count-gt1.false c.remove.ensures.rows).1 }

pub returns-else-count-gt1 : goal.returns-else-count-gt1
returns-else-count-gt1 c =
    let s = c.args.self.now in
    (cleared c.args.height (rows_of s) _ s.counted _ c.count-count.ensures c.if-count-gt1.false c.remove.ensures.rows).0
