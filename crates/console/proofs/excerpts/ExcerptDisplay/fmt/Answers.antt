use Rattle.std.proofs.Common.{refl, arith}
use Rattle.std.proofs.Output.{has_written_append, has_written_of_eq, writes_in_calls_nil}
use Rattle.console.proofs.Showing.{shown-more, excerpt-long, excerpt-short}
use Rattle.console.proofs.excerpts.ExcerptDisplay.fmt.Goals as goal

pub loop-byte-init : goal.loop-byte-init
loop-byte-init g c plain = record { wrote = writes_in_calls_nil _ _; plain = plain }

pub loop-byte-preserved : goal.loop-byte-preserved
loop-byte-preserved g c plain =
    let p = c.loop-byte.invariant plain in
    let q = c.in_ok-write.ensures.writes p.plain refl in
    has_written_of_eq g.W.Write.write_str_gives _ _ _ _ (shown-more c.beginning-bytes.result.now c.loop-byte.byte-index c.loop-byte-test.true)
    (has_written_append g.W.Write.write_str_gives _ _ _ _ _ p q)

pub returns-in_ok-write_str-clause-writes : goal.returns-in_ok-write_str-clause-writes
returns-in_ok-write_str-clause-writes g c plain ok =
    let p = c.loop-byte.invariant plain in
    let q = c.in_ok-write_str.ensures.writes p.plain refl in
    has_written_of_eq g.W.Write.write_str_gives _ _ _ _
    (excerpt-long c.args.self.now.0.now c.beginning-bytes.result.now c.loop-byte.byte-index c.beginning-bytes.ensures (omega (arith, c.loop-byte-test.false)) c.if-self-gt32.true)
    (has_written_append g.W.Write.write_str_gives _ _ _ _ _ p q)

pub returns-else-self-gt32-clause-writes : goal.returns-else-self-gt32-clause-writes
returns-else-self-gt32-clause-writes g c plain ok =
    has_written_of_eq g.W.Write.write_str_gives _ _ _ _
    (excerpt-short c.args.self.now.0.now c.beginning-bytes.result.now c.loop-byte.byte-index c.beginning-bytes.ensures (omega (arith, c.loop-byte-test.false)) (omega (arith, c.if-self-gt32.false)))
    (c.loop-byte.invariant plain)
