use Rattle.std.proofs.Common.{sym, refl, arith}
use Rattle.std.proofs.Output.{has_written_append, has_written_of_eq, writes_in_calls_nil}
use Rattle.text.proofs.Hexes.{spelled-more, spelled_none}
use Rattle.text.proofs.hexadecimal.HexDisplay.fmt.Goals as goal

pub loop-byte-init : goal.loop-byte-init
loop-byte-init g c plain =
    has_written_of_eq g.W.Write.write_str_gives _ _ _ _ (sym spelled_none) (record { wrote = writes_in_calls_nil _ _; plain = plain })

pub loop-byte-preserved : goal.loop-byte-preserved
loop-byte-preserved g c plain =
    let p = c.loop-byte.invariant plain in
    let w = rw (c.in_radix.ensures, c.laid_out.ensures) at c.in_ok-write.ensures.writes in
    let q = w p.plain refl in
    has_written_of_eq g.W.Write.write_str_gives _ _ _ _ (spelled-more c.args.self.now.0.now c.loop-byte.byte-index c.loop-byte-test.true (omega arith))
    (has_written_append g.W.Write.write_str_gives _ _ _ _ _ p q)
