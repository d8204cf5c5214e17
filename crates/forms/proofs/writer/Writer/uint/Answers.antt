use Rattle.std.proofs.Common.{length, ap, arith}
use Rattle.forms.proofs.Spelling.{spell_last, spell-more, spell-some}
use Rattle.forms.proofs.Puts.{puts_then}
use Rattle.forms.proofs.writer.Writer.uint.Goals as goal

pub byte-requires : goal.byte-requires
byte-requires c = omega (arith, spell-some c.loop-left.left)

pub byte-requires-2 : goal.byte-requires-2
byte-requires-2 c = omega (arith, spell-some c.loop-left.left)

pub loop-left-preserved : goal.loop-left-preserved
loop-left-preserved c =
    let e = spell-more c.loop-left.left c.loop-left-test.true in
    record {
      room = omega (arith, ap length e);
      completes = λ w p. c.loop-left.invariant.completes w (rw e (puts_then c.byte.ensures p));
    }

pub returns : goal.returns
returns c = c.loop-left.invariant.completes _ (rw (spell_last c.loop-left.left c.loop-left-test.false) c.byte-2.ensures)
