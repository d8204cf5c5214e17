use Rattle.std.proofs.Common.{length}
use Rattle.forms.specs.declared.writer.Writer.{Writer}
use Rattle.forms.specs.Uint.{spell}
use Rattle.forms.specs.Cursor.{Puts, HasRoom}
use Rattle.forms.proofs.writer.Writer.uint.Given as goal

abbrev pub invariant-loop-left : goal.invariant-loop-left
invariant-loop-left l = record {
  room : HasRoom (length (spell l.left)) l.self;
  completes : (w : Writer) → Puts (spell l.left) l.self w → Puts (spell l.n) l.initial.self w;
}

abbrev pub decreases-loop-left : goal.decreases-loop-left
decreases-loop-left l = l.left
