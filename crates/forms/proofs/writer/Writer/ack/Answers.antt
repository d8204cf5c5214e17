use Rattle.forms.specs.Writing.{write_ack}
use Rattle.forms.proofs.Puts.{puts_then}
use Rattle.forms.proofs.writer.Writer.ack.Goals as goal

pub returns : goal.returns
unfolding write_ack
returns c = puts_then c.uint.ensures (puts_then c.bytes.ensures (puts_then c.uint-2.ensures (puts_then c.uint-3.ensures c.bytes-2.ensures)))
