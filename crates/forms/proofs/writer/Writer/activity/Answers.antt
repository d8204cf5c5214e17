use Rattle.forms.specs.Writing.{write}
use Rattle.forms.proofs.Puts.{puts_then}
use Rattle.forms.proofs.writer.Writer.activity.Goals as goal

pub returns-in-Ack : goal.returns-in-Ack
unfolding write
returns-in-Ack c = rw c.in-Ack.is (puts_then c.kind.ensures c.ack.ensures)

pub returns-in-Certified : goal.returns-in-Certified
unfolding write
returns-in-Certified c = rw c.in-Certified.is (puts_then c.kind-in-Certified.ensures (puts_then c.uint.ensures (puts_then c.bytes.ensures c.bytes-in-Certified.ensures)))

pub returns-in-Tip : goal.returns-in-Tip
unfolding write
returns-in-Tip c = rw c.in-Tip.is (puts_then c.kind-in-Tip.ensures c.uint-in-Tip.ensures)
