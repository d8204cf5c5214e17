use Rattle.forms.specs.Writing.{write_message}
use Rattle.forms.proofs.Puts.{puts_then}
use Rattle.forms.proofs.writer.Writer.message.Goals as goal

pub returns : goal.returns
unfolding write_message
returns c = puts_then c.uint.ensures c.ack.ensures
