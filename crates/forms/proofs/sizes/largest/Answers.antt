use Rattle.forms.proofs.Maxima.{most-tip, most-ack, most-certified, most-message}
use Rattle.forms.proofs.sizes.largest.Goals as goal

pub returns : goal.returns
returns c = record { tip = most-tip; ack = most-ack; certified = most-certified; message = most-message }
