use Rattle.forms.proofs.writers.tip_ack_len.Goals as goal

pub returns : goal.returns
returns c = c.message_len.ensures _ _ c.args.message.now.ack.digest.now.sized c.args.message.now.ack.signature.now.sized
