use Rattle.forms.proofs.writers.activity_len.Goals as goal

pub returns-in-Ack : goal.returns-in-Ack
returns-in-Ack c = rw c.in-Ack.is (c.ack_len.ensures _ _ c.in-Ack.ack.digest.now.sized c.in-Ack.ack.signature.now.sized)

pub returns-in-Certified : goal.returns-in-Certified
returns-in-Certified c = rw c.in-Certified.is (c.certified_len.ensures _ c.in-Certified.certified.digest.now.sized)
