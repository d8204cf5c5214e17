-- How long the forms are when they are written.
use Rattle.std.proofs.Common.{◌≡◌, ℕ, ◌+◌, length, arith}
use Rattle.std.proofs.lemmas.List.{length-append}
use Rattle.forms.specs.Uint.{spell}
use Rattle.forms.specs.Values.{Ack, Cert, TipAck, ack, certified, tip}
use Rattle.forms.specs.Writing.{write_ack, write, write_message}

pub length-ack : (a : Ack) → length (write_ack a) ≡ length (spell a.height) + length a.digest + length (spell a.epoch) + length (spell a.signer) + length a.signature
unfolding write_ack
length-ack a = simp length-append (omega arith)

pub length-ack_record : (a : Ack) → length (write (ack a)) ≡ 1 + length (write_ack a)
unfolding write
length-ack_record a = omega arith

pub length-certified : (c : Cert) → length (write (certified c)) ≡ 1 + length (spell c.height) + length c.digest + length c.bytes
unfolding write
length-certified c = simp length-append (omega arith)

pub length-tip : (t : ℕ) → length (write (tip t)) ≡ 1 + length (spell t)
unfolding write
length-tip t = omega arith

pub length-message : (m : TipAck) → length (write_message m) ≡ length (spell m.tip) + length (write_ack m.ack)
unfolding write_message
length-message m = length-append (spell m.tip) (write_ack m.ack)

pub ruleset lengths = (length-ack, length-ack_record, length-certified, length-tip, length-message)
