-- The values that are written, from the types that hold them. Assumes nothing.
use Rattle.std.specs.Prelude.{◌≡◌, ℕ, List, length}
use Rattle.types.specs.Numbers.{Epoch, Height, Participant}
use Rattle.forms.specs.declared.written.NewAck.{NewAck}
use Rattle.forms.specs.declared.written.NewActivity.{NewActivity}
use Rattle.forms.specs.declared.written.NewActivity.TheVariants.{Ack as AckToWrite, Certified as CertifiedToWrite, Tip as TipToWrite}
use Rattle.forms.specs.declared.written.NewCertified.{NewCertified}
use Rattle.forms.specs.declared.written.NewTipAck.{NewTipAck}
use Rattle.forms.specs.Values.{Ack, Activity, Cert, TipAck, ack, certified, tip}
use Rattle.forms.specs.Writing.{write, write_message}

abbrev pub ack_of : Height → List ℕ → Epoch → Participant → List ℕ → Ack
ack_of h d e s g = record { height = h.0; epoch = e.0; signer = s.0; digest = d; signature = g }

abbrev pub cert_of : Height → List ℕ → List ℕ → Cert
cert_of h d bs = record { height = h.0; digest = d; bytes = bs }

abbrev pub message_of : Height → Height → List ℕ → Epoch → Participant → List ℕ → TipAck
message_of t h d e s g = record { tip = t.0; ack = ack_of h d e s g }

-- what is to be written, as plain values
abbrev pub ack_from : NewAck → Ack
ack_from a = ack_of a.height a.digest.now.bytes a.epoch a.signer a.signature.now.bytes

abbrev pub cert_from : NewCertified → Cert
cert_from c = cert_of c.height c.digest.now.bytes c.certificate.now

abbrev pub activity_from : NewActivity → Activity
activity_from (AckToWrite a) = ack (ack_from a)
activity_from (CertifiedToWrite c) = certified (cert_from c)
activity_from (TipToWrite t) = tip t.0

abbrev pub message_from : NewTipAck → TipAck
message_from m = record { tip = m.tip.0; ack = ack_from m.ack }

-- n bytes are the record of an ack, of a certificate, and a message, with any digest and any signature
abbrev pub AckLen : Height → Epoch → Participant → ℕ → Type 0
AckLen h e s n = (d g : List ℕ) → length d ≡ 32 → length g ≡ 64 → n ≡ length (write (ack (ack_of h d e s g)))

abbrev pub CertifiedLen : Height → List ℕ → ℕ → Type 0
CertifiedLen h bs n = (d : List ℕ) → length d ≡ 32 → n ≡ length (write (certified (cert_of h d bs)))

abbrev pub MessageLen : Height → Height → Epoch → Participant → ℕ → Type 0
MessageLen t h e s n = (d g : List ℕ) → length d ≡ 32 → length g ≡ 64 → n ≡ length (write_message (message_of t h d e s g))
