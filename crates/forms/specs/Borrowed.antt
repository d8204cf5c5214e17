-- What values that borrow the bytes read say, as plain values. Assumes nothing.
use Rattle.std.specs.Prelude.{◌≡◌, ℕ, ◌+◌, [], ◌∷◌, length, Ok, Err, Result}
use Rattle.forms.specs.declared.faults.Fault.{Fault}
use Rattle.forms.specs.declared.parts.Part.{Part}
use Rattle.forms.specs.declared.parts.Ack.{Ack as AckParts}
use Rattle.forms.specs.declared.parts.Activity.{Activity as ActivityParts}
use Rattle.forms.specs.declared.parts.Activity.TheVariants.{Ack as AckRead, Certified as CertifiedRead, Tip as TipRead}
use Rattle.forms.specs.declared.parts.TipAck.{TipAck as TipAckParts}
use Rattle.forms.specs.Reading.{Piece, Placed, Step}
use Rattle.forms.specs.Values.{Ack, Activity, ack, certified, tip, TipAck}

abbrev pub piece : Part → Piece
piece p = record { bytes = p.bytes.now; at = p.at }

-- the place behind a part
abbrev pub end : Part → ℕ
end p = p.at + length p.bytes.now

-- a step of reading from `old` answers this, and leaves `new`; where it fails, what is left is not read again
abbrev pub Takes : {A : Type 0} → Step A → Piece → Result A Fault → Piece → Type 0
Takes step old (Ok a) new = step old ≡ Ok (record { value = a; left = new })
Takes step old (Err e) new = step old ≡ Err e

abbrev pub told_part : Result Part Fault → Result Piece Fault
told_part (Ok p) = Ok (piece p)
told_part (Err e) = Err e

abbrev pub ack_of : AckParts → Placed Ack
ack_of a =
    record {
      value = record {
        height = a.height.0;
        epoch = a.epoch.0;
        signer = a.signer.0;
        digest = a.digest.bytes.now;
        signature = a.signature.bytes.now;
      };
      places = a.digest.at ∷ a.signature.at ∷ [];
    }

abbrev pub told_ack : Result AckParts Fault → Result (Placed Ack) Fault
told_ack (Ok a) = Ok (ack_of a)
told_ack (Err e) = Err e

abbrev pub activity_of : ActivityParts → Placed Activity
activity_of (AckRead a) = record { value = ack (ack_of a).value; places = (ack_of a).places }
activity_of (CertifiedRead c) =
    record {
      value = certified (record { height = c.height.0; digest = c.digest.bytes.now; bytes = c.certificate.bytes.now });
      places = c.digest.at ∷ c.certificate.at ∷ [];
    }
activity_of (TipRead t) = record { value = tip t.0; places = [] }

-- what the answer of reading a record says
abbrev pub told : Result ActivityParts Fault → Result (Placed Activity) Fault
told (Ok a) = Ok (activity_of a)
told (Err e) = Err e

abbrev pub tip_ack_of : TipAckParts → Placed TipAck
tip_ack_of m = record { value = record { tip = m.tip.0; ack = (ack_of m.ack).value }; places = (ack_of m.ack).places }

-- what the answer of reading a message says
abbrev pub told_message : Result TipAckParts Fault → Result (Placed TipAck) Fault
told_message (Ok m) = Ok (tip_ack_of m)
told_message (Err e) = Err e
