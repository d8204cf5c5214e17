-- What is printed of an answer and of a refusal. Assumes nothing.
use Rattle.std.specs.Prelude.{ℕ, List, ◌++◌, Ok, Err, codes, decimal, Result, slice_index}
use Rattle.fields.specs.Printed.{fault_text as word_fault}
use Rattle.forms.specs.declared.faults.Fault.{Fault}
use Rattle.forms.specs.Names.{fault_text}
use Rattle.forms.specs.Reading.{Placed, record_at, message_at}
use Rattle.forms.specs.Values.{Ack, Activity, ack, certified, tip, TipAck}
use Rattle.text.specs.Hex.{hex_of}
use Rattle.console_forms.specs.declared.refusals.Refusal.{Refusal}
use Rattle.console_forms.specs.declared.refusals.Refusal.TheVariants.{Words, Decode, Encode}
use Rattle.console_forms.specs.Reading.{Said, as_record, as_message, written}

abbrev pub ack_text : Placed Ack → List ℕ
ack_text p =
    codes "ack height " ++ (decimal p.value.height ++
    (codes " digest " ++ (hex_of p.value.digest ++ (codes " at " ++ (decimal (slice_index p.places 0) ++
    (codes " epoch " ++ (decimal p.value.epoch ++
    (codes " signer " ++ (decimal p.value.signer ++
    (codes " signature " ++ (hex_of p.value.signature ++ (codes " at " ++ decimal (slice_index p.places 1)))))))))))))

abbrev pub activity_text : Placed Activity → List ℕ
activity_text p =
    elim p.value [
      | ack a ↦ ack_text (record { value = a; places = p.places })
      | certified c ↦
          codes "certified height " ++ (decimal c.height ++
          (codes " digest " ++ (hex_of c.digest ++ (codes " at " ++ (decimal (slice_index p.places 0) ++
          (codes " certificate " ++ (hex_of c.bytes ++ (codes " at " ++ decimal (slice_index p.places 1)))))))))
      | tip t ↦ codes "tip height " ++ decimal t
    ]

abbrev pub fault_line : Fault → List ℕ
fault_line f = codes "fault " ++ fault_text f

-- what was read as a record, or the fault
abbrev pub record_text : Result (Placed Activity) Fault → List ℕ
record_text (Ok p) = activity_text p
record_text (Err f) = fault_line f

-- what was read as a message, or the fault
abbrev pub message_text : Result (Placed TipAck) Fault → List ℕ
message_text (Ok p) = codes "message tip " ++ (decimal p.value.tip ++ (codes " " ++ ack_text (record { value = p.value.ack; places = p.places })))
message_text (Err f) = fault_line f

-- bytes are read by the definitions of the forms
abbrev pub answer_line : Said → List ℕ
answer_line (as_record bs) = record_text (record_at bs)
answer_line (as_message bs) = message_text (message_at bs)
answer_line (written bs) = hex_of bs

abbrev pub refusal_line : Refusal → List ℕ
refusal_line (Words fault) = codes "refused: " ++ word_fault fault
refusal_line Decode = codes "refused: word 1 after the command is neither record nor message"
refusal_line Encode = codes "refused: word 1 after the command is none of tip, ack, certified and message"
