-- Fields and errors in words. Assumes nothing.
use Rattle.std.specs.Prelude.{ℕ, List, ◌++◌, codes, decimal}
use Rattle.forms.specs.declared.faults.Field.{Field}
use Rattle.forms.specs.declared.faults.Field.TheVariants.{Kind, Height, Digest, Epoch, Signer, Signature, Tip, End}
use Rattle.forms.specs.declared.faults.Fault.{Fault}

abbrev pub field_name : Field → List ℕ
field_name Kind = codes "kind"
field_name Height = codes "height"
field_name Digest = codes "digest"
field_name Epoch = codes "epoch"
field_name Signer = codes "signer"
field_name Signature = codes "signature"
field_name Tip = codes "tip"
field_name End = codes "end"

-- the field, and the byte in decimal
abbrev pub fault_text : Fault → List ℕ
fault_text e = field_name e.field ++ (codes " at " ++ decimal e.at)

abbrev pub short_text : List ℕ
short_text = codes "the buffer is too short"
