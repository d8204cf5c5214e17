-- The kind byte of a record. Assumes nothing.
use Rattle.std.specs.Prelude.{◌≡◌, ℕ, ◌<◌, Result, MatchResult}
use Rattle.forms.specs.declared.faults.Fault.{Fault}
use Rattle.forms.specs.declared.faults.Field.TheVariants.{Kind as KindField}
use Rattle.forms.specs.declared.kinds.Kind.{Kind}
use Rattle.forms.specs.declared.kinds.Kind.TheVariants.{Ack, Certified, Tip}
use Rattle.forms.specs.declared.kinds.NoKind.{NoKind}

-- the byte that stands for a kind
abbrev pub code_of : Kind → ℕ
code_of Ack = 0
code_of Certified = 1
code_of Tip = 2

-- the kind with this byte, or none where no kind has it
abbrev pub Decodes : ℕ → Result Kind NoKind → Type 0
Decodes code r = MatchResult r (λ kind. code_of kind ≡ code) (λ _. 2 < code)

-- the first byte of a record is missing, or no kind has it
abbrev pub no_kind_fault : Fault
no_kind_fault = record { field = KindField; at = 0 }
