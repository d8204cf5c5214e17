-- What is printed of a fault. Assumes nothing.
use Rattle.std.specs.Prelude.{ℕ, List, ◌++◌, codes, decimal}
use Rattle.fields.specs.Printed as field
use Rattle.provider_commands.specs.declared.faults.Fault.{Fault}
use Rattle.provider_commands.specs.declared.faults.Fault.TheVariants.{Word, NoKind, NoOwn, NoSignature}

abbrev pub fault_text : Fault → List ℕ
fault_text (Word fault) = field.fault_text fault
fault_text NoKind = codes "word 1 after the command is no provider: listed or pooled"
fault_text NoOwn = codes "word 2 after the command is no own signer: me= and a number, or me=none"
fault_text (NoSignature place) = codes "word " ++ (decimal place ++ codes " after the command is no signature: a signer, a colon and 64 bytes in hex")
