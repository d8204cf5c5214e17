-- What is printed of a fault. Assumes nothing.
use Rattle.std.specs.Prelude.{ℕ, List, codes}
use Rattle.fields.specs.Printed.{fault_text as word_text}
use Rattle.journal_commands.specs.declared.faults.Fault.{Fault}
use Rattle.journal_commands.specs.declared.faults.Fault.TheVariants.{Word, Kind, NoAreas}

abbrev pub fault_text : Fault → List ℕ
fault_text (Word fault) = word_text fault
fault_text Kind = codes "a journal is one of bytes, of slots or in a file"
fault_text NoAreas = codes "a journal in a file has 1 area or more"
