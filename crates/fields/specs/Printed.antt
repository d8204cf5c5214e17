-- What is printed of a fault. Assumes nothing.
use Rattle.std.specs.Prelude.{ℕ, List, ◌++◌, codes, decimal}
use Rattle.fields.specs.declared.faults.Fault.{Fault}
use Rattle.fields.specs.declared.faults.Fault.TheVariants.{Missing, TooMany, NoNumber, NoHex, Length, Long, NoMemory}

-- a word by its place
abbrev pub word_text : ℕ → List ℕ → List ℕ
word_text place rest = codes "word " ++ (decimal place ++ (codes " after the command " ++ rest))

abbrev pub fault_text : Fault → List ℕ
fault_text (Missing place) = word_text place (codes "is missing")
fault_text (TooMany place) = word_text place (codes "is one too many")
fault_text (NoNumber place most) = word_text place (codes "is no number from 0 to " ++ decimal most)
fault_text (NoHex place) = word_text place (codes "is no hex: two digits a byte, or - for no bytes")
fault_text (Length place bytes wanted) = word_text place (codes "has " ++ (decimal bytes ++ (codes " bytes, not " ++ decimal wanted)))
fault_text (Long place bytes most) = word_text place (codes "has " ++ (decimal bytes ++ (codes " bytes, " ++ (decimal most ++ codes " at most"))))
fault_text NoMemory = codes "no memory is left"
