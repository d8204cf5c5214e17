-- What is printed of a fault. Assumes nothing.
use Rattle.std.specs.Prelude.{ℕ, List, ◌++◌, codes, decimal}
use Rattle.tip_commands.specs.declared.faults.Fault.{Fault}
use Rattle.tip_commands.specs.declared.faults.Fault.TheVariants.{NoNumber, KeyCount, KeyTwice, TipWords}

abbrev pub fault_text : Fault → List ℕ
fault_text (NoNumber place) = codes "word " ++ (decimal place ++ codes " after the command is no number from 0 to 18446744073709551615")
fault_text (KeyCount keys) = codes "a set has 2 to 16 signers, not " ++ decimal keys
fault_text (KeyTwice key) = codes "the key " ++ (decimal key.0 ++ codes " stands twice")
fault_text (TipWords words) = codes "a tip takes a key and a height, 2 words and not " ++ decimal words
