-- What is printed of an answer and of a refusal. Assumes nothing.
use Rattle.std.specs.Prelude.{ℕ, List, ◌++◌, Some, None, codes, decimal, string_bytes}
use Rattle.journal.specs.declared.places.Defect.{Defect}
use Rattle.journal.specs.declared.places.Defect.TheVariants.{Mark, Length, Area, Age}
use Rattle.journal.specs.declared.places.Overrun.{Overrun as Past}
use Rattle.journal_commands.specs.Printed.{fault_text}
use Rattle.text.specs.Hex.{hex_of}
use Rattle.console_journal.specs.declared.answers.Answer.{Answer}
use Rattle.console_journal.specs.declared.answers.Answer.TheVariants.{NewBytes, NewSlots, Appended, Synced, SyncedAll, Pruned, WentOff, Read, Overrun, Cut, Power, Damaged, Bytes}
use Rattle.console_journal.specs.declared.answers.Refusal.{Refusal}
use Rattle.console_journal.specs.declared.answers.Refusal.TheVariants.{Words, NoJournal, Full, Pruned as BelowBound, NoBytes, PastEnd, FileLength, NoMemory}

abbrev pub refusal_line : Refusal → List ℕ
refusal_line (Words fault) = codes "refused: " ++ fault_text fault
refusal_line NoJournal = codes "refused: no journal is open, a line \"journal ..\" comes first"
refusal_line Full = codes "refused 27 JournalFull"
refusal_line BelowBound = codes "refused 28 JournalPruned"
refusal_line NoBytes = codes "refused: the journal that is open has slots and no bytes"
refusal_line (PastEnd n) = codes "refused: the journal has " ++ (decimal n ++ codes " bytes, and no others")
refusal_line (FileLength n) = codes "refused: the file has " ++ (decimal n ++ codes " bytes, and not 1 to 1024 areas of 4096")
refusal_line NoMemory = codes "refused: no memory is left"

abbrev pub defect_text : Defect → List ℕ
defect_text Mark = codes "another mark"
defect_text Length = codes "a length past the record or the area"
defect_text Area = codes "a second area"
defect_text Age = codes "an age twice"

abbrev pub overrun_line : Past → List ℕ
overrun_line o = codes "overrun section " ++ (decimal o.place.section ++ (codes " number " ++ (decimal o.place.number ++ (codes ": " ++ defect_text o.what))))

-- one line, and for a reading a line for each record before it
abbrev pub answer_text : Answer → List ℕ
answer_text (NewBytes n) = codes "journal bytes, " ++ (decimal n ++ codes " areas")
answer_text (NewSlots n) = codes "journal slots, " ++ (decimal n ++ codes " slots")
answer_text Appended = codes "appended"
answer_text Synced = codes "synced"
answer_text SyncedAll = codes "synced all"
answer_text Pruned = codes "pruned"
answer_text WentOff = codes "off, the power went"
answer_text (Read lines n) = string_bytes lines ++ (codes "read " ++ (decimal n ++ codes " records"))
answer_text (Overrun lines o) = string_bytes lines ++ overrun_line o
answer_text Cut = codes "cut"
answer_text (Power None) = codes "power without limit"
answer_text (Power (Some n)) = codes "power for " ++ (decimal n ++ codes " stores")
answer_text (Damaged was) = codes "damaged, was " ++ decimal was
answer_text (Bytes bs) = codes "bytes " ++ hex_of bs.items
