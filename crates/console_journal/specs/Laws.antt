-- Laws over any list of lines, wherever the power goes in them. Assumes nothing.
use Rattle.std.specs.Prelude.{◌≡◌, ℕ, ◌⊎◌, List, [], ◌∷◌, Result}
use Rattle.journal.specs.Laws.{Op, Spared, Begins, durable_in, Answers, Appends}
use Rattle.journal.specs.Log.{Bytes}
use Rattle.journal.specs.Steps.{Disk}
use Rattle.console_journal.specs.Held.{Stored, in_slots, in_bytes, Held, slots_value, bytes_value, Operated}
use Rattle.console_journal.specs.declared.answers.Answer.{Answer}
use Rattle.console_journal.specs.declared.answers.Refusal.{Refusal}
use Rattle.console_journal.specs.declared.open.Carried.{Carried}

-- the value of the journal that is open
abbrev pub disk_in : Stored → Carried → Disk
disk_in (in_slots xs) c = (slots_value c xs).disk
disk_in (in_bytes bs) c = (bytes_value c bs).disk

abbrev pub disk_of : Held → Disk
disk_of h = disk_in h.stored h.carried

-- lines that are operations on it, one after the other, whatever each is answered
abbrev pub Lines : List Op → Held → Held → Type 0
Lines [] h k = k ≡ h
Lines (o ∷ os) h k = (m : Held) × (r : Result Answer Refusal) × Operated o h r m × Lines os m k

-- the durable records of a section that no line prunes stay, in order, in front
abbrev pub DurableStays : Type 0
DurableStays =
    (os : List Op) (h k : Held) → Lines os h k → (s : ℕ) → Spared s os → Begins (durable_in s (disk_of h).log.sections) (durable_in s (disk_of k).log.sections)

-- reading answers no part of a record, only records that stood there or that a line appended whole
abbrev pub RecordsWhole : Type 0
RecordsWhole =
    (os : List Op) (h k : Held) → Lines os h k → (s : ℕ) (b : Bytes) → Answers s b (disk_of k).log.sections → Answers s b (disk_of h).log.sections ⊎ Appends s b os
