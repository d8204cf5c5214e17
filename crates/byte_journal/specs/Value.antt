-- What a byte journal is worth. Assumes nothing.
use Rattle.std.specs.Prelude.{ℕ, true, List, length, Option}
use Rattle.area.specs.Area.{Area}
use Rattle.areas.specs.Plan.{plan, room}
use Rattle.areas_writing.specs.Steps.{cost, unders}
use Rattle.areas_reading.specs.Overruns.{overrun}
use Rattle.journal.specs.Log.{Bytes, Log}
use Rattle.journal.specs.Steps.{Disk}
use Rattle.journal.specs.declared.places.Overrun.{Overrun}
use Rattle.byte_journal.specs.declared.ByteJournal.{ByteJournal}
use Rattle.byte_journal.specs.Sections.{sections}

-- the log of some areas under a bound
abbrev pub log_of : ℕ → List (Option Area) → Log
log_of bound os = record { bound = bound; sections = sections os }

-- what some bytes are worth under a bound: the log of their areas, and their space rule; nothing is held back
abbrev pub disk : ℕ → List ℕ → Disk
disk bound bs = record { log = log_of bound (plan bs); room = room (plan bs); flushes = true }

-- the first overrun of some bytes
abbrev pub over : List ℕ → Option Overrun
over bs = overrun (plan bs)

-- how many stores it takes to append a record to section s
abbrev pub append_cost : ℕ → Bytes → List ℕ → ℕ
append_cost s b bs = cost (plan bs) s (length b)

-- how many stores it takes to prune the sections below s
abbrev pub prune_cost : ℕ → List ℕ → ℕ
prune_cost s bs = unders s (plan bs)

-- the bytes of a byte journal
abbrev pub bytes_of : ByteJournal → List ℕ
bytes_of j = j.bytes.now

-- how many stores its power still lasts, or no limit
abbrev pub power_of : ByteJournal → Option ℕ
power_of j = j.power

-- its bound
abbrev pub bound_of : ByteJournal → ℕ
bound_of j = j.bound

-- the value of a byte journal
abbrev pub disk_of : ByteJournal → Disk
disk_of j = disk (bound_of j) (bytes_of j)

-- its first overrun
abbrev pub overrun_of : ByteJournal → Option Overrun
overrun_of j = over (bytes_of j)

-- the name of the loan that its bytes are: where two values have one, what lent them ends with the later's bytes
abbrev pub name_of : ByteJournal → ℕ
name_of j = j.bytes.ghost_name
