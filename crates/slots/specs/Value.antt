-- What a list of slots is worth as a journal. Assumes nothing.
use Rattle.std.specs.Prelude.{◌≡◌, ℕ, suc, ◌+◌, ◌^◌, min, Bool, true, false, cond, List, [], ◌∷◌, take, is_some, Some, None, Option, ◌==◌, nat_lt}
use Rattle.journal.specs.Log.{Bytes, Section, Log, Placed}
use Rattle.journal.specs.Steps.{Disk}
use Rattle.journal.specs.declared.places.Defect.{Defect}
use Rattle.journal.specs.declared.places.Defect.TheVariants.{Length, Age}
use Rattle.journal.specs.declared.places.Overrun.{Overrun}
use Rattle.slots.specs.declared.slot.Slot.{Slot}
use Rattle.slots.specs.declared.SlotJournal.{SlotJournal}
use Rattle.slots.specs.Order.{Cell, key, order, vacant, highest, aged}

-- the record in a slot; a length past 1,068 counts as 1,068
unfoldable pub body : Slot → Bytes
body x = take (min x.len 1068) x.bytes

-- what stands past the end of a list of slots
abbrev pub blank : Slot
blank = record { section = 0; age = 0; len = 0; bytes = [] }

-- one record in front of sections: in the first, where that is its own
unfoldable pub joined : Slot → List Section → List Section
joined x [] = record { number = x.section; durable = body x ∷ []; loose = [] } ∷ []
joined x (y ∷ ys) =
    cond (x.section == y.number) (record { number = y.number; durable = body x ∷ y.durable; loose = y.loose } ∷ ys)
    (record { number = x.section; durable = body x ∷ []; loose = [] } ∷ y ∷ ys)

-- records in reading order as sections, all durable
unfoldable pub grouped : List Cell → List Section
grouped [] = []
grouped (c ∷ cs) = joined c.slot (grouped cs)

-- the space rule: a slot is free, and the age after the highest is below 2^64
unfoldable pub space : List Slot → ℕ → ℕ → Bool
space xs s n = cond (is_some (vacant xs)) (nat_lt (highest xs + 1) (2 ^ 64)) false

-- the log of a list of slots under a bound
abbrev pub log_of : ℕ → List Slot → Log
log_of bound xs = record { bound = bound; sections = grouped (order xs) }

-- the value of a list of slots under a bound, with its space rule; it holds nothing back
abbrev pub disk : ℕ → List Slot → Disk
disk bound xs = record { log = log_of bound xs; room = space xs; flushes = true }

-- the slots of a slot journal
abbrev pub slots_of : SlotJournal → List Slot
slots_of j = j.slots.now

-- the name of the borrow of its slots: while it stays, the journal lies in the slots that were lent
abbrev pub name_of : SlotJournal → ℕ
name_of j = j.slots.ghost_name

-- how many stores its power still lasts, or no limit
abbrev pub power_of : SlotJournal → Option ℕ
power_of j = j.power

-- its bound
abbrev pub bound_of : SlotJournal → ℕ
bound_of j = j.bound

-- the same borrow of slots, and the same bound
abbrev pub SameRest : SlotJournal → SlotJournal → Type 0
SameRest j k = (name_of k ≡ name_of j) × (bound_of k ≡ bound_of j)

-- the value of a slot journal
abbrev pub disk_of : SlotJournal → Disk
disk_of j = disk (bound_of j) (slots_of j)

-- the number of a record, n where it is of section s, the section before it
abbrev pub turn : ℕ → ℕ → Cell → ℕ
turn s n c = cond (s == c.slot.section) n 0

-- records in reading order with their numbers
unfoldable pub listed : ℕ → ℕ → List Cell → List Placed
listed s n [] = []
listed s n (c ∷ cs) = record { section = c.slot.section; number = turn s n c; bytes = body c.slot } ∷ listed c.slot.section (suc (turn s n c)) cs

-- a length past 1,068, or an age that was read before
abbrev pub flaw : ℕ → Bool → Option Defect
flaw len again = cond (nat_lt 1068 len) (Some Length) (cond again (Some Age) None)

-- the defect of a record among these slots
abbrev pub defect : List Slot → Cell → Option Defect
defect xs c = flaw c.slot.len (aged (key c) xs)

-- an overrun at a place where there is a defect, else what comes after
abbrev pub or_on : ℕ → ℕ → Option Defect → Option Overrun → Option Overrun
or_on s n None rest = rest
or_on s n (Some w) rest = Some (record { place = record { section = s; number = n }; what = w })

-- the first record with a defect, where n records of section s were read before
unfoldable pub first_defect : (Cell → Option Defect) → ℕ → ℕ → List Cell → Option Overrun
first_defect f s n [] = None
first_defect f s n (c ∷ cs) = or_on c.slot.section (turn s n c) (f c) (first_defect f c.slot.section (suc (turn s n c)) cs)

-- the first overrun of a list of slots
unfoldable pub over : List Slot → Option Overrun
over xs = first_defect (defect xs) 0 0 (order xs)

-- the first overrun of a slot journal
abbrev pub overrun_of : SlotJournal → Option Overrun
overrun_of j = over (slots_of j)
