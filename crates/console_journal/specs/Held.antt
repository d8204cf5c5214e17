-- The journal that is open, as a value: what its medium holds, its bound and its power. Assumes nothing.
use Rattle.std.specs.Prelude.{◌≡◌, ℕ, Bool, List, length, None, Ok, Err, Result}
use Rattle.byte_journal.specs.Value.{disk as bytes_disk, over as bytes_over, append_cost, prune_cost}
use Rattle.journal.specs.Laws.{Op, append, prune}
use Rattle.slots.specs.declared.slot.Slot.{Slot}
use Rattle.slots.specs.Stores.{unders}
use Rattle.slots.specs.Value.{disk as slots_disk, over as slots_over}
use Rattle.console_journal.specs.Doing.{Value, Did}
use Rattle.console_journal.specs.declared.answers.Answer.{Answer}
use Rattle.console_journal.specs.declared.answers.Refusal.{Refusal}
use Rattle.console_journal.specs.declared.open.Carried.{Carried}
use Rattle.console_journal.specs.declared.open.Medium.{Medium}
use Rattle.console_journal.specs.declared.open.Medium.TheVariants.{Slots, Bytes}
use Rattle.console_journal.specs.declared.open.OpenJournal.{OpenJournal}

-- what a medium holds
pub data Stored : Type 0 where
  in_slots : List Slot → Stored
  in_bytes : List ℕ → Stored

abbrev pub stored_in : Medium → Stored
stored_in (Slots xs) = in_slots xs.items
stored_in (Bytes bs) = in_bytes bs.items

-- what the medium holds, what the journal goes on with, and whether it is kept in a file
pub record Held : Type 0 where
  pub stored : Stored
  pub carried : Carried
  pub kept : Bool

abbrev pub held_of : OpenJournal → Held
held_of j = record { stored = stored_in j.medium; carried = j.carried; kept = j.kept }

-- no bound, and power for ever
abbrev pub fresh : Carried
fresh = record { bound = 0; power = None }

-- the journal in these slots, or in these bytes
abbrev pub slots_value : Carried → List Slot → Value
slots_value c xs = record { disk = slots_disk c.bound xs; overrun = slots_over xs; power = c.power }

abbrev pub bytes_value : Carried → List ℕ → Value
bytes_value c bs = record { disk = bytes_disk c.bound bs; overrun = bytes_over bs; power = c.power }

-- how many stores an operation takes: in slots one for a record that is added, and one for each that is dropped
abbrev pub slots_cost : Op → List Slot → ℕ
slots_cost (append s b) xs = 1
slots_cost (prune s) xs = unders s xs
slots_cost other xs = 0

abbrev pub bytes_cost : Op → List ℕ → ℕ
bytes_cost (append s b) bs = append_cost s b bs
bytes_cost (prune s) bs = prune_cost s bs
bytes_cost other bs = 0

-- what an operation leaves of its medium as it was: all, but for an append that is done and for a prune
abbrev pub Stays : {A : Type 0} → Op → Result Answer Refusal → A → A → Type 0
Stays (append s b) (Ok a) old new = Unit {0}
Stays (append s b) (Err e) old new = new ≡ old
Stays (prune s) r old new = Unit {0}
Stays other r old new = new ≡ old

-- an operation on a journal in some medium, with what it goes on with; the medium stays as long as it is
abbrev pub OperatedIn : Op → Stored → Carried → Result Answer Refusal → Stored → Carried → Type 0
OperatedIn op (in_slots xs) c r (in_slots ys) d = Did op (slots_cost op xs) (slots_value c xs) r (slots_value d ys) × Stays op r xs ys × (length ys ≡ length xs)
OperatedIn op (in_bytes bs) c r (in_bytes cs) d = Did op (bytes_cost op bs) (bytes_value c bs) r (bytes_value d cs) × Stays op r bs cs × (length cs ≡ length bs)
OperatedIn op s c r t d = ⊥

-- an operation on the journal that is open
abbrev pub Operated : Op → Held → Result Answer Refusal → Held → Type 0
Operated op h r k = OperatedIn op h.stored h.carried r k.stored k.carried × (k.kept ≡ h.kept)
