-- The records of a list of slots in reading order, as they are gone through. Assumes nothing.
use Rattle.std.specs.Prelude.{◌≡◌, ℕ, suc, ◌+◌, ◌≤◌, List, [], ◌∷◌, length}
use Rattle.journal.specs.Log.{Placed}
use Rattle.slots.specs.declared.slot.Slot.{Slot}
use Rattle.slots.specs.declared.entries.Entry.{Entry}
use Rattle.slots.specs.declared.entries.Entries.{Entries}
use Rattle.slots.specs.Order.{Cell, gate, after, order}
use Rattle.slots.specs.Value.{body, turn}

-- a record with its number in its section
pub record Turn : Type 0 where
  pub number : ℕ
  pub cell : Cell

-- records in reading order with their numbers, where n of section s were read before
unfoldable pub turns : ℕ → ℕ → List Cell → List Turn
turns s n [] = []
turns s n (c ∷ cs) = record { number = turn s n c; cell = c } ∷ turns c.slot.section (suc (turn s n c)) cs

-- the record of an entry
abbrev pub turn_of : Entry → Turn
turn_of e = record { number = e.number; cell = record { at = e.at; slot = e.slot.now } }

-- the same as the journal has it
abbrev pub placed_turn : Turn → Placed
placed_turn t = record { section = t.cell.slot.section; number = t.number; bytes = body t.cell.slot }

-- nothing is read yet of the records of section s and later ones
pub record Begun (s : ℕ) (xs : List Slot) (it : Entries) : Type 0 where
  pub slots : it.slots.now ≡ xs
  pub last : it.last ≡ gate s
  pub number : it.number ≡ 0

-- the records that are still to be read
abbrev pub left : Entries → List Turn
left it = turns it.last.section it.number (after it.last (order it.slots.now))

-- those read and those to be read are no more than the slots, so that the count does not overflow
abbrev pub HasRoom : Entries → Type 0
HasRoom it = it.number + length (left it) ≤ length it.slots.now
