-- Where the next record goes. Assumes nothing.
use Rattle.std.specs.Prelude.{◌≡◌, ℕ, ◌+◌, true, false, List, Some}
use Rattle.slots.specs.declared.slot.Slot.{Slot}
use Rattle.slots.specs.declared.stores.Vacancy.{Vacancy}
use Rattle.slots.specs.Order.{vacant, highest}
use Rattle.slots.specs.Value.{space}

-- the space rule has no room for a record of any length in any section
abbrev pub NoRoom : List Slot → Type 0
NoRoom xs = (s n : ℕ) → space xs s n ≡ false

-- the first free slot, and the age after the highest
pub record Room (v : Vacancy) (xs : List Slot) : Type 0 where
  pub place : vacant xs ≡ Some v.at
  pub age : v.age ≡ highest xs + 1
  pub room : (s n : ℕ) → space xs s n ≡ true
