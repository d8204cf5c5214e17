-- The record that is read next. Assumes nothing.
use Rattle.std.specs.Prelude.{◌≡◌, slice_index_or, ℕ, ◌+◌, List, Some, None, Option}
use Rattle.std.specs.Option.{option_map}
use Rattle.std.specs.List.{slice_get}
use Rattle.area.specs.Area.{Area}
use Rattle.journal.specs.Log.{Placed}
use Rattle.journal.specs.declared.places.Place.{Place}
use Rattle.areas.specs.Plan.{records_in, lowest}

-- a section and the place of an area, where one is looked for and found
abbrev pub Points : Option (ℕ × ℕ) → Option Area → List (Option Area) → Type 0
Points None o os = o ≡ None
Points (Some p) o os = (a : Area) × (o ≡ Some a) × (p.0 ≡ a.section) × (slice_index_or os p.1 None ≡ Some a)

-- a record of a section with its number
abbrev pub placed_at : ℕ → ℕ → List ℕ → Placed
placed_at s n b = record { section = s; number = n; bytes = b }

-- the first record of an area
abbrev pub leading : Option Area → Option Placed
leading None = None
leading (Some a) = option_map (placed_at a.section 0) (slice_get a.records 0)

-- a record, or else another
abbrev pub or_next : Option Placed → Option Placed → Option Placed
or_next None other = other
or_next (Some x) other = Some x

-- the record past a place: the next of its section, or else the first of the lowest section above
abbrev pub next_of : Option Place → List (Option Area) → Option Placed
next_of None os = leading (lowest None os)
next_of (Some p) os = or_next (option_map (placed_at p.section (p.number + 1)) (slice_get (records_in p.section os) (p.number + 1))) (leading (lowest (Some p.section) os))
