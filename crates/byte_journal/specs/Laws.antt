-- What is true of a byte journal besides what is true of every journal. Assumes nothing.
use Rattle.std.specs.Prelude.{◌≡◌, ◌≢◌, ℕ, ◌<◌, true, ◌⊎◌, List, [], ◌∷◌, ◌++◌, Some, None, Ok, Option, Result}
use Rattle.area.specs.Area.{Area}
use Rattle.areas.specs.Plan.{areas_of, plan, records_in, spared}
use Rattle.areas_reading.specs.Overruns.{overrun}
use Rattle.areas_writing.specs.Steps.{Adding, Clearing}
use Rattle.journal.specs.Laws.{durable_in}
use Rattle.journal.specs.Log.{Bytes}
use Rattle.journal.specs.declared.places.Overrun.{Overrun}
use Rattle.journal.specs.declared.stops.Stop.{Stop}
use Rattle.byte_journal.specs.Sections.{sections}

-- the records of each section are those of its first area that has a record
abbrev pub FirstAreaShows : Type 0
FirstAreaShows = (os : List (Option Area)) (s : ℕ) → durable_in s (sections os) ≡ records_in s os

-- a section of which reading is whole: it has no area, or one without a defect
abbrev pub Sound : ℕ → List (Option Area) → Type 0
Sound s os = (areas_of s os ≡ []) ⊎ ((a : Area) × (areas_of s os ≡ a ∷ []) × (a.defect ≡ None))

-- reading has no overrun exactly where every section is sound; and where it has one, those below its section are
abbrev pub FirstOverrun : Type 0
FirstOverrun =
    (os : List (Option Area)) →
    (overrun os ≡ None → (s : ℕ) → Sound s os) × (((s : ℕ) → Sound s os) → overrun os ≡ None) × ((x : Overrun) → overrun os ≡ Some x → (s : ℕ) → s < x.place.section → Sound s os)

-- append, whatever it answers and however many stores the power lasts: every record stays, and the new one is there whole, behind its section's others, or not at all
abbrev pub AppendsWhole : Type 0
AppendsWhole =
    (bs cs : List ℕ) (p q : Option ℕ) (s : ℕ) (b : Bytes) (r : Result (Unit {0}) Stop) → Adding bs p s b r cs q → (t : ℕ) →
    (records_in t (plan cs) ≡ records_in t (plan bs)) ⊎ ((t ≡ s) × (records_in t (plan cs) ≡ records_in t (plan bs) ++ b ∷ []))

-- prune, whatever it answers and however many stores the power lasts: a section has all its records, or, if it is below, none
abbrev pub PrunesWhole : Type 0
PrunesWhole =
    (bs cs : List ℕ) (p q : Option ℕ) (s : ℕ) (r : Result (Unit {0}) Stop) → Clearing bs p s r cs q → (t : ℕ) →
    (records_in t (plan cs) ≡ records_in t (plan bs)) ⊎ ((t < s) × (records_in t (plan cs) ≡ []))

-- where a section with an area was pruned, an area is free
abbrev pub PruneFrees : Type 0
PruneFrees =
    (bs cs : List ℕ) (p q : Option ℕ) (s : ℕ) → Clearing bs p s (Ok tt) cs q → (t : ℕ) → t < s → areas_of t (plan bs) ≢ [] → spared (plan cs) ≡ true
