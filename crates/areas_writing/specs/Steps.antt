-- What the writers do to the areas of a medium. Assumes nothing.
use Rattle.std.specs.Prelude.{◌≡◌, ℕ, ◌+◌, Bool, true, false, cond, ◌&&◌, ◌⊎◌, List, [], ◌∷◌, ◌++◌, map, length, take, drop, Some, None, Ok, Err, Option, Result, nat_le, nat_lt, slice_index_or, slice_set}
use Rattle.area.specs.Area.{Area, started, pushed}
use Rattle.power.specs.Power.{Took}
use Rattle.journal.specs.declared.stops.Stop.{Stop}
use Rattle.journal.specs.declared.stops.Stop.TheVariants.{Full, Pruned, Off}
use Rattle.areas.specs.Plan.{areas_of, plan, room}

-- one area in the place of another, which stands there
pub record Swapped (was new : Option Area) (old now' : List (Option Area)) : Type 0 where
  pub before : List (Option Area)
  pub behind : List (Option Area)
  pub stood : old ≡ before ++ was ∷ behind
  pub stands : now' ≡ before ++ new ∷ behind

-- a record more in the section's one area, or as the first in an area that was free
abbrev pub Grown : ℕ → List ℕ → List (Option Area) → List (Option Area) → Type 0
Grown s b old new =
    ((a : Area) × (a.section ≡ s) × (areas_of s old ≡ a ∷ []) × (a.defect ≡ None) × Swapped (Some a) (Some (pushed a b)) old new)
    ⊎ ((areas_of s old ≡ []) × Swapped None (Some (pushed (started s) b)) old new)

-- no record more: all as it was, or a free area taken for a section that had none
abbrev pub Stayed : ℕ → List (Option Area) → List (Option Area) → Type 0
Stayed s old new = (new ≡ old) ⊎ ((areas_of s old ≡ []) × Swapped None (Some (started s)) old new)

-- how many stores a record of n bytes takes in a section with these areas: ten more where it has none
unfoldable pub cost_in : List Area → ℕ → ℕ
cost_in [] n = 10 + (n + 4)
cost_in (a ∷ rest) n = n + 4

unfoldable pub cost : List (Option Area) → ℕ → ℕ → ℕ
cost os s n = cost_in (areas_of s os) n

-- whether a record of n bytes is taken into a section
unfoldable pub takes : List (Option Area) → ℕ → ℕ → Bool
takes os s n = nat_le n 1068 && room os s n

-- append: full exactly where the record is not taken, and then nothing changes; where the power goes there is no record more
abbrev pub Adding : List ℕ → Option ℕ → ℕ → List ℕ → Result (Unit {0}) Stop → List ℕ → Option ℕ → Type 0
Adding bs p s b (Ok _) cs q =
    (takes (plan bs) s (length b) ≡ true) × Grown s b (plan bs) (plan cs) × Took (cost (plan bs) s (length b)) true p q
Adding bs p s b (Err Full) cs q = (takes (plan bs) s (length b) ≡ false) × (cs ≡ bs) × (q ≡ p)
Adding bs p s b (Err Pruned) cs q = ⊥
Adding bs p s b (Err Off) cs q =
    (takes (plan bs) s (length b) ≡ true) × Stayed s (plan bs) (plan cs) × Took (cost (plan bs) s (length b)) false p q

-- whether an area is in use for a section below a bound
unfoldable pub under : ℕ → Option Area → Bool
under s None = false
under s (Some a) = nat_lt a.section s

-- an area, free if its section is below a bound
unfoldable pub cleared : ℕ → Option Area → Option Area
cleared s o = cond (under s o) None o

-- the areas from the i-th on free if their sections are below a bound
unfoldable pub cleared_from : ℕ → ℕ → List (Option Area) → List (Option Area)
cleared_from i s os = take i os ++ map (cleared s) (drop i os)

-- how many stores it takes to free an area if its section is below a bound: one where it is
unfoldable pub stores_for : ℕ → Option Area → ℕ
stores_for s o = cond (under s o) 1 0

-- how many stores a prune takes: one for each area of a section below
unfoldable pub unders : ℕ → List (Option Area) → ℕ
unders s [] = 0
unders s (o ∷ os) = stores_for s o + unders s os

-- the i-th area is freed if its section is below a bound, while the power lasts
abbrev pub ClearingAt : List ℕ → Option ℕ → ℕ → ℕ → Result (Unit {0}) Stop → List ℕ → Option ℕ → Type 0
ClearingAt bs p i s (Ok _) cs q =
    (plan cs ≡ slice_set (plan bs) i (cleared s (slice_index_or (plan bs) i None))) × Took (stores_for s (slice_index_or (plan bs) i None)) true p q
ClearingAt bs p i s (Err Full) cs q = ⊥
ClearingAt bs p i s (Err Pruned) cs q = ⊥
ClearingAt bs p i s (Err Off) cs q =
    (plan cs ≡ plan bs) × Took (stores_for s (slice_index_or (plan bs) i None)) false p q

-- prune: the areas of the sections below a bound are freed, from the last to the first, as far as the power lasts
abbrev pub Clearing : List ℕ → Option ℕ → ℕ → Result (Unit {0}) Stop → List ℕ → Option ℕ → Type 0
Clearing bs p s (Ok _) cs q = (plan cs ≡ map (cleared s) (plan bs)) × Took (unders s (plan bs)) true p q
Clearing bs p s (Err Full) cs q = ⊥
Clearing bs p s (Err Pruned) cs q = ⊥
Clearing bs p s (Err Off) cs q =
    ((i : ℕ) × (plan cs ≡ cleared_from i s (plan bs))) × Took (unders s (plan bs)) false p q
