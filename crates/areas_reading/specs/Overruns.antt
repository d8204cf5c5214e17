-- Where reading the areas of a medium comes to something that is no record and no end. Assumes nothing.
use Rattle.std.specs.Prelude.{ℕ, cond, List, [], ◌∷◌, length, Some, None, Option, nat_le}
use Rattle.area.specs.Area.{Area as Held}
use Rattle.journal.specs.declared.places.Defect.{Defect}
use Rattle.journal.specs.declared.places.Defect.TheVariants.{Area as SecondArea}
use Rattle.journal.specs.declared.places.Overrun.{Overrun}
use Rattle.areas.specs.Plan.{areas_of}

-- something at the place of the n-th record of section s
abbrev pub overrun_at : ℕ → ℕ → Defect → Overrun
overrun_at s n d = record { place = record { section = s; number = n }; what = d }

-- what follows the n records of a section's first area, which has this defect: the defect, or else a second area
unfoldable pub behind : ℕ → ℕ → Option Defect → List Held → Option Overrun
behind s n (Some d) others = Some (overrun_at s n d)
behind s n None [] = None
behind s n None (b ∷ others) = Some (overrun_at s n SecondArea)

-- the overrun of a section with these areas
unfoldable pub overrun_of : ℕ → List Held → Option Overrun
overrun_of s [] = None
overrun_of s (a ∷ others) = behind s (length a.records) a.defect others

-- of two overruns the one in the lower section
abbrev pub earlier : Option Overrun → Option Overrun → Option Overrun
earlier None o = o
earlier (Some x) None = Some x
earlier (Some x) (Some y) = cond (nat_le x.place.section y.place.section) (Some x) (Some y)

-- the overrun of the section of an area
unfoldable pub overrun_by : List (Option Held) → Option Held → Option Overrun
overrun_by all None = None
overrun_by all (Some a) = overrun_of a.section (areas_of a.section all)

-- the first overrun among the sections of some of all areas
unfoldable pub overrun_in : List (Option Held) → List (Option Held) → Option Overrun
overrun_in all [] = None
overrun_in all (o ∷ os) = earlier (overrun_by all o) (overrun_in all os)

-- the first overrun
unfoldable pub overrun : List (Option Held) → Option Overrun
overrun all = overrun_in all all
