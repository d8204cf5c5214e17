-- The areas of a medium, each as it reads, and what is found among them. Assumes nothing.
use Rattle.std.specs.Prelude.{◌≡◌, ℕ, zero, suc, ◌+◌, ◌*◌, ◌/◌, ◌<◌, ◌≤◌, Bool, true, false, cond, ◌&&◌, List, [], ◌∷◌, map, length, take, drop, Some, None, Option, ◌==◌, nat_le, nat_lt, slice_index_or}
use Rattle.area.specs.Area.{Area, read, fits}

-- the first n parts of 4,096 bytes
unfoldable pub parts : ℕ → List ℕ → List (List ℕ)
parts zero bs = []
parts (suc n) bs = take 4096 bs ∷ parts n (drop 4096 bs)

-- the whole areas of a medium; what is left behind the last of them is not used
unfoldable pub areas_in : List ℕ → List (List ℕ)
areas_in bs = parts (length bs / 4096) bs

-- the bytes of one area
unfoldable pub area_at : ℕ → List ℕ → List ℕ
area_at i bs = take 4096 (drop (i * 4096) bs)

-- what lies behind the last whole area
unfoldable pub rest_of : List ℕ → List ℕ
rest_of bs = drop (length bs / 4096 * 4096) bs

-- each area as it reads
unfoldable pub plan : List ℕ → List (Option Area)
plan bs = map read (areas_in bs)

-- the areas in use for a section, in their order
unfoldable pub areas_of : ℕ → List (Option Area) → List Area
areas_of s [] = []
areas_of s (None ∷ os) = areas_of s os
areas_of s (Some a ∷ os) = cond (s == a.section) (a ∷ areas_of s os) (areas_of s os)

-- whether an area is in use for a section
unfoldable pub owned_by : ℕ → Option Area → Bool
owned_by s None = false
owned_by s (Some a) = s == a.section

-- the first area of a section from a place on: it stands at i, and there is no other of the section between
pub record First (s start i : ℕ) (os : List (Option Area)) : Type 0 where
  pub area : Area
  pub since : start ≤ i
  pub within : i < length os
  pub here : slice_index_or os i None ≡ Some area
  pub section : area.section ≡ s
  pub first : areas_of s (drop start os) ≡ area ∷ areas_of s (drop (i + 1) os)

-- whether an area is free
unfoldable pub spared : List (Option Area) → Bool
spared [] = false
spared (None ∷ os) = true
spared (Some a ∷ os) = spared os

-- whether a section has room for a record of n bytes: behind the records of its one area, or, where it has none, in a free one
unfoldable pub room_in : List Area → Bool → ℕ → Bool
room_in [] free n = free
room_in (a ∷ []) free n = fits 4096 a n
room_in (a ∷ b ∷ os) free n = false

-- the space rule
unfoldable pub room : List (Option Area) → ℕ → ℕ → Bool
room os s n = room_in (areas_of s os) (spared os) n

-- the first records among some areas, if any has a record
unfoldable pub or_else : List (List ℕ) → List (List ℕ) → List (List ℕ)
or_else [] other = other
or_else (r ∷ rs) other = r ∷ rs

unfoldable pub first_records : List Area → List (List ℕ)
first_records [] = []
first_records (a ∷ os) = or_else a.records (first_records os)

-- the records of a section
unfoldable pub records_in : ℕ → List (Option Area) → List (List ℕ)
records_in s os = first_records (areas_of s os)

-- whether there is a record
unfoldable pub some : List (List ℕ) → Bool
some [] = false
some (r ∷ rs) = true

-- whether an area shows the records of a section
unfoldable pub shows : ℕ → Option Area → Bool
shows s None = false
shows s (Some a) = s == a.section && some a.records

-- whether a section is above a number, where one is given
abbrev pub above : Option ℕ → ℕ → Bool
above None s = true
above (Some low) s = nat_lt low s

-- the section of an area that has a record, if it is above
unfoldable pub candidate : Option ℕ → Option Area → Option ℕ
candidate low None = None
candidate low (Some a) = cond (above low a.section && some a.records) (Some a.section) None

-- of two areas the one with the lower section, and of equals the first
unfoldable pub lower : Area → Option Area → Area
lower a None = a
lower a (Some b) = cond (nat_le a.section b.section) a b

-- the area with the lowest section among the candidates
unfoldable pub lowest : Option ℕ → List (Option Area) → Option Area
lowest low [] = None
lowest low (None ∷ os) = lowest low os
lowest low (Some a ∷ os) = cond (above low a.section && some a.records) (Some (lower a (lowest low os))) (lowest low os)
