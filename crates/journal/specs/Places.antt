-- What is still to be read past a place. Assumes nothing.
use Rattle.std.specs.Prelude.{ℕ, Bool, true, false, cond, List, [], ◌∷◌, Some, None, Option, ◌==◌, nat_lt}
use Rattle.journal.specs.Log.{Placed}
use Rattle.journal.specs.declared.places.Place.{Place}
use Rattle.journal.specs.declared.places.Record.{Record}

-- a record that is lent, as a plain value
abbrev pub placed : Record → Placed
placed x = record { section = x.place.section; number = x.place.number; bytes = x.bytes.now }

-- whether a record stands past the n-th of section s in reading order
unfoldable pub past : ℕ → ℕ → Placed → Bool
past s n x = cond (nat_lt s x.section) true (cond (s == x.section) (nat_lt n x.number) false)

-- what stands past the n-th record of section s
unfoldable pub past_place : ℕ → ℕ → List Placed → List Placed
past_place s n [] = []
past_place s n (x ∷ xs) = cond (past s n x) (x ∷ xs) (past_place s n xs)

-- what is still to be read after a place, or all
unfoldable pub beyond : Option Place → List Placed → List Placed
beyond None xs = xs
beyond (Some p) xs = past_place p.section p.number xs

-- the first of a list, if any
unfoldable pub first_of : List Placed → Option Placed
first_of [] = None
first_of (x ∷ xs) = Some x
