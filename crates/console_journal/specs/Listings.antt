-- The records that reading answers, as they are printed. Assumes nothing.
use Rattle.std.specs.Prelude.{ℕ, Bool, true, cond, List, [], ◌∷◌, ◌++◌, take_while, Some, None, codes, decimal, Option, ◌==◌, nat_lt}
use Rattle.std.specs.List.{flat_map}
use Rattle.journal.specs.Log.{Placed}
use Rattle.journal.specs.declared.places.Overrun.{Overrun}
use Rattle.text.specs.Hex.{hex_of}

-- whether reading comes to the n-th record of section s before the overrun, if there is one
abbrev pub precedes : Option Overrun → ℕ → ℕ → Bool
precedes None s n = true
precedes (Some o) s n = cond (s == o.place.section) (nat_lt n o.place.number) (nat_lt s o.place.section)

-- the records before the overrun
abbrev pub up_to : Option Overrun → List Placed → List Placed
up_to o xs = take_while (λ x. precedes o x.section x.number) xs

abbrev pub record_line : Placed → List ℕ
record_line x = codes "record " ++ (decimal x.section ++ (codes " " ++ (decimal x.number ++ (codes " " ++ hex_of x.bytes))))

-- a line for each of these records
abbrev pub lines : List Placed → List ℕ
lines xs = flat_map (λ x. record_line x ++ (10 ∷ [])) xs
