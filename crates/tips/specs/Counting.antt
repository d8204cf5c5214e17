-- Tables of counts: how many signers have recorded each height. Assumes nothing.
use Rattle.std.specs.Prelude.{◌≡◌, ℕ, ◌+◌, ◌-◌, min, Bool, true, cond, ◌&&◌, List, [], ◌∷◌, Some, None, Option, nat_le, nat_lt}
use Rattle.std.specs.Option.{unwrap_or, option_map}
use Rattle.table.specs.declared.Entry.{Entry}
use Rattle.table.specs.Ends.{foremost, hindmost}
use Rattle.table.specs.Keys.{shorter}
use Rattle.table.specs.Rows.{at, put, without}
use Rattle.types.specs.Numbers.{Height, number}
use Rattle.tips.specs.Faults.{faults}

-- a row is a height with the number of signers that have recorded it
abbrev pub Rows : Type 0
Rows = List (Entry Height ℕ)

-- how many of the counted tips pass the test p
abbrev pub weigh : (ℕ → Bool) → Rows → ℕ
weigh p [] = 0
weigh p (e ∷ es) = cond (p e.key.0) e.value 0 + weigh p es

-- how many tips are counted
abbrev pub total : Rows → ℕ
total es = weigh (λ _. true) es

-- a table with one tip more at the height h
abbrev pub more : Height → Rows → Rows
more h es = put shorter h (unwrap_or (at shorter h es) 0 + 1) es

-- a table after one of the c tips that it counts at the height h goes; where it counts none there, it stays
abbrev pub taken : Height → Option ℕ → Rows → Rows
taken h None es = es
taken h (Some c) es = cond (nat_lt 1 c) (put shorter h (c - 1) es) (without shorter h es)

-- a table with one tip fewer at the height h, where it has one
abbrev pub fewer : Height → Rows → Rows
fewer h es = taken h (at shorter h es) es

-- a table with one tip at new in place of one at old
abbrev pub shifted : Height → Height → Rows → Rows
shifted old new es = more new (fewer old es)

-- the height of a row
abbrev pub height_of : Entry Height ℕ → Height
height_of e = e.key

-- the least height of a table, and the greatest
abbrev pub least : Rows → Option Height
least es = option_map height_of (foremost es)

abbrev pub greatest : Rows → Option Height
greatest es = option_map height_of (hindmost es)

-- whether h is below every height of a table
abbrev pub under : Height → Rows → Bool
under h [] = true
under h (e ∷ es) = shorter h e.key && under h es

-- whether the heights ascend, each counted at least once
abbrev pub tidy : Rows → Bool
tidy [] = true
tidy (e ∷ es) = nat_lt 0 e.value && (under e.key es && tidy es)

-- n tips of 0
abbrev pub zeros : ℕ → Rows
zeros n = cond (nat_lt 0 n) (record { key = number 0; value = n } ∷ []) []

-- of the tips in the two tables hi has the f highest: of those that are h or above, it has all, or f
abbrev pub Topmost : Rows → Rows → Type 0
Topmost lo hi = (h : ℕ) → weigh (λ x. nat_le h x) hi ≡ min (faults (total lo + total hi)) (weigh (λ x. nat_le h x) lo + weigh (λ x. nat_le h x) hi)
