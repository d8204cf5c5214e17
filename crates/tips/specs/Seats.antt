-- Seats: each signer's key with the tip that it has told. Assumes nothing.
use Rattle.std.specs.Prelude.{ℕ, Bool, false, cond, ◌||◌, List, [], ◌∷◌, map, Some, None, Option, nat_lt}
use Rattle.std.specs.Option.{unwrap_or}
use Rattle.table.specs.declared.Entry.{Entry}
use Rattle.table.specs.Order.{level}
use Rattle.table.specs.Rows.{entry, at, put, Sorted}
use Rattle.types.specs.Numbers.{Height, height}

-- a told tip counts where the tip that the seat records is lower: that one
abbrev pub lower_than : Height → Option Height → Option Height
lower_than t None = None
lower_than t (Some old) = cond (nat_lt old.0 t.0) (Some old) None

module _ {K : Type 0} where
  -- the recorded tip of a seat, and those of all
  abbrev pub tip_of : Entry K Height → ℕ
  tip_of e = e.value.0

  abbrev pub tips_of : List (Entry K Height) → List ℕ
  tips_of seats = map tip_of seats

  -- seats for the keys, in order, each with the tip that f gives it
  abbrev pub seated : (K → Height) → List K → List (Entry K Height)
  seated f keys = map (λ k. entry k (f k)) keys

  -- seats for the keys, in order, with the tip 0
  abbrev pub opened : List K → List (Entry K Height)
  opened keys = seated (λ _. height 0) keys

  module _ (less : K → K → Bool) where
    -- whether k is one of the keys
    abbrev pub among : K → List K → Bool
    among k [] = false
    among k (x ∷ xs) = level less x k || among k xs

    -- the tip that a key brings to the new set: a stayer's own, and 0 for a joiner
    abbrev pub carried : List (Entry K Height) → K → Height
    carried seats k = unwrap_or (at less k seats) (height 0)

    -- what the tables count for a seat once the leavers' tips are lowered: a stayer's tip, and 0 for a leaver
    abbrev pub settled : List K → Entry K Height → Height
    settled keys e = cond (among e.key keys) e.value (height 0)

    -- a change of the set: seats for the new keys, in order; leavers are dropped, stayers keep their tips, joiners start at 0
    abbrev pub reseated : List K → List (Entry K Height) → List (Entry K Height)
    reseated keys seats = seated (carried seats) keys

    -- the seats once a told tip has replaced the old one, if it counted
    abbrev pub seated_after : K → Height → Option Height → List (Entry K Height) → List (Entry K Height)
    seated_after k t None seats = seats
    seated_after k t (Some old) seats = put less k t seats

    -- the keys ascend, so that none stands twice
    abbrev pub Ascending : List K → Type 0
    Ascending keys = Sorted less (opened keys)
