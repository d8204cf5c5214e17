-- The sections of a journal, read off its areas. Assumes nothing.
use Rattle.std.specs.Prelude.{ℕ, cond, List, [], ◌∷◌, Some, None, Option, ◌==◌, nat_lt}
use Rattle.area.specs.Area.{Area}
use Rattle.journal.specs.Log.{Bytes, Section}

-- a section of durable records
unfoldable pub stored : ℕ → List Bytes → Section
stored s rs = record { number = s; durable = rs; loose = [] }

-- sections in ascending order with one more, in the place of another of its number
unfoldable pub put : ℕ → List Bytes → List Section → List Section
put s rs [] = stored s rs ∷ []
put s rs (x ∷ xs) =
    cond (nat_lt s x.number) (stored s rs ∷ x ∷ xs) (cond (s == x.number) (stored s rs ∷ xs) (x ∷ put s rs xs))

-- those of an area with records come first
unfoldable pub shown : ℕ → List Bytes → List Section → List Section
shown s [] xs = xs
shown s (r ∷ rs) xs = put s (r ∷ rs) xs

-- a section for each area that has a record, and of two areas of one section the first's records: everything stored is durable at once
unfoldable pub sections : List (Option Area) → List Section
sections [] = []
sections (None ∷ os) = sections os
sections (Some a ∷ os) = shown a.section a.records (sections os)
