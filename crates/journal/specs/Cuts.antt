-- What a power cut leaves of a journal's value. Assumes nothing.
use Rattle.std.specs.Prelude.{◌≡◌, ℕ, ◌<◌, ◌⊎◌, List, [], ◌∷◌, ◌++◌, take}
use Rattle.journal.specs.Log.{Bytes, Section, Log, all_of}

-- some of a list, in order
unfoldable pub SomeOf : List Bytes → List Bytes → Type 0
SomeOf [] ys = ys ≡ []
SomeOf (x ∷ xs) ys = SomeOf xs ys ⊎ ((zs : List Bytes) × (ys ≡ x ∷ zs) × SomeOf xs zs)

-- what is left of a section: the durable records and some first few of the others; or any of its records, where it was being pruned
unfoldable pub Left : ℕ → Section → List Bytes → Type 0
Left below x ys = ((k : ℕ) × (ys ≡ x.durable ++ take k x.loose)) ⊎ ((x.number < below) × SomeOf (all_of x) ys)

-- a section of durable records in front of others; none where there is no record
unfoldable pub kept : ℕ → List Bytes → List Section → List Section
kept s [] rest = rest
kept s (b ∷ bs) rest = record { number = s; durable = b ∷ bs; loose = [] } ∷ rest

-- what is left of each section
unfoldable pub AllLeft : ℕ → List Section → List Section → Type 0
AllLeft below [] ws = ws ≡ []
AllLeft below (x ∷ xs) ws =
    (ys : List Bytes) × Left below x ys × ((rest : List Section) × AllLeft below xs rest × (ws ≡ kept x.number ys rest))

-- a power cut while the sections below some number were being pruned, 0 where none was: what is left is durable, and the bound is 0
pub record Cut (below : ℕ) (v w : Log) : Type 0 where
  pub bound : w.bound ≡ 0
  pub sections : AllLeft below v.sections w.sections
