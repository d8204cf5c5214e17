-- The value of a journal: a bound, and the sections in ascending order, each with its durable records and after them the loose ones. Assumes nothing.
use Rattle.std.specs.Prelude.{◌≡◌, ℕ, suc, ◌-◌, ◌<◌, ◌≤◌, max, cond, List, [], ◌∷◌, ◌++◌, map, length, take, drop, ◌==◌, nat_lt}

abbrev pub Bytes : Type 0
Bytes = List ℕ

-- a section: its number, its durable records, and after them those that are not yet durable
pub record Section : Type 0 where
  pub number : ℕ
  pub durable : List Bytes
  pub loose : List Bytes

-- below the bound nothing more is appended
pub record Log : Type 0 where
  pub bound : ℕ
  pub sections : List Section

-- nothing recorded
unfoldable pub empty : Log
empty = record { bound = 0; sections = [] }

-- all records of a section, oldest first
unfoldable pub all_of : Section → List Bytes
all_of x = x.durable ++ x.loose

-- a section with all its records durable
unfoldable pub firm : Section → Section
firm x = record { number = x.number; durable = all_of x; loose = [] }

-- a section with at least its first n records durable
unfoldable pub firm_to : ℕ → Section → Section
firm_to n x =
    record {
      number = x.number;
      durable = x.durable ++ take (n - length x.durable) x.loose;
      loose = drop (n - length x.durable) x.loose;
    }

-- the sections with one record more at the end of section s, not yet durable
unfoldable pub added : ℕ → Bytes → List Section → List Section
added s b [] = record { number = s; durable = []; loose = b ∷ [] } ∷ []
added s b (x ∷ xs) =
    cond (nat_lt s x.number) (record { number = s; durable = []; loose = b ∷ [] } ∷ x ∷ xs)
    (cond (s == x.number) (record { number = x.number; durable = x.durable; loose = x.loose ++ (b ∷ []) } ∷ xs) (x ∷ added s b xs))

-- the sections from s on
unfoldable pub from : ℕ → List Section → List Section
from s [] = []
from s (x ∷ xs) = cond (nat_lt x.number s) (from s xs) (x ∷ from s xs)

-- one record more at the end of section s
unfoldable pub appended : ℕ → Bytes → Log → Log
appended s b v = record { bound = v.bound; sections = added s b v.sections }

-- section s durable
unfoldable pub synced : ℕ → Log → Log
synced s v = record { bound = v.bound; sections = map (λ x. cond (s == x.number) (firm x) x) v.sections }

-- every section durable
unfoldable pub all_synced : Log → Log
all_synced v = record { bound = v.bound; sections = map firm v.sections }

-- what stands before the n-th record of section s durable
unfoldable pub synced_to : ℕ → ℕ → Log → Log
synced_to s n v =
    record {
      bound = v.bound;
      sections = map (λ x. cond (nat_lt x.number s) (firm x) (cond (s == x.number) (firm_to n x) x)) v.sections;
    }

-- the bound raised to s, and no section below s
unfoldable pub pruned : ℕ → Log → Log
pruned s v = record { bound = max s v.bound; sections = from s v.sections }

-- a record with its section and its number there
pub record Placed : Type 0 where
  pub section : ℕ
  pub number : ℕ
  pub bytes : Bytes

-- records of section s, numbered from n on
unfoldable pub numbered : ℕ → ℕ → List Bytes → List Placed
numbered s n [] = []
numbered s n (b ∷ bs) = record { section = s; number = n; bytes = b } ∷ numbered s (suc n) bs

-- all records in reading order: by section, then by age
unfoldable pub reading : List Section → List Placed
reading [] = []
reading (x ∷ xs) = numbered x.number 0 (all_of x) ++ reading xs

-- something holds of each of a list
unfoldable pub All : {X : Type 0} → (X → Type 0) → List X → Type 0
All P [] = Unit {0}
All P (x ∷ xs) = P x × All P xs

-- a section has a record, and no record is longer than 1,068 bytes
pub record Sound (x : Section) : Type 0 where
  pub some : 0 < length (all_of x)
  pub short : All (λ b. length b ≤ 1068) (all_of x)

-- sections in ascending order, all at n or above
unfoldable pub Ascends : ℕ → List Section → Type 0
Ascends n [] = Unit {0}
Ascends n (x ∷ xs) = (n ≤ x.number) × Ascends (suc x.number) xs

-- what is true of every journal's value
pub record Formed (v : Log) : Type 0 where
  pub ascends : Ascends 0 v.sections
  pub sound : All Sound v.sections

-- the same records in the same sections, of which at least as many are durable
pub record FirmerSection (x y : Section) : Type 0 where
  pub number : y.number ≡ x.number
  pub same : all_of y ≡ all_of x
  pub longer : length x.durable ≤ length y.durable

-- the same of each section, in order
unfoldable pub AllFirmer : List Section → List Section → Type 0
AllFirmer [] [] = Unit {0}
AllFirmer [] (y ∷ ys) = ⊥
AllFirmer (x ∷ xs) [] = ⊥
AllFirmer (x ∷ xs) (y ∷ ys) = FirmerSection x y × AllFirmer xs ys

-- the same bound, sections and records, and in each section at least as many durable
pub record Firmer (v w : Log) : Type 0 where
  pub bound : w.bound ≡ v.bound
  pub sections : AllFirmer v.sections w.sections
