-- Stores, one slot each. Assumes nothing.
use Rattle.std.specs.Prelude.{◌≡◌, ℕ, ◌+◌, ◌<◌, Bool, true, false, cond, List, [], ◌∷◌, ◌++◌, map, length, take, drop, replicate, nat_lt, slice_index_or, slice_set, Ok, Err, Result}
use Rattle.slots.specs.declared.slot.Slot.{Slot}
use Rattle.journal.specs.Log.{Bytes}
use Rattle.journal.specs.declared.stops.Stop.{Stop}
use Rattle.slots.specs.Order.{is_free, highest}
use Rattle.slots.specs.Value.{body, blank}

-- a free slot
abbrev pub free : Slot
free = record { section = 0; age = 0; len = 0; bytes = replicate 1068 0 }

-- a record of a section below s
abbrev pub under : ℕ → Slot → Bool
under s x = cond (is_free x) false (nat_lt x.section s)

-- how many stores it takes to prune one slot: one where a record below is in it
abbrev pub stores_for : ℕ → Slot → ℕ
stores_for s x = cond (under s x) 1 0

-- the same of the slot at a place of the list
abbrev pub stores_at : ℕ → ℕ → List Slot → ℕ
stores_at s i xs = stores_for s (slice_index_or xs i blank)

-- how many stores a prune takes: one for each record below
unfoldable pub unders : ℕ → List Slot → ℕ
unders s [] = 0
unders s (x ∷ xs) = stores_for s x + unders s xs

-- a slot after the sections below s are pruned
abbrev pub freed : ℕ → Slot → Slot
freed s x = cond (under s x) free x

-- the same of one slot of a list
abbrev pub freed_at : ℕ → ℕ → List Slot → List Slot
freed_at s i xs = slice_set xs i (freed s (slice_index_or xs i blank))

-- the slots where the first j have been gone through
unfoldable pub swept : ℕ → ℕ → List Slot → List Slot
swept s j xs = map (freed s) (take j xs) ++ drop j xs

-- the sections below s are pruned, or, where the power went, as far as some place
abbrev pub Sweeping : ℕ → Bool → List Slot → List Slot → Type 0
Sweeping s true xs ys = ys ≡ swept s (length xs) xs
Sweeping s false xs ys = (j : ℕ) × (ys ≡ swept s j xs)

-- a slot holds this record, of this section and age
pub record Holds (s a : ℕ) (b : Bytes) (x : Slot) : Type 0 where
  pub section : x.section ≡ s
  pub age : x.age ≡ a
  pub len : x.len ≡ length b
  pub whole : body x ≡ b

-- append: a slot that was free holds the record, its age one above the highest; refused, or where the power goes, the slots are as they were
abbrev pub Storing : ℕ → Bytes → Result (Unit {0}) Stop → List Slot → List Slot → Type 0
Storing s b (Ok _) xs ys =
    (i : ℕ) × (x : Slot) × (i < length xs) × (is_free (slice_index_or xs i blank) ≡ true) × Holds s (highest xs + 1) b x × (ys ≡ slice_set xs i x)
Storing s b (Err e) xs ys = ys ≡ xs
