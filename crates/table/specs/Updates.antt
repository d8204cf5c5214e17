-- What `insert` and `remove` leave: the table is the first `used` of the entries old, and what stands behind it is free. Assumes nothing.
use Rattle.std.specs.Prelude.{◌≡◌, ℕ, ◌+◌, ◌-◌, ◌<◌, ◌≤◌, Bool, cond, List, length, take, drop, Some, None, Option, Ok, Err, Result}
use Rattle.table.specs.declared.Entry.{Entry}
use Rattle.table.specs.declared.Full.{Full}
use Rattle.table.specs.Order.{level}
use Rattle.table.specs.Rows.{at, put, without}

-- how many entries the table has after an insertion
abbrev pub grown : {V : Type 0} → ℕ → Result (Option V) Full → ℕ
grown used (Ok None) = used + 1
grown used (Ok (Some v)) = used
grown used (Err full) = used

-- and after a removal
abbrev pub shrunk : {X V : Type 0} → ℕ → List X → Option V → ℕ
shrunk used old (Some v) = length (take used old) - 1
shrunk used old None = used

module _ {K V : Type 0} (less : K → K → Bool) where
  -- the new value stands at k, in a place that was free, or in place of the value there, which is answered; or k is new and no place is free, and nothing changed
  abbrev pub Inserted : K → V → ℕ → List (Entry K V) → List (Entry K V) → Result (Option V) Full → Type 0
  Inserted k v used old new (Ok None) = (used < length old) × (at less k (take used old) ≡ None) × (take (used + 1) new ≡ put less k v (take used old)) × (drop (used + 1) new ≡ drop (used + 1) old)
  Inserted k v used old new (Ok (Some w)) = (at less k (take used old) ≡ Some w) × (take used new ≡ put less k v (take used old)) × (drop used new ≡ drop used old)
  Inserted k v used old new (Err full) = (length old ≤ used) × (at less k old ≡ None) × (new ≡ old)

  -- the entry at k is out, its value is answered, and the last place of the table is free; or there was none, and nothing changed
  abbrev pub Removed : K → ℕ → List (Entry K V) → List (Entry K V) → Option V → Type 0
  Removed k used old new (Some w) = (at less k (take used old) ≡ Some w) × (take (length (take used old) - 1) new ≡ without less k (take used old)) × (drop used new ≡ drop used old)
  Removed k used old new None = (at less k (take used old) ≡ None) × (new ≡ old)

  -- the new table answers o at k, and at every other key what the old one does
  abbrev pub Answers : K → Option V → List (Entry K V) → List (Entry K V) → Type 0
  Answers k o old new = (j : K) → at less j new ≡ cond (level less j k) o (at less j old)

  -- a table is a finite map: after an insertion it answers the value at the key itself, and at every other key what it did; a full one answers what it did at all
  abbrev pub MapInserted : K → V → List (Entry K V) → List (Entry K V) → Result (Option V) Full → Type 0
  MapInserted k v old new (Ok None) = Answers k (Some v) old new
  MapInserted k v old new (Ok (Some w)) = Answers k (Some v) old new
  MapInserted k v old new (Err full) = (j : K) → at less j new ≡ at less j old

  -- after a removal it answers nothing at the key itself, and at every other key what it did
  abbrev pub MapRemoved : K → List (Entry K V) → List (Entry K V) → Type 0
  MapRemoved k old new = Answers k None old new
