-- A table in an array of its own as the list of its entries. Assumes nothing.
use Rattle.std.specs.Prelude.{◌≡◌, ℕ, Bool, List, length, take, None, Option, Ok, Err, Result}
use Rattle.table.specs.declared.Entry.{Entry}
use Rattle.table.specs.declared.Full.{Full}
use Rattle.table.specs.declared.tables.Table.{Table}
use Rattle.table.specs.Rows.{at, put}

abbrev pub rows_of : {K V : Type 0} {N : ℕ} → Table K V N → List (Entry K V)
rows_of t = take t.used t.entries

-- the new value stands at k, and the old one is answered; or k is new and all n places are in use, and nothing changed
module _ {K V : Type 0} (less : K → K → Bool) (n : ℕ) where
  abbrev pub Put : K → V → List (Entry K V) → List (Entry K V) → Result (Option V) Full → Type 0
  Put k v old new (Ok o) = (o ≡ at less k old) × (new ≡ put less k v old)
  Put k v old new (Err full) = (length old ≡ n) × (at less k old ≡ None) × (new ≡ old)
