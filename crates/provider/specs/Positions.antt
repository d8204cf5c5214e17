-- The keys of an epoch as an ordered table. Assumes nothing.
use Rattle.std.specs.Prelude.{List, map}
use Rattle.types.specs.Texts.{PublicKey}
use Rattle.table.specs.declared.Entry.{Entry}

-- the keys of a table
abbrev pub row_keys : {V : Type 0} → List (Entry PublicKey V) → List PublicKey
row_keys {V} rows = map (λ (e : Entry PublicKey V). e.key) rows
