-- Seats in ascending order of their keys. Assumes nothing.
use Rattle.std.specs.Prelude.{Bool, true, ◌&&◌, List, [], ◌∷◌, map}
use Rattle.table.specs.Keys.{ahead}
use Rattle.table.specs.Rows.{entry}
use Rattle.table.specs.declared.Entry.{Entry}
use Rattle.types.specs.Numbers.{height, Height, Participant}

-- seats: each signer's key with its tip
abbrev pub Seats : Type 0
Seats = List (Entry Participant Height)

-- seats of these keys, each with the tip 0
abbrev pub at_zero : List Participant → Seats
at_zero keys = map (λ k. entry k (height 0)) keys

-- whether k comes before every key
abbrev pub leads : Participant → Seats → Bool
leads k [] = true
leads k (e ∷ es) = ahead k e.key && leads k es

-- whether each key comes before every later one
abbrev pub ascends : Seats → Bool
ascends [] = true
ascends (e ∷ es) = leads e.key es && ascends es
