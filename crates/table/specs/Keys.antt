-- The orders of the keys. Assumes nothing.
use Rattle.std.specs.Prelude.{ℕ, Bool, true, false, cond, ◌&&◌, ◌||◌, List, [], ◌∷◌, ◌==◌, nat_lt}
use Rattle.types.specs.declared.bytes.Bytes.{Bytes}
use Rattle.types.specs.declared.numbers.Number.{Number}
use Rattle.types.specs.Numbers.{Height, Participant}
use Rattle.table.specs.declared.keys.Due.{Due}

-- the lower number first
abbrev pub smaller : {K : Type 0} → Number K → Number K → Bool
smaller x y = nat_lt x.0 y.0

-- the lower height first
abbrev pub shorter : Height → Height → Bool
shorter = smaller

-- the lower signer first
abbrev pub ahead : Participant → Participant → Bool
ahead = smaller

-- the earlier deadline first, then the lower height
abbrev pub sooner : Due → Due → Bool
sooner x y = nat_lt x.deadline y.deadline || (x.deadline == y.deadline && nat_lt x.height.0 y.height.0)

-- byte by byte: the first that differs decides, and a text comes before what goes on from it
abbrev pub lower : List ℕ → List ℕ → Bool
lower [] [] = false
lower [] (y ∷ ys) = true
lower (x ∷ xs) [] = false
lower (x ∷ xs) (y ∷ ys) = cond (nat_lt x y) true (cond (nat_lt y x) false (lower xs ys))

-- strings of bytes in the order of their bytes
abbrev pub earlier : {K : Type 0} {N : ℕ} → Bytes K N → Bytes K N → Bool
earlier x y = lower x.bytes y.bytes
