-- Seats in ascending order, as a test and as a fact.
use Rattle.std.proofs.Common.{◌≡◌, true, [], ◌∷◌, refl}
use Rattle.std.proofs.lemmas.Bool.{and_parts, and_from}
use Rattle.table.specs.Keys.{ahead}
use Rattle.table.specs.Rows.{Above, Sorted}
use Rattle.types.specs.Numbers.{Participant}
use Rattle.tip_commands.specs.Order.{Seats, leads, ascends}

to_above : (k : Participant) (es : Seats) → leads k es ≡ true → Above ahead k es
to_above k [] e = tt
to_above k (x ∷ es) e = let p = and_parts _ _ e in (p.0, to_above k es p.1)

from-above : (k : Participant) (es : Seats) → Above ahead k es → leads k es ≡ true
from-above k [] a = refl
from-above k (x ∷ es) a = and_from _ _ a.0 (from-above k es a.1)

pub to_sorted : (es : Seats) → ascends es ≡ true → Sorted ahead es
to_sorted [] e = tt
to_sorted (x ∷ es) e = let p = and_parts _ _ e in (to_above x.key es p.0, to_sorted es p.1)

pub from_sorted : (es : Seats) → Sorted ahead es → ascends es ≡ true
from_sorted [] s = refl
from_sorted (x ∷ es) s = and_from _ _ (from-above x.key es s.0) (from_sorted es s.1)
