-- Keys of a set, and the seats for them. Assumes nothing.
use Rattle.std.proofs.Common.{◌≡◌, Bool, ◌||◌, List, [], ◌∷◌, refl, ap}
use Rattle.std.specs.List.{list_any}
use Rattle.table.specs.Order.{level}
use Rattle.table.specs.Rows.{Above, Sorted}
use Rattle.types.specs.Numbers.{Height}
use Rattle.tips.specs.Seats.{among, seated, opened, Ascending}

module _ {K : Type 0} (less : K → K → Bool) where
  -- a key is among others where it is the same as one of them
  pub among_is : (k : K) (keys : List K) → list_any (λ y. level less y k) keys ≡ among less k keys
  among_is k [] = refl
  among_is k (x ∷ xs) = ap (λ b. level less x k || b) (among_is k xs)

  -- seats for ascending keys are sorted, whatever their tips
  above-seated : (f : K → Height) (k : K) (keys : List K) → Above less k (opened keys) → Above less k (seated f keys)
  above-seated f k [] a = tt
  above-seated f k (x ∷ xs) a = (a.0, above-seated f k xs a.1)

  pub sorted_seated : (f : K → Height) (keys : List K) → Ascending less keys → Sorted less (seated f keys)
  sorted_seated f [] a = tt
  sorted_seated f (x ∷ xs) a = (above-seated f x xs a.0, sorted_seated f xs a.1)
