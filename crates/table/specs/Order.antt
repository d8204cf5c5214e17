-- What an order of keys is. Assumes nothing.
use Rattle.std.specs.Prelude.{◌≡◌, Bool, true, false, cond, Option}
use Rattle.std.specs.declared.cmp.Ordering.{Ordering}
use Rattle.std.specs.Ordering.{partial_lt}

-- a total order, by its test `less`: no key is less than itself, the order is transitive, and neither-less means equal
pub record Total {K : Type 0} (less : K → K → Bool) : Type 0 where
  pub never : (x : K) → less x x ≡ false
  pub trans : (x y z : K) → less x y ≡ true → less y z ≡ true → less x z ≡ true
  pub tied : (x y : K) → less x y ≡ false → less y x ≡ false → x ≡ y

-- the test `less` is a total order, and what `<` answers
pub record Ordered {K : Type 0} (partial_cmp : K → K → Option Ordering) (less : K → K → Bool) : Type 0 where
  pub order : Total less
  pub derived : (x y : K) → partial_lt partial_cmp x y ≡ less x y

-- whether two keys are the same: neither is less
abbrev pub level : {K : Type 0} → (K → K → Bool) → K → K → Bool
level less x y = cond (less x y) false (cond (less y x) false true)
