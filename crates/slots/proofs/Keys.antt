-- Reading order is a strict order of keys, total where places differ. Assumes nothing.
use Rattle.std.proofs.Common.{◌≡◌, ◌<◌, ◌≤◌, true, false, ltb, arith}
use Rattle.std.proofs.lemmas.Bool.Decides.{nat_tests}
use Rattle.slots.specs.declared.slot.Key.{Key}
use Rattle.slots.specs.Order.{before}

pub before-trans : (x y z : Key) → before x y ≡ true → before y z ≡ true → before x z ≡ true
before-trans x y z p q = grind (arith, nat_tests)

pub before_asym : (x y : Key) → before x y ≡ true → before y x ≡ false
before_asym x y p = grind (arith, nat_tests)

pub before_self : (x : Key) → before x x ≡ false
before_self x = grind (arith, nat_tests)

pub before-total : (x y : Key) → (x.at ≡ y.at → ⊥) → before x y ≡ false → before y x ≡ true
before-total x y n p = grind (arith, nat_tests)

pub before-section : (x y : Key) → before x y ≡ true → x.section ≤ y.section
before-section x y p = grind (arith, nat_tests)

-- an age above all others comes at the end of its section
pub latest : (x y : Key) → y.age < x.age → before x y ≡ ltb x.section y.section
latest x y h = grind (arith, nat_tests)
