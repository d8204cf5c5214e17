-- Where the space rule has room. Assumes nothing.
use Rattle.std.proofs.Common.{◌≡◌, ℕ, ◌+◌, ◌^◌, ◌<◌, ◌≤◌, Bool, true, false, cond, ltb, List, is_some, Some, None, sym, refl, ap, ◌∙◌, arith}
use Rattle.std.proofs.lemmas.Bool.{lt-ltb, le-ltb}
use Rattle.slots.specs.declared.slot.Slot.{Slot}
use Rattle.slots.specs.Order.{vacant, highest}
use Rattle.slots.specs.Value.{space}
use Rattle.slots.specs.Vacancies.{NoRoom}

either_false : (b : Bool) → cond b false false ≡ false
either_false true = refl
either_false false = refl

pub none_free : (xs : List Slot) → None ≡ vacant xs → NoRoom xs
unfolding space
none_free xs e s n = ap (λ o. cond (is_some o) (ltb (highest xs + 1) (2 ^ 64)) false) (sym e)

pub none_young : (xs : List Slot) (h : ℕ) → h ≡ highest xs → (h + 1 < 2 ^ 64 → ⊥) → NoRoom xs
unfolding space
none_young xs h e q s n =
    let ge : 2 ^ 64 ≤ highest xs + 1 = omega (arith, e, q) in
    ap (λ t. cond (is_some (vacant xs)) t false) (le-ltb (highest xs + 1) (2 ^ 64) ge) ∙ either_false (is_some (vacant xs))

pub some_room : (xs : List Slot) (i h : ℕ) → Some i ≡ vacant xs → h ≡ highest xs → h + 1 < 2 ^ 64 → (s n : ℕ) → space xs s n ≡ true
unfolding space
some_room xs i h e f q s n =
    ap (λ o. cond (is_some o) (ltb (highest xs + 1) (2 ^ 64)) false) (sym e) ∙ lt-ltb (highest xs + 1) (2 ^ 64) (omega (arith, f, q))
