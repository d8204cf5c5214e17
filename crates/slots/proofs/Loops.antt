-- One turn of going through the slots to free them. Assumes nothing.
use Rattle.std.proofs.Common.{◌≡◌, ℕ, zero, suc, ◌+◌, ◌<◌, List, [], ◌∷◌, length, sym, refl, ap, ◌∙◌, add-one, arith}
use Rattle.slots.specs.declared.slot.Slot.{Slot}
use Rattle.slots.specs.Stores.{freed, freed_at, swept}

pub swept_none : (s : ℕ) (xs : List Slot) → xs ≡ swept s 0 xs
unfolding swept
swept_none s xs = refl

swept-next : (s i : ℕ) (xs : List Slot) → i < length xs → freed_at s i (swept s i xs) ≡ swept s (suc i) xs
unfolding swept
swept-next s i [] h = absurd (omega (arith, h))
swept-next s zero (x ∷ xs) h = refl
swept-next s (suc i) (x ∷ xs) h = ap (λ (l : List Slot). freed s x ∷ l) (swept-next s i xs (omega (arith, h)))

-- one slot more is gone through
pub swept-more : (s i : ℕ) (xs ys : List Slot) → i < length xs → ys ≡ swept s i xs → freed_at s i ys ≡ swept s (i + 1) xs
swept-more s i xs ys h e = ap (freed_at s i) e ∙ swept-next s i xs h ∙ ap (λ j. swept s j xs) (sym (add-one i))
