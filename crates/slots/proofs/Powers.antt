-- How the power runs down. Assumes nothing.
use Rattle.std.proofs.Common.{◌≡◌, ℕ, zero, suc, ◌+◌, ◌<◌, ◌≤◌, Bool, true, false, Ok, Err, List, [], ◌∷◌, length, get_or, take, Option, sym, refl, ap, ◌∙◌, subst, add-one, arith}
use Rattle.power.proofs.Power.{took_none, took_both, took-second}
use Rattle.power.specs.Power.{lit, Took}
use Rattle.slots.specs.declared.slot.Slot.{Slot}
use Rattle.journal.specs.declared.stops.Stop.{Stop}
use Rattle.journal.specs.declared.stops.Stop.TheVariants.{Off}
use Rattle.slots.specs.Value.{blank}
use Rattle.slots.specs.Stores.{stores_for, stores_at, unders, freed_at, swept}
use Rattle.slots.proofs.Loops.{swept_none, swept-more}

-- a stop of stores is that the power did not last
pub lit-err : (b : Bool) (e : Stop) → Err e ≡ lit b → (e ≡ Off) × (b ≡ false)
lit-err true e p = let bad : ◌≡◌ {A = ℕ} 0 1 = cc in absurd (omega arith)
lit-err false e p = (cc, refl)

pub lit_ok : (b : Bool) → Ok tt ≡ lit b → b ≡ true
lit_ok true p = refl
lit_ok false p = let bad : ◌≡◌ {A = ℕ} 0 1 = cc in absurd (omega arith)

unders-next : (s i : ℕ) (xs : List Slot) → i < length xs → unders s (take (suc i) xs) ≡ unders s (take i xs) + stores_at s i xs
unfolding unders
unders-next s i [] h = absurd (omega (arith, h))
unders-next s zero (x ∷ xs) h = omega arith
unders-next s (suc i) (x ∷ xs) h = omega (arith, unders-next s i xs (omega (arith, h)))

unders-front : (s i : ℕ) (xs : List Slot) → unders s (take i xs) ≤ unders s xs
unfolding unders
unders-front s zero xs = omega arith
unders-front s (suc i) [] = omega arith
unders-front s (suc i) (x ∷ xs) = omega (arith, unders-front s i xs)

get_or-swept : (s i : ℕ) (xs : List Slot) → i < length xs → get_or (swept s i xs) i blank ≡ get_or xs i blank
unfolding swept
get_or-swept s i [] h = absurd (omega (arith, h))
get_or-swept s zero (x ∷ xs) h = refl
get_or-swept s (suc i) (x ∷ xs) h = get_or-swept s i xs (omega (arith, h))

-- the first i slots have been gone through, and the power lasted
pub record Swept (s i : ℕ) (p : Option ℕ) (xs ys : List Slot) (q : Option ℕ) : Type 0 where
  pub slots : ys ≡ swept s i xs
  pub power : Took (unders s (take i xs)) true p q

pub swept-start : (s : ℕ) (p : Option ℕ) (xs : List Slot) → Swept s 0 p xs xs p
swept-start s p xs =
    let z : unders s (take 0 xs) ≡ 0 = unfold unders in refl in
    record { slots = swept_none s xs; power = subst (λ n. Took n true p p) (sym z) (took_none p) }

module _ (s i : ℕ) (p : Option ℕ) (xs ys : List Slot) (q : Option ℕ) (w : Swept s i p xs ys q) (h : i < length xs) where
  same : stores_at s i ys ≡ stores_at s i xs
  same = ap (stores_for s) (ap (λ (l : List Slot). get_or l i blank) w.slots ∙ get_or-swept s i xs h)

  next : unders s (take (i + 1) xs) ≡ unders s (take i xs) + stores_at s i xs
  next = ap (λ j. unders s (take j xs)) (add-one i) ∙ unders-next s i xs h

  -- one slot more
  pub swept_on : (zs : List Slot) (r : Option ℕ) → zs ≡ freed_at s i ys → Took (stores_at s i ys) true q r → Swept s (i + 1) p xs zs r
  swept_on zs r e t =
      record {
        slots = e ∙ swept-more s i xs ys h w.slots;
        power = took_both (unders s (take i xs)) (stores_at s i xs) (unders s (take (i + 1) xs)) p q r next w.power (subst (λ n. Took n true q r) same t);
      }

  -- the power did not last
  pub swept_off : (r : Option ℕ) → Took (stores_at s i ys) false q r → Took (unders s xs) false p r
  swept_off r t =
      took-second (unders s (take i xs)) (stores_at s i xs) (unders s xs) p q r (omega (arith, next, unders-front s (i + 1) xs)) w.power (subst (λ n. Took n false q r) same t)
