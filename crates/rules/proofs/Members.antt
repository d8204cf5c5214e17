-- Who is in a list that was filtered, placed into or mapped. Assumes nothing.
use Rattle.std.proofs.Common.{◌≡◌, ℕ, zero, suc, ◌+◌, ◌<◌, ◌≤◌, Bool, true, false, cond, eqb, ltb, ◌⊎◌, List, [], ◌∷◌, map, is_some, Some, None, Option, sym, refl, ap, ◌∙◌, inl, inr, arith, ltb-false, eq-eqb, eqb-true}
use mathlib.Core.List.Memᴰ
use mathlib.Core.List.{Memᴰ}
use Rattle.std.proofs.lemmas.Bool.{cond_both, or_cases, or_left, or_right}
use Rattle.forms.specs.Values.{Cert}
use Rattle.rules.specs.Lists.{those, first, any, placed, from}

module _ {A : Type 0} where
  pub those_in : (p : A → Bool) (y : A) (xs : List A) → Memᴰ y (those p xs) → Memᴰ y xs × (p y ≡ true)
  those_in p y [] m = absurd (Memᴰ.not-nil m)
  those_in p y (x ∷ xs) m = pick (p x) refl (λ u. those_in p y xs u) m
    where
      pick : (b : Bool) → p x ≡ b → (Memᴰ y (those p xs) → Memᴰ y xs × (p y ≡ true)) → Memᴰ y (cond b (x ∷ those p xs) (those p xs)) → Memᴰ y (x ∷ xs) × (p y ≡ true)
      pick true q rest (Memᴰ.head e) = (Memᴰ.head e, ap p e ∙ q)
      pick true q rest (Memᴰ.tail n) = let i = rest n in (Memᴰ.tail i.0, i.1)
      pick false q rest n = let i = rest n in (Memᴰ.tail i.0, i.1)

  pub in_those : (p : A → Bool) (y : A) (xs : List A) → p y ≡ true → Memᴰ y xs → Memᴰ y (those p xs)
  in_those p y [] q m = absurd (Memᴰ.not-nil m)
  in_those p y (x ∷ xs) q (Memᴰ.head e) = cond_both (p x) (x ∷ those p xs) (those p xs) (Memᴰ y) (λ _. Memᴰ.head e) (λ n. let z : ◌≡◌ {A = Bool} true false = sym q ∙ ap p e ∙ n in absurd (let k : ◌≡◌ {A = ℕ} 0 1 = cc in omega arith))
  in_those p y (x ∷ xs) q (Memᴰ.tail m) =
      let i = in_those p y xs q m in
      cond_both (p x) (x ∷ those p xs) (those p xs) (Memᴰ y) (λ _. Memᴰ.tail i) (λ _. i)

  pub placed_in : (below : A → A → Bool) (x y : A) (xs : List A) → Memᴰ y (placed below x xs) → (y ≡ x) ⊎ Memᴰ y xs
  placed_in below x y [] (Memᴰ.head e) = inl e
  placed_in below x y [] (Memᴰ.tail m) = absurd (Memᴰ.not-nil m)
  placed_in below x y (z ∷ xs) m = pick (below x z) (below z x) (λ u. placed_in below x y xs u) m
    where
      pick : (a b : Bool) → (Memᴰ y (placed below x xs) → (y ≡ x) ⊎ Memᴰ y xs) → Memᴰ y (cond a (x ∷ z ∷ xs) (cond b (z ∷ placed below x xs) (x ∷ xs))) → (y ≡ x) ⊎ Memᴰ y (z ∷ xs)
      pick true b rest (Memᴰ.head e) = inl e
      pick true b rest (Memᴰ.tail n) = inr n
      pick false true rest (Memᴰ.head e) = inr (Memᴰ.head e)
      pick false true rest (Memᴰ.tail n) = elim (rest n) [ inl u ↦ inl u | inr u ↦ inr (Memᴰ.tail u) ]
      pick false false rest (Memᴰ.head e) = inl e
      pick false false rest (Memᴰ.tail n) = inr (Memᴰ.tail n)

  pub placed-here : (below : A → A → Bool) (x : A) (xs : List A) → Memᴰ x (placed below x xs)
  placed-here below x [] = Memᴰ.head refl
  placed-here below x (z ∷ xs) =
      let i = placed-here below x xs in
      cond_both (below x z) (x ∷ z ∷ xs) (cond (below z x) (z ∷ placed below x xs) (x ∷ xs)) (Memᴰ x) (λ _. Memᴰ.head refl)
      (λ _. cond_both (below z x) (z ∷ placed below x xs) (x ∷ xs) (Memᴰ x) (λ _. Memᴰ.tail i) (λ _. Memᴰ.head refl))

  pub first_in : (p : A → Bool) (xs : List A) (x : A) → first p xs ≡ Some x → Memᴰ x xs × (p x ≡ true)
  first_in p [] x e = let z : ◌≡◌ {A = ℕ} 0 1 = cc in absurd (omega arith)
  first_in p (y ∷ xs) x e = pick (p y) refl e (λ u. first_in p xs x u)
    where
      pick : (b : Bool) → p y ≡ b → cond b (Some y) (first p xs) ≡ Some x → (first p xs ≡ Some x → Memᴰ x xs × (p x ≡ true)) → Memᴰ x (y ∷ xs) × (p x ≡ true)
      pick true q f rest = let u : y ≡ x = cc in (Memᴰ.head (sym u), ap p (sym u) ∙ q)
      pick false q f rest = let i = rest f in (Memᴰ.tail i.0, i.1)

  pub first_none : (p : A → Bool) (xs : List A) → first p xs ≡ None → (x : A) → Memᴰ x xs → p x ≡ false
  first_none p [] e x m = absurd (Memᴰ.not-nil m)
  first_none p (y ∷ xs) e x m = pick (p y) refl e m (λ u v. first_none p xs u x v)
    where
      pick : (b : Bool) → p y ≡ b → cond b (Some y) (first p xs) ≡ None → Memᴰ x (y ∷ xs) → (first p xs ≡ None → Memᴰ x xs → p x ≡ false) → p x ≡ false
      pick true q f n rest = let z : ◌≡◌ {A = ℕ} 0 1 = cc in absurd (omega arith)
      pick false q f (Memᴰ.head u) rest = ap p u ∙ q
      pick false q f (Memᴰ.tail u) rest = rest f u

  pub some_first : (p : A → Bool) (xs : List A) → is_some (first p xs) ≡ true → (x : A) × (first p xs ≡ Some x)
  some_first p xs e = go (first p xs) refl e
    where
      go : (o : Option A) → first p xs ≡ o → is_some o ≡ true → (x : A) × (first p xs ≡ Some x)
      go None q f = let z : ◌≡◌ {A = ℕ} 0 1 = cc in absurd (omega arith)
      go (Some x) q f = (x, q)

  pub any_in : (p : A → Bool) (xs : List A) → any p xs ≡ true → (x : A) × Memᴰ x xs × (p x ≡ true)
  any_in p [] e = let z : ◌≡◌ {A = ℕ} 0 1 = cc in absurd (omega arith)
  any_in p (x ∷ xs) e =
      elim (or_cases (p x) (any p xs) e) [
        | inl u ↦ (x, Memᴰ.head refl, u)
        | inr u ↦ (let i = any_in p xs u in (i.0, Memᴰ.tail i.1, i.2))
      ]

  pub in_any : (p : A → Bool) (x : A) (xs : List A) → p x ≡ true → Memᴰ x xs → any p xs ≡ true
  in_any p x [] q m = absurd (Memᴰ.not-nil m)
  in_any p x (y ∷ xs) q (Memᴰ.head e) = or_left (p y) (any p xs) (ap p (sym e) ∙ q)
  in_any p x (y ∷ xs) q (Memᴰ.tail m) = or_right (p y) (any p xs) (in_any p x xs q m)

  pub map_in_lem : {B : Type 0} (f : B → A) (y : A) (xs : List B) → Memᴰ y (map f xs) → (x : B) × Memᴰ x xs × (y ≡ f x)
  map_in_lem f y [] m = absurd (Memᴰ.not-nil m)
  map_in_lem f y (x ∷ xs) (Memᴰ.head e) = (x, Memᴰ.head refl, e)
  map_in_lem f y (x ∷ xs) (Memᴰ.tail m) = let i = map_in_lem f y xs m in (i.0, Memᴰ.tail i.1, i.2)

-- a certificate of some height stays among certificates that others are placed into
abbrev pub of_height : ℕ → Cert → Bool
of_height h c = eqb c.height h

pub any-placed : (h : ℕ) (c : Cert) (xs : List Cert) → any (of_height h) xs ≡ true → any (of_height h) (placed (λ a b. ltb a.height b.height) c xs) ≡ true
any-placed h c [] e = let z : ◌≡◌ {A = ℕ} 0 1 = cc in absurd (omega arith)
any-placed h c (y ∷ xs) e =
    let i = any-placed h c xs in
    let Q : List Cert → Type 0 = λ l. any (of_height h) l ≡ true in
    cond_both (ltb c.height y.height) (c ∷ y ∷ xs) (cond (ltb y.height c.height) (y ∷ placed (λ a b. ltb a.height b.height) c xs) (c ∷ xs)) Q (λ _. or_right (of_height h c) (any (of_height h) (y ∷ xs)) e)
    (λ a. cond_both (ltb y.height c.height) (y ∷ placed (λ a b. ltb a.height b.height) c xs) (c ∷ xs) Q
    (λ _. elim (or_cases (of_height h y) (any (of_height h) xs) e) [ inl u ↦ or_left (of_height h y) (any (of_height h) (placed (λ a b. ltb a.height b.height) c xs)) u | inr u ↦ or_right (of_height h y) (any (of_height h) (placed (λ a b. ltb a.height b.height) c xs)) (i u) ])
    (λ b. elim (or_cases (of_height h y) (any (of_height h) xs) e) [
      | inl u ↦ (let k = eqb-true y.height h u in let l = ltb-false c.height y.height a in let m = ltb-false y.height c.height b in or_left (of_height h c) (any (of_height h) xs) (eq-eqb c.height h (omega arith)))
      | inr u ↦ or_right (of_height h c) (any (of_height h) xs) u
    ]))

-- numbers from a on
pub from_in : (h a n : ℕ) → Memᴰ h (from a n) → (a ≤ h) × (h < a + n)
from_in h a zero m = absurd (Memᴰ.not-nil m)
from_in h a (suc n) (Memᴰ.head e) = (omega arith, omega arith)
from_in h a (suc n) (Memᴰ.tail m) = let i = from_in h (a + 1) n m in (omega arith, omega arith)

pub in_from : (h a n : ℕ) → a ≤ h → h < a + n → Memᴰ h (from a n)
in_from h a zero l u = absurd (omega arith)
in_from h a (suc n) l u = go (eqb h a) refl (λ d. in_from h (a + 1) n d (omega arith))
  where
    go : (b : Bool) → eqb h a ≡ b → (a + 1 ≤ h → Memᴰ h (from (a + 1) n)) → Memᴰ h (a ∷ from (a + 1) n)
    go true e rest = Memᴰ.head (eqb-true h a e)
    go false e rest = Memᴰ.tail (rest (let d = borrow.Author.Tests.eqb-false h a e in omega arith))
