-- How many elements of a list there can be, by what they are counted by. Assumes nothing.
use Rattle.std.proofs.Common.{◌≡◌, ℕ, zero, suc, ◌+◌, ◌*◌, ◌<◌, ◌≤◌, Bool, true, false, cond, not, ◌&&◌, ltb, ◌⊎◌, List, [], ◌∷◌, length, refl, subst, inl, inr, ⊎_elim, suc-mul, arith, All}
use Rattle.std.proofs.lemmas.List.Elements.{All-head, All-tail}
use Rattle.std.proofs.lemmas.Bool.{lt-ltb, ltb-true, cases_lt, cond_both, and_parts}
use Rattle.rules.specs.Lists.{those, placed}
use Rattle.rules.specs.Room.{count}
use Rattle.rules.proofs.Calm.{by_cond}

weigh : (a b c : Bool) → (a ≡ true → (b ≡ true) ⊎ (c ≡ true)) → cond a 1 0 ≤ cond b 1 0 + cond c 1 0
weigh true true c h = omega arith
weigh true false true h = omega arith
weigh true false false h = ⊎_elim (λ e. let z : ◌≡◌ {A = ℕ} 0 1 = cc in omega arith) (λ e. let z : ◌≡◌ {A = ℕ} 0 1 = cc in omega arith) (h refl)
weigh false b c h = omega arith

module _ {X : Type 0} where
  pub one : (p : X → Bool) (x : X) (xs : List X) → count p (x ∷ xs) ≡ cond (p x) 1 0 + count p xs
  one p x xs = go (p x)
    where
      go : (b : Bool) → length (cond b (x ∷ those p xs) (those p xs)) ≡ cond b 1 0 + count p xs
      go true = omega arith
      go false = omega arith

  -- what passes q and P holds of passes one of two others
  pub count_split : (P : X → Type 0) (q a b : X → Bool) → ((x : X) → P x → q x ≡ true → (a x ≡ true) ⊎ (b x ≡ true)) → (xs : List X) → All P xs →
      count q xs ≤ count a xs + count b xs
  count_split P q a b h [] l = omega arith
  count_split P q a b h (x ∷ xs) l =
      omega (arith, one q x xs, one a x xs, one b x xs, weigh (q x) (a x) (b x) (h x (All-head P x xs l)), count_split P q a b h xs (All-tail P x xs l))

  pub count_none : (P : X → Type 0) (q : X → Bool) → ((x : X) → P x → q x ≡ true → ⊥) → (xs : List X) → All P xs → count q xs ≡ 0
  count_none P q h [] l = refl
  count_none P q h (x ∷ xs) l = omega (arith, one q x xs, count_none P q h xs (All-tail P x xs l), zeroed (q x) (h x (All-head P x xs l)))
    where
      zeroed : (b : Bool) → (b ≡ true → ⊥) → ◌≡◌ {A = ℕ} (cond b 1 0) 0
      zeroed true f = absurd (f refl)
      zeroed false f = refl

  pub count-all : (xs : List X) → count (λ (_ : X). true) xs ≡ length xs
  count-all [] = refl
  count-all (x ∷ xs) = omega (arith, count-all xs)

  -- pigeons: at most m pass p k, for each of the n numbers k from lo on; so at most n * m pass q, if each that does passes p at its own number
  pub spread : (P : X → Type 0) (xs : List X) → All P xs → (f : X → ℕ) (p : ℕ → X → Bool) (m lo : ℕ) → ((k : ℕ) → count (p k) xs ≤ m) → (n : ℕ) (q : X → Bool) →
      ((x : X) → P x → q x ≡ true → (lo ≤ f x) × (f x < lo + n) × (p (f x) x ≡ true)) → count q xs ≤ n * m
  spread P xs l f p m lo c zero q h = omega (arith, count_none P q (λ x a e. let k = h x a e in omega (arith, k.0, k.1)) xs l)
  spread P xs l f p m lo c (suc n) q h =
      omega (
        arith,
        suc-mul n m,
        c (lo + n),
        count_split P q (λ x. q x && ltb (f x) (lo + n)) (p (lo + n)) apart xs l,
        spread P xs l f p m lo c n (λ x. q x && ltb (f x) (lo + n)) below,
      )
    where
      apart : (x : X) → P x → q x ≡ true → ((q x && ltb (f x) (lo + n)) ≡ true) ⊎ (p (lo + n) x ≡ true)
      apart x a e =
          let k = h x a e in
          ⊎_elim (λ l. let t = lt-ltb (f x) (lo + n) l in inl (simp (e, t)))
          (λ g. let z : f x ≡ lo + n = omega (arith, k.1) in inr (subst (λ j. p j x ≡ true) z k.2))
          (cases_lt (f x) (lo + n))

      below : (x : X) → P x → (q x && ltb (f x) (lo + n)) ≡ true → (lo ≤ f x) × (f x < lo + n) × (p (f x) x ≡ true)
      below x a e =
          let b = and_parts (q x) (ltb (f x) (lo + n)) e in
          let k = h x a b.0 in
          (k.0, ltb-true (f x) (lo + n) b.1, k.2)

  -- what is left of what passes q, after a sieve, passes r
  pub count-those : (p q r : X → Bool) → ((x : X) → p x ≡ true → q x ≡ true → r x ≡ true) → (xs : List X) → count q (those p xs) ≤ count r xs
  count-those p q r h [] = omega arith
  count-those p q r h (x ∷ xs) =
      let i = count-those p q r h xs in
      cond_both (p x) (x ∷ those p xs) (those p xs) (λ z. count q z ≤ count r (x ∷ xs))
      (λ e. omega (arith, i, one q x (those p xs), one r x xs, weigh (q x) (r x) false (λ f. inl (h x e f))))
      (λ e. omega (arith, i, one r x xs))

  -- a sieve and its contrary
  pub count_both : (p q : X → Bool) (xs : List X) → count q (those p xs) + count q (those (λ x. not (p x)) xs) ≡ count q xs
  count_both p q [] = refl
  count_both p q (x ∷ xs) =
      let i = count_both p q xs in
      let Q : Bool → Type 0 = λ b. count q (cond b (x ∷ those p xs) (those p xs)) + count q (cond (not b) (x ∷ those (λ y. not (p y)) xs) (those (λ y. not (p y)) xs)) ≡ count q (x ∷ xs) in
      elim (p x) as Q [
        | true ↦ omega (arith, one q x xs, one q x (those p xs), i)
        | false ↦ omega (arith, one q x xs, one q x (those (λ y. not (p y)) xs), i)
      ]

  -- one more in its place
  pub count-placed : (below : X → X → Bool) (q : X → Bool) (a : X) (xs : List X) → count q (placed below a xs) ≤ count q xs + cond (q a) 1 0
  count-placed below q a [] = omega (arith, one q a [])
  count-placed below q a (y ∷ ys) =
      let i = count-placed below q a ys in
      let Q : List X → Type 0 = λ z. count q z ≤ count q (y ∷ ys) + cond (q a) 1 0 in
      by_cond Q (below a y) (a ∷ y ∷ ys) _ (omega (arith, one q a (y ∷ ys)))
      (by_cond Q (below y a) (y ∷ placed below a ys) (a ∷ ys) (omega (arith, i, one q y ys, one q y (placed below a ys))) (omega (arith, one q y ys, one q a ys)))
