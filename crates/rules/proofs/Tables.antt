-- Acks in order, and what holds of each of a list. Assumes nothing.
use Rattle.std.proofs.Common.{◌≡◌, ℕ, zero, suc, ◌+◌, ◌<◌, ◌≤◌, Bool, true, false, cond, eqb, List, [], ◌∷◌, is_some, Some, None, Option, refl, ap, subst, ⊎_elim, arith, All}
use Rattle.std.proofs.lemmas.List.Elements.{All-nil, All-cons, All-head, All-tail, All-weaker}
use Rattle.std.proofs.lemmas.Bool.{cond_both, cases_Bool, eqb-true, or_parts}
use Rattle.std.proofs.lemmas.Bool.Decides.{nat_tests}
use Rattle.forms.specs.Values.{Ack}
use Rattle.rules.specs.Lists.{those, first, any, opt, from, placed}
use Rattle.rules.specs.State.{Pending, ack_below}
use Rattle.rules.specs.Opening.{is_of, tabled}
use Rattle.rules.specs.Room.{count, Ascends}
use Rattle.rules.proofs.Calm.{by_cond}
use Rattle.rules.proofs.Pigeons.{one, count_none}

-- by cases, with what the test said
pub opt_both : {A B : Type 0} (P : B → Type 0) (o : Option A) (n : B) (f : A → B) → (o ≡ None → P n) → ((x : A) → o ≡ Some x → P (f x)) → P (opt o n f)
opt_both P None n f p q = p refl
opt_both P (Some x) n f p q = q x refl

module _ {X : Type 0} (P : X → Type 0) where
  pub all-those : (p : X → Bool) (xs : List X) → All P xs → All P (those p xs)
  all-those p [] l = l
  all-those p (x ∷ xs) l =
      let r = all-those p xs (All-tail P x xs l) in
      by_cond (All P) (p x) _ _ (All-cons P x (those p xs) (All-head P x xs l) r) r

  pub all_sieved : (Q : X → Type 0) (p : X → Bool) → ((x : X) → p x ≡ true → P x → Q x) → (xs : List X) → All P xs → All Q (those p xs)
  all_sieved Q p h [] l = All-nil Q
  all_sieved Q p h (x ∷ xs) l =
      let r = all_sieved Q p h xs (All-tail P x xs l) in
      cond_both (p x) (x ∷ those p xs) (those p xs) (All Q) (λ e. All-cons Q x (those p xs) (h x e (All-head P x xs l)) r) (λ _. r)

  pub all_placed : (below : X → X → Bool) (x : X) (xs : List X) → P x → All P xs → All P (placed below x xs)
  all_placed below x [] k l = All-cons P x [] k l
  all_placed below x (y ∷ ys) k l =
      let rest = All-tail P y ys l in
      by_cond (All P) (below x y) _ _ (All-cons P x (y ∷ ys) k l)
      (by_cond (All P) (below y x) _ _ (All-cons P y (placed below x ys) (All-head P y ys l) (all_placed below x ys k rest)) (All-cons P x ys k rest))

  pub all-tabled : (below : X → X → Bool) (table xs : List X) → All P table → All P xs → All P (tabled below table xs)
  all-tabled below table [] t l = t
  all-tabled below table (x ∷ xs) t l = all-tabled below (placed below x table) xs (all_placed below x table (All-head P x xs l) t) (All-tail P x xs l)

pub all_everything : {X : Type 0} (xs : List X) → All (λ _. Unit {0}) xs
all_everything xs k d l = tt

-- where none passes, none does
pub all_none : {X : Type 0} (p : X → Bool) (xs : List X) → any p xs ≡ false → All (λ x. p x ≡ false) xs
all_none p [] e = All-nil (λ x. p x ≡ false)
all_none p (x ∷ xs) e = let o = or_parts (p x) (any p xs) e in All-cons (λ x. p x ≡ false) x xs o.0 (all_none p xs o.1)

-- numbers from a on
pub all_from : (P : ℕ → Type 0) (a n : ℕ) → ((h : ℕ) → a ≤ h → h < a + n → P h) → All P (from a n)
all_from P a zero f = All-nil P
all_from P a (suc n) f = All-cons P a (from (a + 1) n) (f a (omega arith) (omega arith)) (all_from P (a + 1) n (λ h l u. f h (omega arith) (omega arith)))

-- the order of acks
trans : (a b c : Ack) → ack_below a b ≡ true → ack_below b c ≡ true → ack_below a c ≡ true
trans a b c p q = grind (arith, nat_tests)

apart : (a b : Ack) (h e i : ℕ) → ack_below a b ≡ true → is_of h e i a ≡ true → is_of h e i b ≡ true → ⊥
apart a b h e i p q r = grind (arith, nat_tests)

-- the same key
alike : (a b c : Ack) → ack_below a b ≡ false → ack_below b a ≡ false → ack_below b c ≡ true → ack_below a c ≡ true
alike a b c p q r = grind (arith, nat_tests)

pub ascends-those : (p : Ack → Bool) (xs : List Ack) → Ascends xs → Ascends (those p xs)
ascends-those p [] l = tt
ascends-those p (a ∷ xs) (k, l) = by_cond Ascends (p a) _ _ (all-those (λ b. ack_below a b ≡ true) p xs k, ascends-those p xs l) (ascends-those p xs l)

pub ascends-placed : (a : Ack) (xs : List Ack) → Ascends xs → Ascends (placed ack_below a xs)
ascends-placed a [] l = (All-nil (λ b. ack_below a b ≡ true), tt)
ascends-placed a (b ∷ xs) (k, l) =
    cond_both (ack_below a b) (a ∷ b ∷ xs) _ Ascends
    (λ e. (All-cons (λ c. ack_below a c ≡ true) b xs e (All-weaker (λ c. ack_below b c ≡ true) (λ c. ack_below a c ≡ true) (λ c f. trans a b c e f) xs k), (k, l)))
    (λ e. cond_both (ack_below b a) (b ∷ placed ack_below a xs) (a ∷ xs) Ascends
    (λ f. (all_placed (λ c. ack_below b c ≡ true) ack_below a xs f k, ascends-placed a xs l))
    (λ f. (All-weaker (λ c. ack_below b c ≡ true) (λ c. ack_below a c ≡ true) (λ c g. alike a b c e f g) xs k, l)))

pub ascends-tabled : (table xs : List Ack) → Ascends table → Ascends (tabled ack_below table xs)
ascends-tabled table [] t = t
ascends-tabled table (x ∷ xs) t = ascends-tabled (placed ack_below x table) xs (ascends-placed x table t)

-- one for each key
pub once : (h e i : ℕ) (xs : List Ack) → Ascends xs → count (is_of h e i) xs ≤ 1
once h e i [] l = omega arith
once h e i (a ∷ xs) (k, l) =
    ⊎_elim
    (λ t. let w : ◌≡◌ {A = ℕ} (cond (is_of h e i a) 1 0) 1 = ap (λ b. cond b 1 0) t in
    omega (arith, one (is_of h e i) a xs, count_none (λ b. ack_below a b ≡ true) (is_of h e i) (λ b o r. apart a b h e i o t r) xs k))
    (λ t. let w : ◌≡◌ {A = ℕ} (cond (is_of h e i a) 1 0) 0 = ap (λ b. cond b 1 0) t in omega (arith, one (is_of h e i) a xs, once h e i xs l))
    (cases_Bool (is_of h e i a))

-- what holds of all holds of the first that passes, and that passes
pub first_of : {X : Type 0} (P : X → Type 0) (p : X → Bool) (xs : List X) (x : X) → All P xs → first p xs ≡ Some x → P x × (p x ≡ true)
first_of P p [] x l e = let z : ◌≡◌ {A = ℕ} 0 1 = cc in absurd (omega arith)
first_of P p (y ∷ xs) x l e =
    cond_both (p y) (Some y) (first p xs) (λ o. o ≡ Some x → P x × (p x ≡ true))
    (λ f g. let q : y ≡ x = cc in subst (λ z. P z × (p z ≡ true)) q (All-head P y xs l, f)) (λ _ g. first_of P p xs x (All-tail P y xs l) g) e

-- a height that is found is one of them
pub found-height : (P : ℕ → Type 0) (h : ℕ) (xs : List Pending) → All (λ x. P x.height) xs → is_some (first (λ x. eqb x.height h) xs) ≡ true → P h
found-height P h [] l e = let z : ◌≡◌ {A = ℕ} 0 1 = cc in absurd (omega arith)
found-height P h (x ∷ xs) l e =
    cond_both (eqb x.height h) (Some x) (first (λ x. eqb x.height h) xs) (λ o. is_some o ≡ true → P h)
    (λ f _. subst P (eqb-true x.height h f) (All-head (λ x. P x.height) x xs l)) (λ _ g. found-height P h xs (All-tail (λ x. P x.height) x xs l) g) e
