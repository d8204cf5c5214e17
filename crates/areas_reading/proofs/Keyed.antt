-- What `min_by_key` answers of a chain: the first of the items with the least key. Assumes nothing.
use Rattle.std.proofs.Common.{◌≡◌, ℕ, ◌<◌, true, false, cond, leb, ◌⊎◌, List, [], ◌∷◌, Some, None, Option, Ordering, Less, Equal, Greater, sym, refl, ap, ◌∙◌, subst, inl, inr, arith}
use Rattle.std.proofs.lemmas.Bool.{cases_Bool, cond-true, cond-false, leb-true, leb-false, le-leb, lt-leb}
use Rattle.std.proofs.lemmas.Cmp.{ranked}
use Rattle.std.proofs.lemmas.Iterator.{YieldsList}
use Rattle.std.proofs.lemmas.Iterator.Consumers.{reduce_from_yields_List}
use Rattle.std.specs.Fn.{CalledAt}
use Rattle.std.specs.Iterator.{KeyTurn, PicksMinByKey}
use Rattle.std.specs.List.{FoldsTo, fold, reduce}
use Rattle.std.specs.Ordering.{min_by_ordering, nat_cmp}
use denote.Param.Members.{Mut}
use denote.Ref.{Bor}

-- of two items the one with the lower key, and of equals the first
abbrev pub least : {A : Type 0} → (A → ℕ) → A → A → A
least key p z = min_by_ordering (nat_cmp (key p) (key z)) p z

key_picked : {A : Type 0} (key : A → ℕ) (p z : A) (o : Ordering) → min_by_ordering o (key p) (key z) ≡ key (min_by_ordering o p z)
key_picked key p z Less = refl
key_picked key p z Equal = refl
key_picked key p z Greater = refl

module _ {A F : Type 0} (g : Mut F (Bor A × Unit {0}) ℕ) (key : A → ℕ) (f : F) (calls : (x : A) (k : ℕ) (q : F) → CalledAt g f x k q → (q ≡ f) × (k ≡ key x)) where
  -- the turns, without the keys that they carry
  turns : (h : F) (k : ℕ) (x : A) (xs : List A) (q : F × ℕ) (y : A) → h ≡ f → k ≡ key x → FoldsTo {P = (F × ℕ) × A} (KeyTurn min_by_ordering min_by_ordering g nat_cmp) ((h, k), x) xs (q, y) → FoldsTo (λ p z c. c ≡ least key p z) x xs y
  turns h k x [] q y e d t = ap (λ p. p.1) t
  turns h k x (z ∷ zs) q y e d t =
      let next = t.0 in
      let c = calls z t.1.0 next.0.0 (subst (λ (i : F). CalledAt g i z t.1.0 next.0.0) e t.1.2) in
      let o : t.1.1 ≡ nat_cmp (key x) (key z) = sym t.1.3 ∙ ap (λ m. nat_cmp m t.1.0) d ∙ ap (nat_cmp (key x)) c.1 in
      let y' : next.1 ≡ least key x z = t.1.5 ∙ ap (λ i. min_by_ordering i x z) o in
      let k' : next.0.1 ≡ key next.1 = t.1.4 ∙ ap (λ m. min_by_ordering t.1.1 m t.1.0) d ∙ ap (λ m. min_by_ordering t.1.1 (key x) m) c.1 ∙ key_picked key x z t.1.1 ∙ sym (ap key t.1.5) in
      (next.1, y', turns next.0.0 next.0.1 next.1 zs q y c.0 k' t.2)

  pub first_least : {S : Type 0} {steps : S → Option A → S → Type 0} {all : List A} (s : S) (r : Option A) → PicksMinByKey steps g nat_cmp s f r → YieldsList steps (λ x. x) s all → r ≡ reduce (least key) all
  first_least s None p e = reduce_from_yields_List (least key) s None p e
  first_least s (Some y) p e =
      let c = calls p.0 p.2 p.3 p.6 in
      reduce_from_yields_List (least key) s (Some y) (p.0, p.1, p.5, turns p.3 p.2 p.0 p.1 p.4 y c.0 c.1 p.7) e

module _ {A : Type 0} (key : A → ℕ) where
  -- the same by a test of the keys
  abbrev pub low : A → A → A
  low p z = cond (leb (key p) (key z)) p z

  least_is : (p z : A) (o : Ordering) → o ≡ nat_cmp (key p) (key z) → min_by_ordering o p z ≡ low p z
  least_is p z Less e =
      let l : key p < key z = ranked _ _ Less e in
      sym (cond-true _ _ _ (le-leb (key p) (key z) (omega arith)))
  least_is p z Equal e =
      let l : key p ≡ key z = ranked _ _ Equal e in
      sym (cond-true _ _ _ (le-leb (key p) (key z) (omega arith)))
  least_is p z Greater e =
      let l : key z < key p = ranked _ _ Greater e in
      sym (cond-false _ _ _ (lt-leb (key p) (key z) l))

  fold_least : (x : A) (xs : List A) → fold (least key) x xs ≡ fold low x xs
  fold_least x [] = refl
  fold_least x (z ∷ zs) = fold_least (least key x z) zs ∙ ap (λ y. fold low y zs) (least_is x z _ refl)

  pub reduce_least : (xs : List A) → reduce (least key) xs ≡ reduce low xs
  reduce_least [] = refl
  reduce_least (x ∷ xs) = ap Some (fold_least x xs)

  -- whichever are compared first
  low_low : (x y z : A) → low (low x y) z ≡ low x (low y z)
  low_low x y z = go (cases_Bool (leb (key x) (key y))) (cases_Bool (leb (key y) (key z))) (cases_Bool (leb (key x) (key z)))
    where
      go : (leb (key x) (key y) ≡ true) ⊎ (leb (key x) (key y) ≡ false) → (leb (key y) (key z) ≡ true) ⊎ (leb (key y) (key z) ≡ false) → (leb (key x) (key z) ≡ true) ⊎ (leb (key x) (key z) ≡ false) → low (low x y) z ≡ low x (low y z)
      go (inl a) (inl b) (inl c) = simp (a, b, c)
      go (inl a) (inl b) (inr c) = absurd (omega (arith, leb-true _ _ a, leb-true _ _ b, leb-false _ _ c))
      go (inl a) (inr b) _ = simp (a, b)
      go (inr a) (inl b) _ = simp (a, b)
      go (inr a) (inr b) (inl c) = absurd (omega (arith, leb-false _ _ a, leb-false _ _ b, leb-true _ _ c))
      go (inr a) (inr b) (inr c) = simp (a, b, c)

  pub fold_low : (x y : A) (ys : List A) → fold low (low x y) ys ≡ low x (fold low y ys)
  fold_low x y [] = refl
  fold_low x y (z ∷ zs) = ap (λ w. fold low w zs) (low_low x y z) ∙ fold_low x (low y z) zs
