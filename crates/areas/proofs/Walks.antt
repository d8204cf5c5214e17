-- How a search goes over the areas, one by one. Assumes nothing.
use Rattle.std.proofs.Common.{◌≡◌, ℕ, suc, ◌+◌, ◌-◌, ◌<◌, ◌≤◌, Bool, true, false, not, MatchOption, subst, arith, eqb, ◌⊎◌, List, [], ◌∷◌, length, get_or, drop, is_some, Some, None, Option, sym, refl, ap, ◌∙◌, inl, inr}
use Rattle.std.proofs.lemmas.List.{drop_more, drop_all, drop-drop, length-drop, get_or-drop}
use Rattle.std.proofs.lemmas.Bool.{cases_Bool, cases_lt, lt-ltb, le-ltb, cond-true, cond-false, eqb-true, eq-eqb, ne_eqb, cases_eq, true≢false, false≢true}
use Rattle.std.proofs.lemmas.List.Sums.{passes_at_first}
use Rattle.std.specs.Option.{option_map, option_eq}
use Rattle.std.specs.List.{position, position_or_len}
use Rattle.area.specs.Area.{Area}
use Rattle.areas.specs.Plan.{owned_by, areas_of, First, spared}

-- whether an area is of a section, by comparing the section that it reads as
eqb_sym : (m n : ℕ) → (m ≡ n) ⊎ (m ≡ n → ⊥) → eqb m n ≡ eqb n m
eqb_sym m n (inl e) = eq-eqb _ _ e ∙ sym (eq-eqb _ _ (sym e))
eqb_sym m n (inr e) = ne_eqb _ _ e ∙ sym (ne_eqb _ _ (λ f. e (sym f)))

pub owned_is : (s : ℕ) (o : Option Area) → option_eq eqb (option_map (λ a. a.section) o) (Some s) ≡ owned_by s o
unfolding owned_by
owned_is s None = refl
owned_is s (Some a) = eqb_sym a.section s (cases_eq a.section s)

-- what a search answers

placed : {X : Type 0} (p : X → Bool) (xs : List X) (i : ℕ) → Some i ≡ position p xs → (i ≡ position_or_len p xs) × (position_or_len p xs < length xs)
placed p xs i e = go (cases_lt (position_or_len p xs) (length xs))
  where
    go : (position_or_len p xs < length xs) ⊎ (length xs ≤ position_or_len p xs) → (i ≡ position_or_len p xs) × (position_or_len p xs < length xs)
    go (inl h) = let f : Some i ≡ Some (position_or_len p xs) = e ∙ cond-true _ _ _ (lt-ltb _ _ h) in (cc, h)
    go (inr h) = let f : Some i ≡ None = e ∙ cond-false _ _ _ (le-ltb _ _ h) in let z : ◌≡◌ {A = ℕ} 0 1 = cc in absurd (omega arith)

missing : {X : Type 0} (p : X → Bool) (xs : List X) → None ≡ position p xs → length xs ≤ position_or_len p xs
missing p xs e = go (cases_lt (position_or_len p xs) (length xs))
  where
    go : (position_or_len p xs < length xs) ⊎ (length xs ≤ position_or_len p xs) → length xs ≤ position_or_len p xs
    go (inl h) = let f : None ≡ Some (position_or_len p xs) = e ∙ cond-true _ _ _ (lt-ltb _ _ h) in let z : ◌≡◌ {A = ℕ} 0 1 = cc in absurd (omega arith)
    go (inr h) = h

-- what a search passes over makes no difference
skipped : {X Y : Type 0} (p : X → Bool) (f : List X → Y) → ((x : X) (xs : List X) → p x ≡ false → f (x ∷ xs) ≡ f xs) → (xs : List X) → f (drop (position_or_len p xs) xs) ≡ f xs
skipped p f h [] = refl
skipped p f h (x ∷ xs) = go (cases_Bool (p x)) (skipped p f h xs)
  where
    go : (p x ≡ true) ⊎ (p x ≡ false) → f (drop (position_or_len p xs) xs) ≡ f xs → f (drop (position_or_len p (x ∷ xs)) (x ∷ xs)) ≡ f (x ∷ xs)
    go (inl e) _ = simp e
    go (inr e) ih = let z : 1 + position_or_len p xs ≡ suc (position_or_len p xs) = omega arith in simp (e, z) (ih ∙ sym (h x xs e))

-- an area of another section is passed over
of_pass : (s : ℕ) (o : Option Area) (os : List (Option Area)) → owned_by s o ≡ false → areas_of s (o ∷ os) ≡ areas_of s os
unfolding areas_of owned_by
of_pass s None os e = refl
of_pass s (Some a) os e = cond-false _ _ _ e

-- the first of a section, from a place on

pub found_none : (s start : ℕ) (os : List (Option Area)) → None ≡ position (owned_by s) (drop start os) → areas_of s (drop start os) ≡ []
unfolding areas_of
found_none s start os e =
    let xs = drop start os in
    sym (skipped (owned_by s) (areas_of s) (of_pass s) xs) ∙ ap (areas_of s) (drop_all (position_or_len (owned_by s) xs) xs (missing (owned_by s) xs e))

first_is : (s start i : ℕ) (os : List (Option Area)) (o : Option Area) → start ≤ i → i < length os → get_or os i None ≡ o → areas_of s (drop i os) ≡ areas_of s (drop start os) → owned_by s o ≡ true → First s start i os
unfolding owned_by areas_of
first_is s start i os None g h w inv t = absurd (false≢true t)
first_is s start i os (Some a) g h w inv t =
    record {
      area = a;
      since = g;
      within = h;
      here = w;
      section = sym (eqb-true s a.section t);
      first = sym inv ∙ ap (areas_of s) (drop_more os i None h) ∙ ap (λ o. areas_of s (o ∷ drop (i + 1) os)) w ∙ cond-true _ _ _ t;
    }

pub found_at : (s start i : ℕ) (os : List (Option Area)) → Some i ≡ position (owned_by s) (drop start os) → First s start (start + i) os
found_at s start i os e =
    let xs = drop start os in
    let n = position_or_len (owned_by s) xs in
    let p = placed (owned_by s) xs i e in
    let l : length xs ≡ length os - start = length-drop start os in
    let inv : areas_of s (drop (start + n) os) ≡ areas_of s xs = ap (areas_of s) (sym (drop-drop n start os)) ∙ skipped (owned_by s) (areas_of s) (of_pass s) xs in
    let here : owned_by s (get_or os (start + n) None) ≡ true = ap (owned_by s) (sym (get_or-drop start os n None)) ∙ passes_at_first (owned_by s) xs None p.1 in
    subst (λ (k : ℕ). First s start (start + k) os) (sym p.0) (first_is s start (start + n) os (get_or os (start + n) None) (omega arith) (omega (arith, p.1)) refl inv here)

-- a free one
pub spared_pass : (o : Option Area) (os : List (Option Area)) → not (is_some o) ≡ false → spared (o ∷ os) ≡ spared os
unfolding spared
spared_pass None os e = absurd (true≢false e)
spared_pass (Some a) os e = refl

pub spared-here : (o : Option Area) (os : List (Option Area)) → not (is_some o) ≡ true → (spared (o ∷ os) ≡ true) × (o ≡ None)
unfolding spared
spared-here None os e = (refl, refl)
spared-here (Some a) os e = absurd (false≢true e)

pub spare_from : (os : List (Option Area)) (r : Option ℕ) → r ≡ position (λ o. not (is_some o)) os → MatchOption r (spared os ≡ false) (λ i. (spared os ≡ true) × (i < length os) × (get_or os i None ≡ None))
unfolding spared
spare_from os None e =
    sym (skipped (λ o. not (is_some o)) spared spared_pass os) ∙ ap spared (drop_all (position_or_len (λ o. not (is_some o)) os) os (missing (λ o. not (is_some o)) os e))
spare_from os (Some i) e =
    let free : Option Area → Bool = λ o. not (is_some o) in
    let n = position_or_len free os in
    let p = placed free os i e in
    let here = passes_at_first free os None p.1 in
    let first = spared-here (get_or os n None) (drop (n + 1) os) here in
    let all : spared os ≡ true = sym (skipped free spared spared_pass os) ∙ ap spared (drop_more os n None p.1) ∙ first.0 in
    subst (λ (k : ℕ). (spared os ≡ true) × (k < length os) × (get_or os k None ≡ None)) (sym p.0) (all, p.1, first.1)
