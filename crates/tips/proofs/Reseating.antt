-- A change of the set: the settled seats of the old set and the seats of the new one count the same tips. Assumes nothing.
use Rattle.std.proofs.Common.{◌≡◌, ℕ, ◌+◌, Bool, true, false, cond, ◌||◌, List, [], ◌∷◌, map, length, Some, None, sum_by, Option, unwrap_or, sym, refl, ap, ◌∙◌, subst, arith}
use Rattle.std.proofs.lemmas.List.Sums.{sum_by-cons}
use Rattle.table.specs.declared.Entry.{Entry}
use Rattle.table.specs.Order.{Total, level}
use Rattle.table.specs.Rows.{entry, at, Above, Sorted}
use Rattle.table.proofs.Keeping.{above-trans}
use Rattle.types.specs.Numbers.{Height, height}
use Rattle.tips.specs.declared.safe_tip.SafeTip.{SafeTip}
use Rattle.tips.specs.Seats.{tip_of, tips_of, opened, among, carried, reseated, settled, Ascending}
use Rattle.tips.specs.Tips.{lowest, highest, Holds, Recorded}
use Rattle.tips.proofs.Splits.{split}

-- sums over a list
sum_by_map : {X Y : Type 0} (f : Y → ℕ) (m : X → Y) (xs : List X) → sum_by f (map m xs) ≡ sum_by (λ x. f (m x)) xs
sum_by_map f m [] = refl
sum_by_map f m (x ∷ xs) = sum_by-cons f (m x) (map m xs) ∙ omega (arith, sum_by_map f m xs, sum_by-cons (λ y. f (m y)) x xs)

sum_by_eq : {X : Type 0} (f h k : X → ℕ) (xs : List X) → ((x : X) → f x ≡ h x + k x) → sum_by f xs ≡ sum_by h xs + sum_by k xs
sum_by_eq f h k [] e = refl
sum_by_eq f h k (x ∷ xs) e = omega (arith, e x, sum_by_eq f h k xs e, sum_by-cons f x xs, sum_by-cons h x xs, sum_by-cons k x xs)

sum_by_none : {X : Type 0} (f : X → ℕ) (xs : List X) → ((x : X) → f x ≡ 0) → sum_by f xs ≡ 0
sum_by_none f [] e = refl
sum_by_none f (x ∷ xs) e = omega (arith, e x, sum_by_none f xs e, sum_by-cons f x xs)

same_length : {X Y : Type 0} (n : ℕ) (xs : List X) (ys : List Y) → length xs ≡ length ys → sum_by (λ _. n) xs ≡ sum_by (λ _. n) ys
same_length n [] [] e = refl
same_length n [] (y ∷ ys) e = absurd (omega arith)
same_length n (x ∷ xs) [] e = absurd (omega arith)
same_length n (x ∷ xs) (y ∷ ys) e = omega (arith, same_length n xs ys (omega arith), sum_by-cons (λ _. n) x xs, sum_by-cons (λ _. n) y ys)

-- what a tip that is there weighs
abbrev worth : (Height → ℕ) → Option Height → ℕ
worth w None = 0
worth w (Some h) = w h

module _ {K : Type 0} {less : K → K → Bool} (o : Total less) where
  -- a key below all the seats has none
  at-below : (k : K) (es : List (Entry K Height)) → Above less k es → at less k es ≡ None
  at-below k [] a = refl
  at-below k (e ∷ es) a = go (less e.key k) refl
    where
      go : (b : Bool) → less e.key k ≡ b → cond b (at less k es) (cond (less k e.key) None (Some e.value)) ≡ None
      go true x = absurd (let y = o.trans k e.key k a.0 x in let n = o.never k in let z : ◌≡◌ {A = ℕ} 0 1 = cc in omega arith)
      go false x = rw a.0 refl

  -- one of the seats is the first, or one of the others
  parts : (w : Height → ℕ) (e : Entry K Height) (es : List (Entry K Height)) → Above less e.key es → (k : K) → worth w (at less k (e ∷ es)) ≡ cond (level less k e.key) (w e.value) 0 + worth w (at less k es)
  parts w e es a k = go (less e.key k) refl (less k e.key) refl
    where
      go : (x : Bool) → less e.key k ≡ x → (y : Bool) → less k e.key ≡ y → worth w (cond x (at less k es) (cond y None (Some e.value))) ≡ cond (cond y false (cond x false true)) (w e.value) 0 + worth w (at less k es)
      go true x true y = omega arith
      go true x false y = omega arith
      go false x true y = omega (arith, ap (worth w) (at-below k es (above-trans o k e.key es y a)))
      go false x false y = omega (arith, ap (worth w) (at-below k es (subst (λ z. Above less z es) (o.tied e.key k x y) a)))

  -- a key below all the others is none of them
  not_among : (k : K) (keys : List K) → Above less k (opened keys) → among less k keys ≡ false
  not_among k [] a = refl
  not_among k (x ∷ xs) a = go (less x k) (not_among k xs a.1)
    where
      go : (b : Bool) → among less k xs ≡ false → (cond b false (cond (less k x) false true) || among less k xs) ≡ false
      go true rest = rest
      go false rest = rw a.0 rest

  -- each of the keys once
  once : (v : ℕ) (t : K) (keys : List K) → Ascending less keys → sum_by (λ k. cond (level less k t) v 0) keys ≡ cond (among less t keys) v 0
  once v t [] a = refl
  once v t (k ∷ ks) a = sum_by-cons (λ x. cond (level less x t) v 0) k ks ∙ go (less k t) refl (less t k) refl (once v t ks a.1)
    where
      go : (x : Bool) → less k t ≡ x → (y : Bool) → less t k ≡ y → sum_by (λ z. cond (level less z t) v 0) ks ≡ cond (among less t ks) v 0 → cond (cond x false (cond y false true)) v 0 + sum_by (λ z. cond (level less z t) v 0) ks ≡ cond (cond x false (cond y false true) || among less t ks) v 0
      go true x y' y rest = omega arith
      go false x true y rest = omega arith
      go false x false y rest =
          let none = not_among t ks (subst (λ z. Above less z (opened ks)) (o.tied k t x y) a.0) in
          omega (arith, rest ∙ ap (λ b. cond b v 0) none)

  -- the stayers, by their seats and by their keys
  stayers : (w : Height → ℕ) (keys : List K) → Ascending less keys → (es : List (Entry K Height)) → Sorted less es → sum_by (λ e. cond (among less e.key keys) (w e.value) 0) es ≡ sum_by (λ k. worth w (at less k es)) keys
  stayers w keys up [] s = sym (sum_by_none (λ k. worth w (at less k [])) keys (λ k. refl))
  stayers w keys up (e ∷ es) s =
      omega (
        arith,
        sum_by-cons (λ d. cond (among less d.key keys) (w d.value) 0) e es,
        stayers w keys up es s.1,
        once (w e.value) e.key keys up,
        sum_by_eq (λ k. worth w (at less k (e ∷ es))) (λ k. cond (level less k e.key) (w e.value) 0) (λ k. worth w (at less k es)) keys (parts w e es s.0),
      )

  -- stayers weigh their tips, leavers and joiners 0: as many of the one as of the other
  resettled : (keys : List K) → Ascending less keys → (es : List (Entry K Height)) → Sorted less es → length keys ≡ length es → (p : ℕ → Bool) → sum_by (λ e. cond (p (settled less keys e).0) 1 0) es ≡ sum_by (λ k. cond (p (carried less es k).0) 1 0) keys
  resettled keys up es s sized p =
      omega (
        arith,
        sum_by_eq (λ e. left e + cond (among less e.key keys) w₀ 0) left (λ e. cond (among less e.key keys) w₀ 0) es (λ e. refl),
        sum_by_eq (λ e. left e + cond (among less e.key keys) w₀ 0) (λ e. cond (among less e.key keys) (w e.value) 0) (λ _. w₀) es (λ e. by_seat e (among less e.key keys)),
        sum_by_eq (λ k. right k + worth (λ _. w₀) (at less k es)) right (λ k. worth (λ _. w₀) (at less k es)) keys (λ k. refl),
        sum_by_eq (λ k. right k + worth (λ _. w₀) (at less k es)) (λ k. worth w (at less k es)) (λ _. w₀) keys (λ k. by_key (at less k es)),
        stayers w keys up es s,
        stayers (λ _. w₀) keys up es s,
        same_length w₀ keys es sized,
      )
    where
      w : Height → ℕ
      w h = cond (p h.0) 1 0

      w₀ : ℕ
      w₀ = cond (p 0) 1 0

      left : Entry K Height → ℕ
      left e = cond (p (settled less keys e).0) 1 0

      right : K → ℕ
      right k = cond (p (carried less es k).0) 1 0

      by_seat : (e : Entry K Height) (b : Bool) → cond (p (cond b e.value (height 0)).0) 1 0 + cond b w₀ 0 ≡ cond b (w e.value) 0 + w₀
      by_seat e true = refl
      by_seat e false = omega arith

      by_key : (o : Option Height) → cond (p (unwrap_or o (height 0)).0) 1 0 + worth (λ _. w₀) o ≡ worth w o + w₀
      by_key None = omega arith
      by_key (Some h) = refl

-- the tables of the seats count their tips
pub recorded : {K : Type 0} (ss : List (Entry K Height)) (s : SafeTip) → Holds ss s → Recorded tip_of ss s
recorded ss s h p = sym (sum_by_map (λ n. cond (p n) 1 0) tip_of ss) ∙ h.all p

-- and once the leavers' are lowered, those of the new seats
pub reconciled : {K : Type 0} {less : K → K → Bool} (o : Total less) (keys : List K) (ss : List (Entry K Height)) (s : SafeTip) → Ascending less keys → Sorted less ss → length keys ≡ length ss → Recorded (λ e. (settled less keys e).0) ss s → Holds (reseated less keys ss) s
reconciled {less = less} o keys ss s up so sized r =
    split (tips_of (reseated less keys ss)) (lowest s) (highest s) s.top (λ p.
    sum_by_map (λ n. cond (p n) 1 0) tip_of (reseated less keys ss)
    ∙ sum_by_map (λ e. cond (p (tip_of e)) 1 0) (λ k. entry k (carried less ss k)) keys
    ∙ sym (resettled o keys up ss so sized p)
    ∙ r p)
