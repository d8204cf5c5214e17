-- What `rank` tells of the other functions of a table. Assumes nothing.
use Rattle.std.proofs.Common.{◌≡◌, ℕ, suc, ◌+◌, ◌<◌, ◌≤◌, Bool, true, false, cond, not, ltb, ltb-true, ltb-false, List, [], ◌∷◌, length, get_or, set, Some, None, Option, sym, refl, ap, ◌∙◌, subst, arith}
use Rattle.std.specs.List.{insert, remove, position, position_or_len}
use Rattle.std.specs.Option.{unwrap_or}
use Rattle.std.proofs.lemmas.List.{get_or_default}
use Rattle.std.proofs.lemmas.List.Recursion.{is_position_or_len}
use Rattle.table.specs.declared.Entry.{Entry}
use Rattle.table.specs.Rows.{entry, onward, rank, place, at, put, without}

module _ {K V : Type 0} (less : K → K → Bool) (k : K) where
  pub rank-le : (es : List (Entry K V)) → rank less k es ≤ length es
  rank-le [] = omega arith
  rank-le (x ∷ xs) = go (less x.key k) (rank-le xs)
    where
      go : (b : Bool) → rank less k xs ≤ length xs → cond b (suc (rank less k xs)) 0 ≤ suc (length xs)
      go true rest = omega arith
      go false rest = omega arith

  -- the first place whose key is not below k is the rank; where there is none, the rank is the length
  abbrev pub Reached : List (Entry K V) → Option ℕ → Type 0
  Reached es (Some i) = (i ≡ rank less k es) × (i < length es)
  Reached es None = length es ≡ rank less k es

  pub reached : (es : List (Entry K V)) → Reached es (position (λ e. not (less e.key k)) es)
  reached es = go (is_position_or_len (rank less k) (λ e. not (less e.key k)) refl (λ x xs. turned (less x.key k) (rank less k xs)) es) (ltb (rank less k es) (length es)) refl
    where
      turned : (b : Bool) (n : ℕ) → cond b (suc n) 0 ≡ cond (not b) 0 (1 + n)
      turned true n = omega arith
      turned false n = refl

      go : rank less k es ≡ position_or_len (λ e. not (less e.key k)) es → (b : Bool) → ltb (rank less k es) (length es) ≡ b → Reached es (position (λ e. not (less e.key k)) es)
      go r true h = rw (sym r, h) (refl, omega (arith, ltb-true))
      go r false h = rw (sym r, h) (omega (arith, ltb-false, rank-le es))

  pub reached_rank : (es : List (Entry K V)) (o : Option ℕ) → o ≡ position (λ e. not (less e.key k)) es → unwrap_or o (length es) ≡ rank less k es
  reached_rank es o is = go o (subst (Reached es) (sym is) (reached es))
    where
      go : (o : Option ℕ) → Reached es o → unwrap_or o (length es) ≡ rank less k es
      go (Some i) r = r.0
      go None r = r

  -- the first key that is not below k is k
  pub record Hit (es : List (Entry K V)) (e : Entry K V) : Type 0 where
    pub placed : place less k es ≡ Some (rank less k es)
    pub valued : at less k es ≡ Some e.value
    pub putting : (v : V) → put less k v es ≡ set es (rank less k es) (entry k v)
    pub leaving : without less k es ≡ remove es (rank less k es)
    pub below : less e.key k ≡ false

  pub hit : (es : List (Entry K V)) (e : Entry K V) → rank less k es < length es → e ≡ get_or es (rank less k es) e → less k e.key ≡ false → Hit es e
  hit [] e in' is no_less = absurd (omega arith)
  hit (x ∷ xs) e in' is no_less = go (less x.key k) refl (λ l i. hit xs e l i no_less)
    where
      go : (b : Bool) → less x.key k ≡ b → (rank less k xs < length xs → e ≡ get_or xs (rank less k xs) e → Hit xs e) → Hit (x ∷ xs) e
      go true h more =
          let r : rank less k (x ∷ xs) ≡ suc (rank less k xs) = simp h in
          let rest = more (omega (arith, in', r)) (is ∙ ap (λ n. get_or (x ∷ xs) n e) r) in
          record {
            placed = rw h (ap onward rest.placed);
            valued = rw h rest.valued;
            putting = λ v. rw h (ap (λ l. x ∷ l) (rest.putting v));
            leaving = rw h (ap (λ l. x ∷ l) rest.leaving);
            below = rest.below;
          }
      go false h more =
          let r : rank less k (x ∷ xs) ≡ 0 = simp h in
          let same : e ≡ x = is ∙ ap (λ n. get_or (x ∷ xs) n e) r in
          let here : less k x.key ≡ false = ap (λ y. less k y.key) (sym same) ∙ no_less in
          record {
            placed = rw (h, here) refl;
            valued = rw (h, here) (ap (λ (y : Entry K V). Some y.value) (sym same));
            putting = λ v. rw (h, here) refl;
            leaving = rw (h, here) refl;
            below = ap (λ (y : Entry K V). less y.key k) same ∙ h;
          }

  -- there is no key k
  pub record Miss (es : List (Entry K V)) : Type 0 where
    pub placed : place less k es ≡ None
    pub valued : at less k es ≡ None
    pub putting : (v : V) → put less k v es ≡ insert es (rank less k es) (entry k v)
    pub leaving : without less k es ≡ es

  pub miss : (es : List (Entry K V)) → ((d : Entry K V) → rank less k es < length es → less k (get_or es (rank less k es) d).key ≡ true) → Miss es
  miss [] above = record { placed = refl; valued = refl; putting = λ v. refl; leaving = refl }
  miss (x ∷ xs) above = go (less x.key k) refl (miss xs)
    where
      go : (b : Bool) → less x.key k ≡ b → (((d : Entry K V) → rank less k xs < length xs → less k (get_or xs (rank less k xs) d).key ≡ true) → Miss xs) → Miss (x ∷ xs)
      go true h more =
          let r : rank less k (x ∷ xs) ≡ suc (rank less k xs) = simp h in
          let rest = more (λ d in'. ap (λ n. less k (get_or (x ∷ xs) n d).key) (sym r) ∙ above d (omega (arith, in', r))) in
          record {
            placed = rw h (ap onward rest.placed);
            valued = rw h rest.valued;
            putting = λ v. rw h (ap (λ l. x ∷ l) (rest.putting v));
            leaving = rw h (ap (λ l. x ∷ l) rest.leaving);
          }
      go false h more =
          let r : rank less k (x ∷ xs) ≡ 0 = simp h in
          let here : less k x.key ≡ true = ap (λ n. less k (get_or (x ∷ xs) n x).key) (sym r) ∙ above x (omega (arith, r)) in
          record {
            placed = rw (h, here) refl;
            valued = rw (h, here) refl;
            putting = λ v. rw (h, here) refl;
            leaving = rw (h, here) refl;
          }

  -- what a test at the place i, the rank, tells
  pub hit_at : (es : List (Entry K V)) (i : ℕ) (d : Entry K V) → i ≡ rank less k es → i < length es → less k (get_or es i d).key ≡ false → Hit es (get_or es i d)
  hit_at es i d eq in' no_less = hit es (get_or es i d) (omega arith) (get_or_default es i d (get_or es i d) in' ∙ ap (λ n. get_or es n (get_or es i d)) eq) no_less

  pub miss_at : (es : List (Entry K V)) (i : ℕ) (d : Entry K V) → i ≡ rank less k es → i < length es → less k (get_or es i d).key ≡ true → Miss es
  miss_at es i d eq in' more = miss es (λ z _. ap (λ n. less k (get_or es n z).key) (sym eq) ∙ ap (λ (y : Entry K V). less k y.key) (get_or_default es i z d in') ∙ more)

  pub miss_past : (es : List (Entry K V)) (i : ℕ) → i ≡ rank less k es → length es ≤ i → Miss es
  miss_past es i eq past = miss es (λ d in'. absurd (omega arith))

  -- the first place whose key is not below k has k, or a key above it; or there is none
  pub reached_hit : (es : List (Entry K V)) (i : ℕ) (d : Entry K V) → Some i ≡ position (λ e. not (less e.key k)) es → less k (get_or es i d).key ≡ false → place less k es ≡ Some i
  reached_hit es i d is no_less =
      let r = subst (Reached es) (sym is) (reached es) in
      (hit_at es i d r.0 r.1 no_less).placed ∙ ap Some (sym r.0)

  pub reached_miss : (es : List (Entry K V)) (i : ℕ) (d : Entry K V) → Some i ≡ position (λ e. not (less e.key k)) es → less k (get_or es i d).key ≡ true → place less k es ≡ None
  reached_miss es i d is more =
      let r = subst (Reached es) (sym is) (reached es) in
      (miss_at es i d r.0 r.1 more).placed

  pub reached_none : (es : List (Entry K V)) → None ≡ position (λ e. not (less e.key k)) es → place less k es ≡ None
  reached_none es is = let r = subst (Reached es) (sym is) (reached es) in (miss_past es (length es) r (omega arith)).placed

  pub record Found (es : List (Entry K V)) (i : ℕ) : Type 0 where
    pub ranked : i ≡ rank less k es
    pub within : i < length es
    pub level : (d : Entry K V) → less k (get_or es i d).key ≡ false

  pub found : (es : List (Entry K V)) (i : ℕ) → place less k es ≡ Some i → Found es i
  found [] i h = absurd (let z : ◌≡◌ {A = ℕ} 0 1 = cc in omega arith)
  found (x ∷ xs) i h = go (less x.key k) refl (less k x.key) refl (place less k xs) refl (found xs)
    where
      go : (b : Bool) → less x.key k ≡ b → (a : Bool) → less k x.key ≡ a → (o : Option ℕ) → place less k xs ≡ o → ((j : ℕ) → place less k xs ≡ Some j → Found xs j) → Found (x ∷ xs) i
      go true p a q None r more = let z : Some i ≡ None = sym h ∙ rw (p, r) in absurd (let z2 : ◌≡◌ {A = ℕ} 0 1 = cc in omega arith)
      go true p a q (Some j) r more =
          let z : Some (suc j) ≡ Some i = sym (rw (p, r)) ∙ h in
          let y : suc j ≡ i = cc in
          let rest = more j r in
          record {
            ranked = rw p (sym y ∙ ap suc rest.ranked);
            within = omega (arith, rest.within);
            level = λ d. ap (λ n. less k (get_or (x ∷ xs) n d).key) (sym y) ∙ rest.level d;
          }
      go false p true q o r more = let z : Some i ≡ None = sym h ∙ rw (p, q) in absurd (let z2 : ◌≡◌ {A = ℕ} 0 1 = cc in omega arith)
      go false p false q o r more =
          let z : Some 0 ≡ Some i = sym (rw (p, q)) ∙ h in
          let y : 0 ≡ i = cc in
          record {
            ranked = rw p (sym y);
            within = omega arith;
            level = λ d. ap (λ n. less k (get_or (x ∷ xs) n d).key) (sym y) ∙ q;
          }

  pub found_hit : (es : List (Entry K V)) (i : ℕ) (d : Entry K V) → place less k es ≡ Some i → Hit es (get_or es i d)
  found_hit es i d h = let f = found es i h in hit_at es i d f.ranked f.within (f.level d)

  -- where k has no value there is nothing to take out
  pub without-absent : (es : List (Entry K V)) → at less k es ≡ None → without less k es ≡ es
  without-absent [] h = refl
  without-absent (x ∷ xs) h = go (less x.key k) (less k x.key) h (without-absent xs)
    where
      go : (a b : Bool) → cond a (at less k xs) (cond b None (Some x.value)) ≡ None → (at less k xs ≡ None → without less k xs ≡ xs) → cond a (x ∷ without less k xs) (cond b (x ∷ xs) xs) ≡ x ∷ xs
      go true b h more = ap (λ l. x ∷ l) (more h)
      go false true h more = refl
      go false false h more = absurd (let z : ◌≡◌ {A = ℕ} 0 1 = cc in omega arith)

  -- the value that is read at the place of k
  pub at_some : (es : List (Entry K V)) (i : ℕ) (e : Entry K V) → place less k es ≡ Some i → e ≡ get_or es i e → at less k es ≡ Some e.value
  at_some es i e h is = (found_hit es i e h).valued ∙ ap (λ (y : Entry K V). Some y.value) (sym is)

  pub at_none : (es : List (Entry K V)) → place less k es ≡ None → at less k es ≡ None
  at_none [] h = refl
  at_none (x ∷ xs) h = go (less x.key k) refl (less k x.key) refl (place less k xs) refl (at_none xs)
    where
      go : (b : Bool) → less x.key k ≡ b → (a : Bool) → less k x.key ≡ a → (o : Option ℕ) → place less k xs ≡ o → (place less k xs ≡ None → at less k xs ≡ None) → at less k (x ∷ xs) ≡ None
      go true p a q None r more = rw p (more r)
      go true p a q (Some j) r more = let z : ◌≡◌ {A = Option ℕ} None (Some (suc j)) = sym h ∙ rw (p, r) in absurd (let z2 : ◌≡◌ {A = ℕ} 0 1 = cc in omega arith)
      go false p true q o r more = rw (p, q) refl
      go false p false q o r more = let z : ◌≡◌ {A = Option ℕ} None (Some 0) = sym h ∙ rw (p, q) in absurd (let z2 : ◌≡◌ {A = ℕ} 0 1 = cc in omega arith)
