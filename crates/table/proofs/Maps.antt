-- A table is a finite map: what it answers after `put` and `without`, at every key. Assumes nothing.
use Rattle.std.proofs.Common.{◌≡◌, ℕ, Bool, true, false, cond, List, [], ◌∷◌, take, Some, None, Option, Ok, Err, Result, sym, refl, ap, ◌∙◌, subst}
use Rattle.table.specs.declared.Entry.{Entry}
use Rattle.table.specs.declared.Full.{Full}
use Rattle.table.specs.Order.{Total}
use Rattle.table.specs.Rows.{entry, Above, Sorted, at, put, without}
use Rattle.table.specs.Updates.{grown, shrunk, Inserted, Removed, Answers, MapInserted, MapRemoved}
use Rattle.table.proofs.Edges.{one_way}
use Rattle.table.proofs.Keeping.{above-trans, sorted_put, sorted_without}

module _ {K : Type 0} {less : K → K → Bool} (o : Total less) where
  -- j is below k, and y is not: so j is below y
  under : (j k y : K) → less j k ≡ true → less y k ≡ false → less j y ≡ true
  under j k y h n = go (less k y) refl
    where
      go : (b : Bool) → less k y ≡ b → less j y ≡ true
      go true p = o.trans j k y h p
      go false p = ap (less j) (o.tied y k n p) ∙ h

module _ {K V : Type 0} {less : K → K → Bool} (o : Total less) where
  -- no key below the first stands in a table
  at_above : (j : K) (es : List (Entry K V)) → Above less j es → at less j es ≡ None
  at_above j [] hs = refl
  at_above j (x ∷ xs) hs = let n = one_way o j x.key hs.0 in rw (n, hs.0) refl

  at-below : (j : K) (x : Entry K V) (xs : List (Entry K V)) → less j x.key ≡ true → at less j (x ∷ xs) ≡ None
  at-below j x xs h = let n = one_way o j x.key h in rw (n, h) refl

  at-beyond : (j : K) (x : Entry K V) (xs : List (Entry K V)) → less x.key j ≡ true → at less j (x ∷ xs) ≡ at less j xs
  at-beyond j x xs h = rw h refl

  at_head : (x : Entry K V) (xs : List (Entry K V)) → at less x.key (x ∷ xs) ≡ Some x.value
  at_head x xs = let n = o.never x.key in rw n refl

  -- one entry more in front of tables that agree at j
  at-cons : (j : K) (x : Entry K V) (xs ys : List (Entry K V)) → at less j xs ≡ at less j ys → at less j (x ∷ xs) ≡ at less j (x ∷ ys)
  at-cons j x xs ys h = ap (λ a. cond (less x.key j) a (cond (less j x.key) None (Some x.value))) h

  put_same : (k : K) (v : V) (es : List (Entry K V)) → at less k (put less k v es) ≡ Some v
  put_same k v [] = at_head (entry k v) []
  put_same k v (x ∷ xs) = go (less x.key k) refl (less k x.key) (put_same k v xs)
    where
      go : (a : Bool) → less x.key k ≡ a → (b : Bool) → at less k (put less k v xs) ≡ Some v → at less k (cond a (x ∷ put less k v xs) (cond b (entry k v ∷ x ∷ xs) (entry k v ∷ xs))) ≡ Some v
      go true p b more = at-beyond k x (put less k v xs) p ∙ more
      go false p true more = at_head (entry k v) (x ∷ xs)
      go false p false more = at_head (entry k v) xs

  put-below : (k : K) (v : V) (j : K) → less j k ≡ true → (es : List (Entry K V)) → at less j (put less k v es) ≡ at less j es
  put-below k v j h [] = at-below j (entry k v) [] h
  put-below k v j h (x ∷ xs) = go (less x.key k) refl (less k x.key) (put-below k v j h xs)
    where
      go : (a : Bool) → less x.key k ≡ a → (b : Bool) → at less j (put less k v xs) ≡ at less j xs → at less j (cond a (x ∷ put less k v xs) (cond b (entry k v ∷ x ∷ xs) (entry k v ∷ xs))) ≡ at less j (x ∷ xs)
      go true p b more = at-cons j x (put less k v xs) xs more
      go false p true more = at-below j (entry k v) (x ∷ xs) h ∙ sym (at-below j x xs (under o j k x.key h p))
      go false p false more = at-below j (entry k v) xs h ∙ sym (at-below j x xs (under o j k x.key h p))

  put-beyond : (k : K) (v : V) (j : K) → less k j ≡ true → (es : List (Entry K V)) → at less j (put less k v es) ≡ at less j es
  put-beyond k v j h [] = at-beyond j (entry k v) [] h
  put-beyond k v j h (x ∷ xs) = go (less x.key k) refl (less k x.key) refl (put-beyond k v j h xs)
    where
      go : (a : Bool) → less x.key k ≡ a → (b : Bool) → less k x.key ≡ b → at less j (put less k v xs) ≡ at less j xs → at less j (cond a (x ∷ put less k v xs) (cond b (entry k v ∷ x ∷ xs) (entry k v ∷ xs))) ≡ at less j (x ∷ xs)
      go true p b q more = at-cons j x (put less k v xs) xs more
      go false p true q more = at-beyond j (entry k v) (x ∷ xs) h
      go false p false q more = at-beyond j (entry k v) xs h ∙ sym (at-beyond j x xs (ap (λ y. less y j) (o.tied x.key k p q) ∙ h))

  without-same : (k : K) (es : List (Entry K V)) → Sorted less es → at less k (without less k es) ≡ None
  without-same k [] s = refl
  without-same k (x ∷ xs) s = go (less x.key k) refl (less k x.key) refl (without-same k xs s.1)
    where
      go : (a : Bool) → less x.key k ≡ a → (b : Bool) → less k x.key ≡ b → at less k (without less k xs) ≡ None → at less k (cond a (x ∷ without less k xs) (cond b (x ∷ xs) xs)) ≡ None
      go true p b q more = at-beyond k x (without less k xs) p ∙ more
      go false p true q more = at-below k x xs q
      go false p false q more = at_above k xs (subst (λ y. Above less y xs) (o.tied x.key k p q) s.0)

  without-below : (k j : K) → less j k ≡ true → (es : List (Entry K V)) → Sorted less es → at less j (without less k es) ≡ at less j es
  without-below k j h [] s = refl
  without-below k j h (x ∷ xs) s = go (less x.key k) refl (less k x.key) (without-below k j h xs s.1)
    where
      go : (a : Bool) → less x.key k ≡ a → (b : Bool) → at less j (without less k xs) ≡ at less j xs → at less j (cond a (x ∷ without less k xs) (cond b (x ∷ xs) xs)) ≡ at less j (x ∷ xs)
      go true p b more = at-cons j x (without less k xs) xs more
      go false p true more = refl
      go false p false more =
          let low = under o j k x.key h p in
          at_above j xs (above-trans o j x.key xs low s.0) ∙ sym (at-below j x xs low)

  without-beyond : (k j : K) → less k j ≡ true → (es : List (Entry K V)) → at less j (without less k es) ≡ at less j es
  without-beyond k j h [] = refl
  without-beyond k j h (x ∷ xs) = go (less x.key k) refl (less k x.key) refl (without-beyond k j h xs)
    where
      go : (a : Bool) → less x.key k ≡ a → (b : Bool) → less k x.key ≡ b → at less j (without less k xs) ≡ at less j xs → at less j (cond a (x ∷ without less k xs) (cond b (x ∷ xs) xs)) ≡ at less j (x ∷ xs)
      go true p b q more = at-cons j x (without less k xs) xs more
      go false p true q more = refl
      go false p false q more = sym (at-beyond j x xs (ap (λ y. less y j) (o.tied x.key k p q) ∙ h))

  -- it is enough to know what is answered below k, beyond k and at k
  answers : (k : K) (a : Option V) (old new : List (Entry K V)) → ((j : K) → less j k ≡ true → at less j new ≡ at less j old) → ((j : K) → less k j ≡ true → at less j new ≡ at less j old) → at less k new ≡ a → Answers less k a old new
  answers k a old new low high here j = go (less j k) refl (less k j) refl
    where
      go : (b : Bool) → less j k ≡ b → (c : Bool) → less k j ≡ c → at less j new ≡ cond (cond b false (cond c false true)) a (at less j old)
      go true p c q = low j p
      go false p true q = high j q
      go false p false q = ap (λ y. at less y new) (o.tied j k p q) ∙ here

  pub answers_put : (k : K) (v : V) (es : List (Entry K V)) → Answers less k (Some v) es (put less k v es)
  answers_put k v es = answers k (Some v) es (put less k v es) (λ j h. put-below k v j h es) (λ j h. put-beyond k v j h es) (put_same k v es)

  pub answers_without : (k : K) (es : List (Entry K V)) → Sorted less es → Answers less k None es (without less k es)
  answers_without k es s = answers k None es (without less k es) (λ j h. without-below k j h es s) (λ j h. without-beyond k j h es) (without-same k es s)

  -- what `insert` leaves is sorted, and is the map with the new value
  module _ (k : K) (v : V) (used : ℕ) (old new : List (Entry K V)) where
    pub inserted_sorted : (r : Result (Option V) Full) → Inserted less k v used old new r → Sorted less (take used old) → Sorted less (take (grown used r) new)
    inserted_sorted (Ok None) i s = subst (Sorted less) (sym i.2) (sorted_put o k v (take used old) s)
    inserted_sorted (Ok (Some w)) i s = subst (Sorted less) (sym i.1) (sorted_put o k v (take used old) s)
    inserted_sorted (Err full) i s = subst (λ l. Sorted less (take used l)) (sym i.2) s

    pub inserted-map : (r : Result (Option V) Full) → Inserted less k v used old new r → MapInserted less k v (take used old) (take (grown used r) new) r
    inserted-map (Ok None) i = λ j. ap (at less j) i.2 ∙ answers_put k v (take used old) j
    inserted-map (Ok (Some w)) i = λ j. ap (at less j) i.1 ∙ answers_put k v (take used old) j
    inserted-map (Err full) i = λ j. ap (λ l. at less j (take used l)) i.2

  -- and what `remove` leaves is the map without the key
  module _ (k : K) (used : ℕ) (old new : List (Entry K V)) where
    pub removed_sorted : (r : Option V) → Removed less k used old new r → Sorted less (take used old) → Sorted less (take (shrunk used old r) new)
    removed_sorted (Some w) i s = subst (Sorted less) (sym i.1) (sorted_without o k (take used old) s)
    removed_sorted None i s = subst (λ l. Sorted less (take used l)) (sym i.1) s

    pub removed_map : (r : Option V) → Removed less k used old new r → Sorted less (take used old) → MapRemoved less k (take used old) (take (shrunk used old r) new)
    removed_map (Some w) i s = λ j. ap (at less j) i.1 ∙ answers_without k (take used old) s j
    removed_map None i s =
        let same : take used new ≡ take used old = ap (take used) i.1 in
        answers k None (take used old) (take used new) (λ j _. ap (at less j) same) (λ j _. ap (at less j) same) (ap (at less k) same ∙ i.0)
