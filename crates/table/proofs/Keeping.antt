-- What `put` and `without` keep: the order, and what holds of each entry. Assumes nothing.
use Rattle.std.proofs.Common.{◌≡◌, Bool, true, false, cond, List, [], ◌∷◌, refl, subst}
use Rattle.std.specs.List.{AllByRecursion as All}
use Rattle.table.specs.declared.Entry.{Entry}
use Rattle.table.specs.Order.{Total}
use Rattle.table.specs.Rows.{entry, Above, Sorted, put, without}

module _ {K V : Type 0} (less : K → K → Bool) where
  -- what holds of each entry
  pub all-put : (P : Entry K V → Type 0) (k : K) (v : V) (es : List (Entry K V)) → P (entry k v) → All P es → All P (put less k v es)
  all-put P k v [] h hs = (h, tt)
  all-put P k v (e ∷ es) h hs = go (less e.key k) (less k e.key) (all-put P k v es h hs.1)
    where
      go : (a b : Bool) → All P (put less k v es) → All P (cond a (e ∷ put less k v es) (cond b (entry k v ∷ e ∷ es) (entry k v ∷ es)))
      go true b more = (hs.0, more)
      go false true more = (h, hs)
      go false false more = (h, hs.1)

  pub all_without : (P : Entry K V → Type 0) (k : K) (es : List (Entry K V)) → All P es → All P (without less k es)
  all_without P k [] hs = tt
  all_without P k (e ∷ es) hs = go (less e.key k) (less k e.key) (all_without P k es hs.1)
    where
      go : (a b : Bool) → All P (without less k es) → All P (cond a (e ∷ without less k es) (cond b (e ∷ es) es))
      go true b more = (hs.0, more)
      go false true more = hs
      go false false more = hs.1

module _ {K V : Type 0} {less : K → K → Bool} (o : Total less) where
  above-put : (x k : K) (v : V) (es : List (Entry K V)) → less x k ≡ true → Above less x es → Above less x (put less k v es)
  above-put x k v [] h hs = (h, tt)
  above-put x k v (e ∷ es) h hs = go (less e.key k) (less k e.key) (above-put x k v es h hs.1)
    where
      go : (a b : Bool) → Above less x (put less k v es) → Above less x (cond a (e ∷ put less k v es) (cond b (entry k v ∷ e ∷ es) (entry k v ∷ es)))
      go true b more = (hs.0, more)
      go false true more = (h, hs)
      go false false more = (h, hs.1)

  above-without : (x k : K) (es : List (Entry K V)) → Above less x es → Above less x (without less k es)
  above-without x k [] hs = tt
  above-without x k (e ∷ es) hs = go (less e.key k) (less k e.key) (above-without x k es hs.1)
    where
      go : (a b : Bool) → Above less x (without less k es) → Above less x (cond a (e ∷ without less k es) (cond b (e ∷ es) es))
      go true b more = (hs.0, more)
      go false true more = hs
      go false false more = hs.1

  pub above-trans : (x y : K) (es : List (Entry K V)) → less x y ≡ true → Above less y es → Above less x es
  above-trans x y [] h hs = tt
  above-trans x y (e ∷ es) h hs = (o.trans x y e.key h hs.0, above-trans x y es h hs.1)

  pub sorted_put : (k : K) (v : V) (es : List (Entry K V)) → Sorted less es → Sorted less (put less k v es)
  sorted_put k v [] s = (tt, tt)
  sorted_put k v (e ∷ es) s = go (less e.key k) refl (less k e.key) refl (sorted_put k v es s.1)
    where
      go : (a : Bool) → less e.key k ≡ a → (b : Bool) → less k e.key ≡ b → Sorted less (put less k v es) → Sorted less (cond a (e ∷ put less k v es) (cond b (entry k v ∷ e ∷ es) (entry k v ∷ es)))
      go true p b q more = (above-put e.key k v es p s.0, more)
      go false p true q more = ((q, above-trans k e.key es q s.0), s)
      go false p false q more = (subst (λ x. Above less x es) (o.tied e.key k p q) s.0, s.1)

  pub sorted_without : (k : K) (es : List (Entry K V)) → Sorted less es → Sorted less (without less k es)
  sorted_without k [] s = tt
  sorted_without k (e ∷ es) s = go (less e.key k) (less k e.key) (sorted_without k es s.1)
    where
      go : (a b : Bool) → Sorted less (without less k es) → Sorted less (cond a (e ∷ without less k es) (cond b (e ∷ es) es))
      go true b more = (above-without e.key k es s.0, more)
      go false true more = s
      go false false more = s.1
