-- What `insert` and `remove` leave, by the way that they went. Assumes nothing.
use Rattle.std.proofs.Common.{◌≡◌, ℕ, zero, suc, ◌+◌, ◌-◌, ◌<◌, ◌≤◌, min, Bool, true, false, ◌⊎◌, List, [], ◌∷◌, ◌++◌, length, get_or, take, drop, set, Some, None, Option, Ok, Err, Result, sym, refl, ap, ◌∙◌, subst, inl, inr, arith}
use borrow.Rule.Slice.PartMut.{put_mid}
use Rattle.std.specs.List.{between, remove}
use Rattle.std.proofs.lemmas.List.{length-take-le, drop-set-lt, get_or-take, take_all, get_or_default, drop-drop, length-drop}
use Rattle.std.proofs.lemmas.Bool.{cases_order}
use Rattle.table.specs.declared.Entry.{Entry}
use Rattle.table.specs.declared.Full.{Full}
use Rattle.table.specs.Order.{Total}
use Rattle.table.specs.Rows.{entry, rank, place, at, put, without}
use Rattle.table.specs.Updates.{Inserted, Removed}
use Rattle.table.proofs.Facts.{Miss, rank-le, hit_at, miss_at, miss_past, found, found_hit, at_none}
use Rattle.table.proofs.Shifts.{shifted_in, drawn_out}

module _ {K V : Type 0} {less : K → K → Bool} (o : Total less) where
  take-set_in : (n : ℕ) (xs : List (Entry K V)) (i : ℕ) (y : Entry K V) → take n (set xs i y) ≡ set (take n xs) i y
  take-set_in zero xs i y = refl
  take-set_in (suc n) [] i y = refl
  take-set_in (suc n) (x ∷ xs) zero y = refl
  take-set_in (suc n) (x ∷ xs) (suc i) y = ap (λ l. x ∷ l) (take-set_in n xs i y)

  module _ (k : K) (es : List (Entry K V)) (used : ℕ) (fits : used ≤ length es) where
    part : take (used - 0) (drop 0 es) ≡ take used es
    part = let z : used - 0 ≡ used = omega arith in ap (λ n. take n es) z

    pub ranked : (i : ℕ) → i ≡ rank less k (take (used - 0) (drop 0 es)) → i ≡ rank less k (take used es)
    ranked i h = h ∙ ap (rank less k) part

    -- the value is written over
    pub replaced : (v : V) (i : ℕ) (d w c : Entry K V) → i ≡ rank less k (take used es) → i < used → less k (get_or es i c).key ≡ false → Inserted less k v used es (set es i (entry (get_or es i w).key v)) (Ok (Some (get_or es i d).value))
    replaced v i d w c eq in' level' =
        let level : less k (get_or es i d).key ≡ false = ap (λ (y : Entry K V). less k y.key) (get_or_default es i d c (omega arith)) ∙ level' in
        let l : i < length (take used es) = rw length-take-le in' in
        let e : get_or (take used es) i d ≡ get_or es i d = get_or-take used es i d in' in
        let h = hit_at less k (take used es) i d eq l (ap (λ (y : Entry K V). less k y.key) e ∙ level) in
        let same : (get_or es i w).key ≡ k =
        ap (λ (y : Entry K V). y.key) (get_or_default es i w d (omega arith) ∙ sym e) ∙ o.tied (get_or (take used es) i d).key k h.below (ap (λ (y : Entry K V). less k y.key) e ∙ level) in (
          h.valued ∙ ap (λ (y : Entry K V). Some y.value) e,
          take-set_in used es i (entry (get_or es i w).key v) ∙ ap (λ x. set (take used es) i (entry x v)) same ∙ ap (λ n. set (take used es) n (entry k v)) eq ∙ sym (h.putting v),
          drop-set-lt used es i (entry (get_or es i w).key v) in',
        )

    pub full : (v : V) → used ≡ length es → Miss less k (take used es) → Inserted less k v used es es (Err (record {}))
    full v e m = (omega arith, ap (at less k) (sym (take_all used es (omega arith))) ∙ m.valued, refl)

    pub added : (v : V) (i : ℕ) (q : List (Entry K V)) → i ≡ rank less k (take used es) → used < length es → Miss less k (take used es) → q ≡ drop (length (between i (used + 1) (set es used (entry k v))) - 1) (between i (used + 1) (set es used (entry k v))) ++ take (length (between i (used + 1) (set es used (entry k v))) - 1) (between i (used + 1) (set es used (entry k v))) → Inserted less k v used es (put_mid i (used + 1 - i) (set es used (entry k v)) q) (Ok None)
    added v i q eq room m by =
        let low : i ≤ used = omega (arith, rank-le less k (take used es), length-take-le used es fits) in
        let s = shifted_in es i used (entry k v) low room q by in
        (room, m.valued, s.front ∙ ap (λ n. take n (take used es) ++ entry k v ∷ drop n (take used es)) eq ∙ sym (m.putting v), s.back)

    pub drawn : (i : ℕ) (d : Entry K V) (q : List (Entry K V)) → place less k (take (used - 0) (drop 0 es)) ≡ Some i → q ≡ drop 1 (between i used es) ++ take 1 (between i used es) → Removed less k used es (put_mid i (used - i) es q) (Some (get_or es i d).value)
    drawn i d q at_i by =
        let here = ap (place less k) (sym part) ∙ at_i in
        let f = found less k (take used es) i here in
        let low : i < used = omega (arith, f.within, length-take-le used es fits) in
        let h = found_hit less k (take used es) i d here in
        let e : get_or (take used es) i d ≡ get_or es i d = get_or-take used es i d low in
        let s = drawn_out es i used low fits q by in
        let front = ap (λ n. take (n - 1) (put_mid i (used - i) es q)) (length-take-le used es fits) ∙ s.front in
        (h.valued ∙ ap (λ (y : Entry K V). Some y.value) e, front ∙ ap (remove (take used es)) f.ranked ∙ sym h.leaving, s.back)

    pub absent : place less k (take (used - 0) (drop 0 es)) ≡ None → Removed less k used es es None
    absent h = (at_none less k (take used es) (ap (place less k) (sym part) ∙ h), refl)

    -- the two ways to find that k is absent
    pub missed_at : (i : ℕ) (d : Entry K V) → i ≡ rank less k (take (used - 0) (drop 0 es)) → i < used → less k (get_or es i d).key ≡ true → Miss less k (take used es)
    missed_at i d eq in' more =
        let l : i < length (take used es) = rw length-take-le in' in
        miss_at less k (take used es) i d (ranked i eq) l (ap (λ (y : Entry K V). less k y.key) (get_or-take used es i d in') ∙ more)

    pub missed_past : (i : ℕ) → i ≡ rank less k (take (used - 0) (drop 0 es)) → used ≤ i → Miss less k (take used es)
    missed_past i eq past = miss_past less k (take used es) i (ranked i eq) (rw length-take-le past)

-- the first n of a list are its first `used`, where n stops at its end
module _ {X : Type 0} (used n : ℕ) where
  take_clamped : (xs : List X) → n ≡ min used (length xs) → take n xs ≡ take used xs
  take_clamped xs is = go (cases_order used (length xs))
    where
      go : (used ≡ length xs) ⊎ ((used < length xs) ⊎ (length xs < used)) → take n xs ≡ take used xs
      go (inl e) = let z : n ≡ used = omega arith in ap (λ m. take m xs) z
      go (inr (inl l)) = let z : n ≡ used = omega arith in ap (λ m. take m xs) z
      go (inr (inr l)) = take_all n xs (omega arith) ∙ sym (take_all used xs (omega arith))

  drop_clamped : (xs ys : List X) → n ≤ used → drop n ys ≡ drop n xs → drop used ys ≡ drop used xs
  drop_clamped xs ys le same =
      let z : n + (used - n) ≡ used = omega arith in
      ap (λ m. drop m ys) (sym z) ∙ sym (drop-drop (used - n) n ys) ∙ ap (drop (used - n)) same ∙ drop-drop (used - n) n xs ∙ ap (λ m. drop m xs) z

  take-kept : (xs ys : List X) → n ≡ min used (length xs) → drop n ys ≡ drop n xs → take n ys ≡ take used ys
  take-kept xs ys is same = go (cases_order used (length xs))
    where
      go : (used ≡ length xs) ⊎ ((used < length xs) ⊎ (length xs < used)) → take n ys ≡ take used ys
      go (inl e) = let z : n ≡ used = omega arith in ap (λ m. take m ys) z
      go (inr (inl l)) = let z : n ≡ used = omega arith in ap (λ m. take m ys) z
      go (inr (inr l)) =
          let z : length ys - n ≡ length xs - n = sym (length-drop n ys) ∙ ap length same ∙ length-drop n xs in
          take_all n ys (omega arith) ∙ sym (take_all used ys (omega arith))

-- what is left of the first n is left of the first `used`
module _ {K V : Type 0} (less : K → K → Bool) (k : K) (used n : ℕ) (old new : List (Entry K V)) (is : n ≡ min used (length old)) where
  table_is : take n old ≡ take used old
  table_is = take_clamped used n old is

  pub inserted_clamped : (v : V) (r : Result (Option V) Full) → Inserted less k v n old new r → Inserted less k v used old new r
  inserted_clamped v (Ok None) i = let z : n ≡ used = omega (arith, i.0) in subst (λ m. Inserted less k v m old new (Ok None)) z i
  inserted_clamped v (Ok (Some w)) i = (
    ap (at less k) (sym table_is) ∙ i.0,
    sym (take-kept used n old new is i.2) ∙ i.1 ∙ ap (put less k v) table_is,
    drop_clamped used n old new (omega arith) i.2,
  )
  inserted_clamped v (Err full) i = (omega (arith, i.0), i.1, i.2)

  pub removed_clamped : (r : Option V) → Removed less k n old new r → Removed less k used old new r
  removed_clamped (Some w) i = (
    ap (at less k) (sym table_is) ∙ i.0,
    ap (λ l. take (length l - 1) new) (sym table_is) ∙ i.1 ∙ ap (without less k) table_is,
    drop_clamped used n old new (omega arith) i.2,
  )
  removed_clamped None i = (ap (at less k) (sym table_is) ∙ i.0, i.1)
