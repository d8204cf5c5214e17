-- A free slot that takes a record, and where each record lies. Assumes nothing.
use Rattle.std.proofs.Common.{◌≡◌, ℕ, suc, ◌+◌, ◌<◌, ◌≤◌, max, eqb, List, [], ◌∷◌, ◌++◌, length, get_or, take, drop, set, Some, None, sym, refl, ap, ◌∙◌, subst, inl, inr, arith, length-take, fold}
use lib.Seq.{set_split, split_at}
use Rattle.std.proofs.lemmas.Bool.{cond_both, cases_Bool, eqb-true, eqb-false}
use Rattle.journal.specs.Log.{All}
use Rattle.slots.specs.declared.slot.Slot.{Slot}
use Rattle.slots.specs.declared.slot.Key.{Key}
use Rattle.std.proofs.lemmas.List.Quantifiers.{position-Some}
use Rattle.slots.specs.Order.{Cell, key, is_free, before, cells, inserted, ordered, order, vacant, highest, after, first_key}
use Rattle.slots.specs.Value.{body, blank, grouped}
use Rattle.slots.proofs.Sorting.{Apart, all_map, all-ordered, ordered_middle, rising}
use Rattle.slots.proofs.Groups.{stored, grouped-inserted}
use Rattle.slots.proofs.Pruned.{cells_free, cells_live}

cells-append : (i : ℕ) (p q : List Slot) → cells i (p ++ q) ≡ cells i p ++ cells (i + length p) q
cells-append i [] q = let z : i ≡ i + 0 = omega arith in ap (λ j. cells j q) z ∙ (unfold cells in refl)
cells-append i (x ∷ p) q =
    let m : suc i + length p ≡ i + suc (length p) = omega arith in
    let ih = cells-append (suc i) p q ∙ ap (λ j. cells (suc i) p ++ cells j q) m in
    elim (cases_Bool (eqb x.age 0)) [
      | inl e ↦ cells_free i x (p ++ q) (eqb-true _ _ e) ∙ ih ∙ ap (λ (l : List Cell). l ++ cells (i + suc (length p)) q) (sym (cells_free i x p (eqb-true _ _ e)))
      | inr e ↦
          cells_live i x (p ++ q) (eqb-false _ _ e) ∙ ap (λ (l : List Cell). record { at = i; slot = x } ∷ l) ih
          ∙ ap (λ (l : List Cell). l ++ cells (i + suc (length p)) q) (sym (cells_live i x p (eqb-false _ _ e)))
    ]

cells-below : (i : ℕ) (xs : List Slot) → All (λ c. c.at < i + length xs) (cells i xs)
unfolding All cells
cells-below i [] = tt
cells-below i (x ∷ xs) =
    let rest = all_map (λ c. c.at < suc i + length xs) (λ c. c.at < i + suc (length xs)) (λ c h. omega arith) (cells (suc i) xs) (cells-below (suc i) xs) in
    cond_both (eqb x.age 0) _ _ (All (λ c. c.at < i + suc (length xs))) (λ _. rest) (λ _. (omega arith, rest))

-- the cells of a list with a free slot, and of the one where it takes a record
pub record Taken (i : ℕ) (y : Slot) (xs : List Slot) : Type 0 where
  pub front : List Cell
  pub rest : List Cell
  pub old : cells 0 xs ≡ front ++ rest
  pub new : cells 0 (set xs i y) ≡ front ++ record { at = i; slot = y } ∷ rest
  pub apart : Apart (record { at = i; slot = y }) front

pub taken : (xs : List Slot) (i : ℕ) (y d : Slot) → i < length xs → (get_or xs i d).age ≡ 0 → (y.age ≡ 0 → ⊥) → Taken i y xs
taken xs i y d h e n =
    let P = cells 0 (take i xs) in
    let Q = cells (suc i) (drop (suc i) xs) in
    let len : 0 + length (take i xs) ≡ i = omega (arith, length-take i xs, h) in
    record {
      front = P;
      rest = Q;
      old =
          ap (cells 0) (split_at xs i d h) ∙ cells-append 0 (take i xs) (get_or xs i d ∷ drop (suc i) xs) ∙ ap (λ j. P ++ cells j (get_or xs i d ∷ drop (suc i) xs)) len
          ∙ ap (λ (l : List Cell). P ++ l) (cells_free i (get_or xs i d) (drop (suc i) xs) e);
      new =
          ap (cells 0) (set_split xs i y h) ∙ cells-append 0 (take i xs) (y ∷ drop (suc i) xs) ∙ ap (λ j. P ++ cells j (y ∷ drop (suc i) xs)) len
          ∙ ap (λ (l : List Cell). P ++ l) (cells_live i y (drop (suc i) xs) n);
      apart = all_map (λ (z : Cell). z.at < 0 + length (take i xs)) (λ z. i ≡ z.at → ⊥) (λ z q r. omega (arith, q, r, len)) P (cells-below 0 (take i xs));
    }

-- a free slot that takes a record
pub order-set : (xs : List Slot) (i : ℕ) (y d : Slot) → i < length xs → (get_or xs i d).age ≡ 0 → (y.age ≡ 0 → ⊥) → order (set xs i y) ≡ inserted (record { at = i; slot = y }) (order xs)
unfolding order
order-set xs i y d h e n =
    let c : Cell = record { at = i; slot = y } in
    let t = taken xs i y d h e n in
    ap ordered t.new ∙ ordered_middle t.front c t.rest t.apart ∙ ap (λ (l : List Cell). inserted c (ordered l)) (sym t.old)

-- the highest age, and at least m
abbrev highest_from : ℕ → List Slot → ℕ
highest_from m xs = fold (λ a x. max a x.age) m xs

highest-least : (m : ℕ) (xs : List Slot) → m ≤ highest_from m xs
highest-least m [] = omega arith
highest-least m (x ∷ xs) = omega (arith, highest-least (max m x.age) xs)

cells-highest : (m i : ℕ) (xs : List Slot) → All (λ c. c.slot.age ≤ highest_from m xs) (cells i xs)
unfolding All cells
cells-highest m i [] = tt
cells-highest m i (x ∷ xs) =
    let rest = cells-highest (max m x.age) (suc i) xs in
    cond_both (eqb x.age 0) _ _ (All (λ c. c.slot.age ≤ highest_from (max m x.age) xs)) (λ _. rest) (λ _. (omega (arith, highest-least (max m x.age) xs), rest))

pub cells-aged : (xs : List Slot) (a : ℕ) → highest xs < a → All (λ c. c.slot.age < a) (cells 0 xs)
cells-aged xs a h = all_map (λ c. c.slot.age ≤ highest xs) (λ c. c.slot.age < a) (λ c q. omega arith) (cells 0 xs) (cells-highest 0 0 xs)

-- no record is older than the highest age
pub order-aged : (xs : List Slot) (a : ℕ) → highest xs < a → All (λ c. c.slot.age < a) (order xs)
unfolding order
order-aged xs a h = all-ordered _ (cells 0 xs) (cells-aged xs a h)

-- the value with one record more
pub grouped-set : (xs : List Slot) (i : ℕ) (y d : Slot) → i < length xs → (get_or xs i d).age ≡ 0 → highest xs < y.age →
    grouped (order (set xs i y)) ≡ stored y.section (body y) (grouped (order xs))
grouped-set xs i y d h e g =
    let n : y.age ≡ 0 → ⊥ = (λ z. omega (arith, g, z)) in
    ap grouped (order-set xs i y d h e n) ∙ grouped-inserted (record { at = i; slot = y }) (order xs) (rising xs) (order-aged xs y.age g)

-- the first free slot is one
pub vacant-at : (j : ℕ) (xs : List Slot) → vacant xs ≡ Some j → (j < length xs) × ((d : Slot) → (get_or xs j d).age ≡ 0)
vacant-at j xs e = ((position-Some is_free xs j blank e).0, λ d. eqb-true _ _ (position-Some is_free xs j d e).1)

-- where the slot of a cell lies
pub record Lies (i : ℕ) (xs : List Slot) (c : Cell) : Type 0 where
  pub place : ℕ
  pub sum : c.at ≡ i + place
  pub within : place < length xs
  pub is : (d : Slot) → get_or xs place d ≡ c.slot
  pub live : c.slot.age ≡ 0 → ⊥

cells_lie : (i : ℕ) (xs : List Slot) → All (Lies i xs) (cells i xs)
unfolding All
cells_lie i [] = unfold cells in tt
cells_lie i (x ∷ xs) =
    let rest = all_map (Lies (suc i) xs) (Lies i (x ∷ xs)) (λ c l. record { place = suc l.place; sum = omega (arith, l.sum); within = omega (arith, l.within); is = l.is; live = l.live }) (cells (suc i) xs) (cells_lie (suc i) xs) in
    elim (cases_Bool (eqb x.age 0)) [
      | inl e ↦ subst (All (Lies i (x ∷ xs))) (sym (cells_free i x xs (eqb-true _ _ e))) rest
      | inr e ↦
          subst (All (Lies i (x ∷ xs))) (sym (cells_live i x xs (eqb-false _ _ e)))
          (record { place = 0; sum = omega arith; within = omega arith; is = λ d. refl; live = eqb-false _ _ e }, rest)
    ]

pub record Lying (xs : List Slot) (c : Cell) : Type 0 where
  pub within : c.at < length xs
  pub is : (d : Slot) → get_or xs c.at d ≡ c.slot
  pub live : c.slot.age ≡ 0 → ⊥

pub order_lies : (xs : List Slot) → All (Lying xs) (order xs)
unfolding order
order_lies xs =
    all-ordered (Lying xs) (cells 0 xs)
    (all_map (Lies 0 xs) (Lying xs)
    (λ c l. let q : l.place ≡ c.at = omega (arith, l.sum) in record { within = omega (arith, l.within, q); is = λ d. ap (λ k. get_or xs k d) (sym q) ∙ l.is d; live = l.live })
    (cells 0 xs) (cells_lie 0 xs))

-- how many records there are
length_inserted : (x : Cell) (l : List Cell) → length (inserted x l) ≡ suc (length l)
unfolding inserted
length_inserted x [] = refl
length_inserted x (y ∷ ys) = cond_both (before (key x) (key y)) (x ∷ y ∷ ys) (y ∷ inserted x ys) (λ (l : List Cell). length l ≡ suc (suc (length ys))) (λ _. refl) (λ _. ap suc (length_inserted x ys))

length-cells : (i : ℕ) (xs : List Slot) → length (ordered (cells i xs)) ≤ length xs
unfolding cells ordered
length-cells i [] = omega arith
length-cells i (x ∷ xs) =
    cond_both (eqb x.age 0) _ _ (λ (l : List Cell). length (ordered l) ≤ suc (length xs)) (λ _. omega (arith, length-cells (suc i) xs))
    (λ _. omega (arith, length-cells (suc i) xs, length_inserted (record { at = i; slot = x }) (ordered (cells (suc i) xs))))

pub length-order : (xs : List Slot) → length (order xs) ≤ length xs
unfolding order
length-order xs = length-cells 0 xs

pub length-after : (k : Key) (l : List Cell) → length (after k l) ≤ length l
unfolding after
length-after k [] = omega arith
length-after k (c ∷ cs) = cond_both (before k (key c)) (c ∷ cs) (after k cs) (λ (l : List Cell). length l ≤ suc (length cs)) (λ _. omega arith) (λ _. omega (arith, length-after k cs))

-- a key that was found is that of a record
pub record Found (k : Key) (l : List Cell) : Type 0 where
  pub cell : Cell
  pub rest : List Cell
  pub split : l ≡ cell ∷ rest
  pub key : key cell ≡ k

pub found : (k : Key) (l : List Cell) → first_key l ≡ Some k → Found k l
unfolding first_key
found k [] e = let n : ◌≡◌ {A = ℕ} 0 1 = cc in absurd (omega arith)
found k (c ∷ cs) e = record { cell = c; rest = cs; split = refl; key = cc }

pub found_none : (l : List Cell) → first_key l ≡ None → l ≡ []
unfolding first_key
found_none [] e = refl
found_none (c ∷ cs) e = let n : ◌≡◌ {A = ℕ} 0 1 = cc in absurd (omega arith)
