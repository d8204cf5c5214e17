-- Records in reading order: what is added, kept and found there. Assumes nothing.
use Rattle.std.proofs.Common.{◌≡◌, ℕ, suc, ◌+◌, ◌<◌, ◌≤◌, true, false, cond, eqb, List, [], ◌∷◌, ◌++◌, Some, None, Option, sym, refl, ap, ◌∙◌, subst, inl, inr, append_assoc, append-nil, add-one, map, fold, arith}
use Rattle.std.specs.List.{filter_map, cons_option, enumerate_from}
use Rattle.std.proofs.lemmas.Bool.{cond-true, cond-false, cond_both, cases_Bool}
use Rattle.journal.specs.Log.{All}
use Rattle.slots.specs.declared.slot.Slot.{Slot}
use Rattle.slots.specs.declared.slot.Key.{Key}
use Rattle.slots.specs.Order.{Cell, key, key_of, slot_key, keys, before, cells, inserted, ordered, order, after, first_key, nearer, near, near_slot}
use Rattle.slots.proofs.Keys.{before-trans, before_asym, before_self, before-total}

pub all_map : {X : Type 0} (P Q : X → Type 0) → ((x : X) → P x → Q x) → (xs : List X) → All P xs → All Q xs
unfolding All
all_map P Q h [] a = tt
all_map P Q h (x ∷ xs) (p, a) = (h x p, all_map P Q h xs a)

pub all_append : {X : Type 0} (P : X → Type 0) (xs ys : List X) → All P xs → All P ys → All P (xs ++ ys)
unfolding All
all_append P [] ys a b = b
all_append P (x ∷ xs) ys (p, a) b = (p, all_append P xs ys a b)

-- read before all of a list
abbrev pub Later : Cell → List Cell → Type 0
Later x ys = All (λ y. before (key x) (key y) ≡ true) ys

-- at another place than all of a list
abbrev pub Apart : Cell → List Cell → Type 0
Apart x ys = All (λ y. x.at ≡ y.at → ⊥) ys

unfoldable pub Rising : List Cell → Type 0
Rising [] = Unit {0}
Rising (x ∷ xs) = Later x xs × Rising xs

pub here : (x y : Cell) (ys : List Cell) → before (key x) (key y) ≡ true → inserted x (y ∷ ys) ≡ x ∷ y ∷ ys
unfolding inserted
here x y ys p = cond-true _ _ _ p

pub on : (x y : Cell) (ys : List Cell) → before (key x) (key y) ≡ false → inserted x (y ∷ ys) ≡ y ∷ inserted x ys
unfolding inserted
on x y ys p = cond-false _ _ _ p

pub all_inserted : (P : Cell → Type 0) (x : Cell) (ys : List Cell) → P x → All P ys → All P (inserted x ys)
unfolding All inserted
all_inserted P x [] p a = (p, tt)
all_inserted P x (y ∷ ys) p (q, a) = cond_both (before (key x) (key y)) _ _ (All P) (λ _. (p, (q, a))) (λ _. (q, all_inserted P x ys p a))

pub all-ordered : (P : Cell → Type 0) (xs : List Cell) → All P xs → All P (ordered xs)
unfolding All ordered
all-ordered P [] a = tt
all-ordered P (x ∷ xs) (p, a) = all_inserted P x (ordered xs) p (all-ordered P xs a)

pub later_first : (x : Cell) (ys : List Cell) → Later x ys → inserted x ys ≡ x ∷ ys
unfolding All inserted
later_first x [] a = refl
later_first x (y ∷ ys) (p, a) = here x y ys p

pub rising-inserted : (x : Cell) (ys : List Cell) → Apart x ys → Rising ys → Rising (inserted x ys)
unfolding All Rising inserted
rising-inserted x [] a r = (tt, tt)
rising-inserted x (y ∷ ys) (n, a) (l, r) =
    cond_both (before (key x) (key y)) _ _ Rising
    (λ p. ((p, all_map _ _ (λ z q. before-trans (key x) (key y) (key z) p q) ys l), (l, r)))
    (λ p. (all_inserted _ x ys (before-total (key x) (key y) n p) l, rising-inserted x ys a r))

pub cells-from : (i : ℕ) (xs : List Slot) → All (λ c. i ≤ c.at) (cells i xs)
unfolding All cells
cells-from i [] = tt
cells-from i (x ∷ xs) =
    let rest = all_map (λ c. suc i ≤ c.at) (λ c. i ≤ c.at) (λ c h. omega arith) (cells (suc i) xs) (cells-from (suc i) xs) in
    cond_both (eqb x.age 0) _ _ (All (λ c. i ≤ c.at)) (λ _. rest) (λ _. (omega arith, rest))

pub cells_apart : (i : ℕ) (x : Slot) (xs : List Slot) → Apart (record { at = i; slot = x }) (cells (suc i) xs)
cells_apart i x xs = all_map (λ c. suc i ≤ c.at) _ (λ c h e. omega arith) (cells (suc i) xs) (cells-from (suc i) xs)

rising-cells : (i : ℕ) (xs : List Slot) → Rising (ordered (cells i xs))
unfolding Rising ordered cells
rising-cells i [] = tt
rising-cells i (x ∷ xs) =
    cond_both (eqb x.age 0) _ _ (λ l. Rising (ordered l)) (λ _. rising-cells (suc i) xs)
    (λ _. rising-inserted (record { at = i; slot = x }) (ordered (cells (suc i) xs)) (all-ordered _ (cells (suc i) xs) (cells_apart i x xs)) (rising-cells (suc i) xs))

pub rising : (xs : List Slot) → Rising (order xs)
unfolding order
rising xs = rising-cells 0 xs

-- two records are added in either order
commute_before : (a b : Cell) → before (key a) (key b) ≡ true → (l : List Cell) → inserted a (inserted b l) ≡ inserted b (inserted a l)
commute_before a b p [] = unfold inserted in (here a b [] p ∙ sym (on b a [] (before_asym (key a) (key b) p)))
commute_before a b p (y ∷ ys) =
    elim (cases_Bool (before (key b) (key y))) [
      | inl q ↦
          ap (inserted a) (here b y ys q) ∙ here a b (y ∷ ys) p ∙ ap (λ (l : List Cell). a ∷ l) (sym (here b y ys q))
          ∙ sym (on b a (y ∷ ys) (before_asym (key a) (key b) p)) ∙ ap (inserted b) (sym (here a y ys (before-trans (key a) (key b) (key y) p q)))
      | inr q ↦
          elim (cases_Bool (before (key a) (key y))) [
            | inl r ↦
                ap (inserted a) (on b y ys q) ∙ here a y (inserted b ys) r ∙ ap (λ (l : List Cell). a ∷ l) (sym (on b y ys q))
                ∙ sym (on b a (y ∷ ys) (before_asym (key a) (key b) p)) ∙ ap (inserted b) (sym (here a y ys r))
            | inr r ↦
                ap (inserted a) (on b y ys q) ∙ on a y (inserted b ys) r ∙ ap (λ (l : List Cell). y ∷ l) (commute_before a b p ys)
                ∙ sym (on b y (inserted a ys) q) ∙ ap (inserted b) (sym (on a y ys r))
          ]
    ]

pub commute : (a b : Cell) → (a.at ≡ b.at → ⊥) → (l : List Cell) → inserted a (inserted b l) ≡ inserted b (inserted a l)
commute a b n l =
    elim (cases_Bool (before (key a) (key b))) [
      | inl p ↦ commute_before a b p l
      | inr p ↦ sym (commute_before b a (before-total (key a) (key b) n p) l)
    ]

-- a record in the midst of a list
pub ordered_middle : (p : List Cell) (c : Cell) (q : List Cell) → Apart c p → ordered (p ++ c ∷ q) ≡ inserted c (ordered (p ++ q))
unfolding ordered All
ordered_middle [] c q a = refl
ordered_middle (y ∷ p) c q (n, a) = ap (inserted y) (ordered_middle p c q a) ∙ commute y c (λ e. n (sym e)) (ordered (p ++ q))

-- what comes after a key, with one record more
after-inserted : (k : Key) (c : Cell) (l : List Cell) → first_key (after k (inserted c l)) ≡ near k (first_key (after k l)) (key c)
unfolding inserted after first_key
after-inserted k c [] = cond_both (before k (key c)) (c ∷ []) [] (λ l. first_key l ≡ cond (before k (key c)) (Some (key c)) None) (λ p. sym (cond-true _ _ _ p)) (λ p. sym (cond-false _ _ _ p))
after-inserted k c (y ∷ ys) =
    elim (cases_Bool (before (key c) (key y))) [
      | inl q ↦
          elim (cases_Bool (before k (key c))) [
            | inl p ↦
                ap (λ l. first_key (after k l)) (here c y ys q) ∙ ap first_key (cond-true _ _ _ p)
                ∙ sym (cond-true _ _ _ p ∙ ap (λ l. nearer (first_key l) (key c)) (cond-true _ (y ∷ ys) (after k ys) (before-trans k (key c) (key y) p q)) ∙ cond-true _ _ _ q)
            | inr p ↦
                ap (λ l. first_key (after k l)) (here c y ys q) ∙ ap first_key (cond-false _ _ _ p) ∙ sym (cond-false _ _ _ p)
          ]
      | inr q ↦
          elim (cases_Bool (before k (key y))) [
            | inl p ↦
                ap (λ l. first_key (after k l)) (on c y ys q) ∙ ap first_key (cond-true _ (y ∷ inserted c ys) (after k (inserted c ys)) p)
                ∙ sym (ap (λ l. near k (first_key l) (key c)) (cond-true _ (y ∷ ys) (after k ys) p) ∙ cond_both (before k (key c)) _ _ (λ r. r ≡ Some (key y)) (λ _. cond-false _ _ _ q) (λ _. refl))
            | inr p ↦
                ap (λ l. first_key (after k l)) (on c y ys q) ∙ ap first_key (cond-false _ (y ∷ inserted c ys) (after k (inserted c ys)) p) ∙ after-inserted k c ys
                ∙ sym (ap (λ l. near k (first_key l) (key c)) (cond-false _ (y ∷ ys) (after k ys) p))
          ]
    ]

-- the keys of the slots, the first place being i
abbrev keys_from : ℕ → List Slot → List Key
keys_from i xs = filter_map (λ p. slot_key p.0 p.1) (enumerate_from i xs)

keys-cells : (i : ℕ) (xs : List Slot) → keys_from i xs ≡ map key (cells i xs)
unfolding cells
keys-cells i [] = refl
keys-cells i (x ∷ xs) =
    let rest : keys_from (i + 1) xs ≡ map key (cells (suc i) xs) = keys-cells (i + 1) xs ∙ ap (λ j. map key (cells j xs)) (add-one i) in
    elim (cases_Bool (eqb x.age 0)) [
      | inl p ↦ ap (λ o. cons_option o (keys_from (i + 1) xs)) (cond-true _ _ _ p) ∙ rest ∙ ap (map key) (sym (cond-true _ _ _ p))
      | inr p ↦ ap (λ o. cons_option o (keys_from (i + 1) xs)) (cond-false _ _ _ p) ∙ ap (λ l. key_of i x ∷ l) rest ∙ ap (map key) (sym (cond-false _ _ _ p))
    ]

-- the keys are those of the cells
pub keys_are : (xs : List Slot) → keys xs ≡ map key (cells 0 xs)
keys_are xs = keys-cells 0 xs

-- the nearest of the keys that are gone through is that of the first cell
nearest-from : (k : Key) (i : ℕ) (best : Option Key) (xs : List Slot) (C : List Cell) → All (λ c. c.at < i) C → best ≡ first_key (after k (ordered C)) →
    fold (near k) best (map key (cells i xs)) ≡ first_key (after k (ordered (C ++ cells i xs)))
unfolding cells
nearest-from k i best [] C a e = e ∙ ap (λ l. first_key (after k (ordered l))) (sym (append-nil C))
nearest-from k i best (x ∷ xs) C a e =
    let c : Cell = record { at = i; slot = x } in
    elim (cases_Bool (eqb x.age 0)) [
      | inl p ↦
          ap (λ l. fold (near k) best (map key l)) (cond-true _ _ _ p) ∙ nearest-from k (suc i) best xs C (all_map _ _ (λ y h. omega arith) C a) e
          ∙ ap (λ l. first_key (after k (ordered (C ++ l)))) (sym (cond-true _ (cells (suc i) xs) (c ∷ cells (suc i) xs) p))
      | inr p ↦
          let apart : Apart c C = all_map (λ (y : Cell). y.at < i) (λ y. i ≡ y.at → ⊥) (λ y h q. omega arith) C a in
          ap (λ l. fold (near k) best (map key l)) (cond-false _ _ _ p)
          ∙ nearest-from k (suc i) (near k best (key c)) xs (C ++ c ∷ []) (all_append _ C (c ∷ []) (all_map _ _ (λ y h. omega arith) C a) (unfold All in (omega arith, tt)))
          (ap (λ b. near k b (key c)) e ∙ sym (after-inserted k c (ordered C)) ∙ ap (λ l. first_key (after k (inserted c (ordered l)))) (sym (append-nil C)) ∙ ap (λ l. first_key (after k l)) (sym (ordered_middle C c [] apart)))
          ∙ ap (λ l. first_key (after k (ordered l))) (append_assoc C (c ∷ []) (cells (suc i) xs))
          ∙ ap (λ l. first_key (after k (ordered (C ++ l)))) (sym (cond-false _ (cells (suc i) xs) (c ∷ cells (suc i) xs) p))
    ]

-- slots that are gone through, and their keys
near-cells : (k : Key) (i : ℕ) (best : Option Key) (xs : List Slot) → fold (λ b p. near_slot k b p.0 p.1) best (enumerate_from i xs) ≡ fold (near k) best (map key (cells i xs))
unfolding cells
near-cells k i best [] = refl
near-cells k i best (x ∷ xs) =
    let rest : (b : Option Key) → fold (λ b p. near_slot k b p.0 p.1) b (enumerate_from (i + 1) xs) ≡ fold (near k) b (map key (cells (suc i) xs)) = λ b. near-cells k (i + 1) b xs ∙ ap (λ j. fold (near k) b (map key (cells j xs))) (add-one i) in
    elim (cases_Bool (eqb x.age 0)) [
      | inl p ↦ ap (λ b. fold (λ b p. near_slot k b p.0 p.1) b (enumerate_from (i + 1) xs)) (cond-true _ _ _ p) ∙ rest best ∙ ap (λ l. fold (near k) best (map key l)) (sym (cond-true _ _ _ p))
      | inr p ↦ ap (λ b. fold (λ b p. near_slot k b p.0 p.1) b (enumerate_from (i + 1) xs)) (cond-false _ _ _ p) ∙ rest (near k best (key_of i x)) ∙ ap (λ l. fold (near k) best (map key l)) (sym (cond-false _ _ _ p))
    ]

-- the nearest of the slots after k is that of the record that is read next
pub nearest_is : (k : Key) (xs : List Slot) → fold (λ b p. near_slot k b p.0 p.1) None (enumerate_from 0 xs) ≡ first_key (after k (order xs))
unfolding order
nearest_is k xs = near-cells k 0 None xs ∙ nearest-from k 0 None xs [] (unfold All in tt) (unfold ordered after first_key in refl)

pub all_after : (P : Cell → Type 0) (k : Key) (l : List Cell) → All P l → All P (after k l)
unfolding All after
all_after P k [] a = tt
all_after P k (y ∷ ys) (p, a) = cond_both (before k (key y)) _ _ (All P) (λ _. (p, a)) (λ _. all_after P k ys a)

after_later : (c : Cell) (l : List Cell) → Later c l → after (key c) l ≡ l
unfolding All after
after_later c [] a = refl
after_later c (y ∷ ys) (p, a) = cond-true _ _ _ p

-- after a record comes the rest
pub after_step : (k : Key) (l : List Cell) (c : Cell) (rest : List Cell) → Rising l → after k l ≡ c ∷ rest → after (key c) l ≡ rest
unfolding All Rising after
after_step k [] c rest r e = let z : ◌≡◌ {A = ℕ} 0 1 = cc in absurd (omega arith)
after_step k (y ∷ ys) c rest (l, r) e =
    elim (cases_Bool (before k (key y))) [
      | inl p ↦
          let q : y ∷ ys ≡ c ∷ rest = sym (cond-true _ _ _ p) ∙ e in
          let head : y ≡ c = cc in
          let tail : ys ≡ rest = cc in
          ap (λ (x : Cell). after (key x) (y ∷ ys)) (sym head) ∙ cond-false _ _ _ (before_self (key y)) ∙ after_later y ys l ∙ tail
      | inr p ↦
          let q : after k ys ≡ c ∷ rest = sym (cond-false _ _ _ p) ∙ e in
          let m : All (λ z. before (key y) (key z) ≡ true) (c ∷ rest) = subst (All (λ z. before (key y) (key z) ≡ true)) q (all_after _ k ys l) in
          cond-false _ _ _ (before_asym (key y) (key c) m.0) ∙ after_step k ys c rest r q
    ]
