-- Records in reading order after some are freed. Assumes nothing.
use Rattle.std.proofs.Common.{◌≡◌, ℕ, zero, suc, ◌+◌, ◌<◌, ◌≤◌, Bool, true, false, cond, eqb, ltb, leb, List, [], ◌∷◌, map, sym, refl, ap, ◌∙◌, subst, inl, inr, arith}
use Rattle.std.proofs.lemmas.Bool.{cond-true, cond-false, cond_both, cases_Bool, ltb-true, ltb-false, eqb-true, eqb-false, le-ltb, lt-ltb, eq-eqb, ne_eqb, le-leb, lt-leb, true≢false}
use Rattle.journal.specs.Log.{Bytes, Section, all_of, from, All, Ascends}
use Rattle.journal.specs.Cuts.{SomeOf, Left, kept, AllLeft}
use Rattle.journal.proofs.Leaves.{left-ascends, left-some}
use Rattle.slots.specs.declared.slot.Slot.{Slot}
use Rattle.slots.specs.Order.{Cell, key, before, cells, inserted, ordered, order}
use Rattle.slots.specs.Value.{body, joined, grouped}
use Rattle.slots.specs.Stores.{free, freed, swept}
use Rattle.slots.proofs.Keys.{before-section, before-trans}
use Rattle.slots.proofs.Sorting.{Later, Rising, here, on, rising-inserted, all_map, all-ordered, cells-from, cells_apart, later_first}
use Rattle.slots.proofs.Groups.{lone, Head, joined_same, joined_other, joined_fresh, grouped-more, ascends-grouped, head-grouped}

unfoldable pub keep : (Cell → Bool) → List Cell → List Cell
keep p [] = []
keep p (c ∷ cs) = cond (p c) (c ∷ keep p cs) (keep p cs)

pub all_keep : (P : Cell → Type 0) (p : Cell → Bool) (l : List Cell) → All P l → All P (keep p l)
unfolding All keep
all_keep P p [] a = tt
all_keep P p (c ∷ cs) (h, a) = cond_both (p c) _ _ (All P) (λ _. (h, all_keep P p cs a)) (λ _. all_keep P p cs a)

keep_all : (p : Cell → Bool) (l : List Cell) → All (λ c. p c ≡ true) l → keep p l ≡ l
unfolding All keep
keep_all p [] a = refl
keep_all p (c ∷ cs) (h, a) = cond-true _ _ _ h ∙ ap (λ (l : List Cell). c ∷ l) (keep_all p cs a)

keep_yes : (p : Cell → Bool) (c : Cell) (cs : List Cell) → p c ≡ true → keep p (c ∷ cs) ≡ c ∷ keep p cs
unfolding keep
keep_yes p c cs h = cond-true _ _ _ h

keep_no : (p : Cell → Bool) (c : Cell) (cs : List Cell) → p c ≡ false → keep p (c ∷ cs) ≡ keep p cs
unfolding keep
keep_no p c cs h = cond-false _ _ _ h

-- to keep and to insert
kept-inserted : (p : Cell → Bool) (x : Cell) (l : List Cell) → p x ≡ true → Rising l → keep p (inserted x l) ≡ inserted x (keep p l)
unfolding Rising All
kept-inserted p x [] h r = unfold inserted keep in cond-true _ _ _ h
kept-inserted p x (y ∷ ys) h (l, r) =
    elim (cases_Bool (before (key x) (key y))) [
      | inl q ↦
          let late : Later x (y ∷ ys) = (q, all_map _ _ (λ z t. before-trans (key x) (key y) (key z) q t) ys l) in
          ap (keep p) (here x y ys q) ∙ keep_yes p x (y ∷ ys) h ∙ sym (later_first x (keep p (y ∷ ys)) (all_keep _ p (y ∷ ys) late))
      | inr q ↦
          elim (cases_Bool (p y)) [
            | inl t ↦
                ap (keep p) (on x y ys q) ∙ keep_yes p y (inserted x ys) t ∙ ap (λ (l : List Cell). y ∷ l) (kept-inserted p x ys h r)
                ∙ sym (ap (inserted x) (keep_yes p y ys t) ∙ on x y (keep p ys) q)
            | inr t ↦
                ap (keep p) (on x y ys q) ∙ keep_no p y (inserted x ys) t ∙ kept-inserted p x ys h r ∙ sym (ap (inserted x) (keep_no p y ys t))
          ]
    ]

lost_inserted : (p : Cell → Bool) (x : Cell) (l : List Cell) → p x ≡ false → keep p (inserted x l) ≡ keep p l
lost_inserted p x [] h = unfold inserted keep in cond-false _ _ _ h
lost_inserted p x (y ∷ ys) h =
    elim (cases_Bool (before (key x) (key y))) [
      | inl q ↦ ap (keep p) (here x y ys q) ∙ keep_no p x (y ∷ ys) h
      | inr q ↦
          elim (cases_Bool (p y)) [
            | inl t ↦ ap (keep p) (on x y ys q) ∙ keep_yes p y (inserted x ys) t ∙ ap (λ (l : List Cell). y ∷ l) (lost_inserted p x ys h) ∙ sym (keep_yes p y ys t)
            | inr t ↦ ap (keep p) (on x y ys q) ∙ keep_no p y (inserted x ys) t ∙ lost_inserted p x ys h ∙ sym (keep_no p y ys t)
          ]
    ]

ordered-more : (c : Cell) (cs : List Cell) → ordered (c ∷ cs) ≡ inserted c (ordered cs)
unfolding ordered
ordered-more c cs = refl

pub cells_free : (i : ℕ) (x : Slot) (xs : List Slot) → x.age ≡ 0 → cells i (x ∷ xs) ≡ cells (suc i) xs
unfolding cells
cells_free i x xs e = cond-true _ _ _ (eq-eqb _ _ e)

pub cells_live : (i : ℕ) (x : Slot) (xs : List Slot) → (x.age ≡ 0 → ⊥) → cells i (x ∷ xs) ≡ record { at = i; slot = x } ∷ cells (suc i) xs
unfolding cells
cells_live i x xs n = cond-false _ _ _ (ne_eqb _ _ n)

-- to keep and to order
keep_ordered : (p : Cell → Bool) (i : ℕ) (xs : List Slot) → Rising (ordered (cells i xs)) × (keep p (ordered (cells i xs)) ≡ ordered (keep p (cells i xs)))
keep_ordered p i [] = unfold cells ordered keep Rising in (tt, refl)
keep_ordered p i (x ∷ xs) =
    let c : Cell = record { at = i; slot = x } in
    let C = cells (suc i) xs in
    let ih = keep_ordered p (suc i) xs in
    elim (cases_Bool (eqb x.age 0)) [
      | inl e ↦ subst (λ (l : List Cell). Rising (ordered l) × (keep p (ordered l) ≡ ordered (keep p l))) (sym (cells_free i x xs (eqb-true _ _ e))) ih
      | inr e ↦
          let r : Rising (inserted c (ordered C)) = rising-inserted c (ordered C) (all-ordered _ C (cells_apart i x xs)) ih.0 in
          let k : keep p (ordered (c ∷ C)) ≡ ordered (keep p (c ∷ C)) =
          elim (cases_Bool (p c)) [
            | inl t ↦
                ap (keep p) (ordered-more c C) ∙ kept-inserted p c (ordered C) t ih.0 ∙ ap (inserted c) ih.1 ∙ sym (ordered-more c (keep p C)) ∙ ap ordered (sym (keep_yes p c C t))
            | inr t ↦
                ap (keep p) (ordered-more c C) ∙ lost_inserted p c (ordered C) t ∙ ih.1 ∙ ap ordered (sym (keep_no p c C t))
          ] in
          subst (λ (l : List Cell). Rising (ordered l) × (keep p (ordered l) ≡ ordered (keep p l))) (sym (cells_live i x xs (eqb-false _ _ e)))
          (subst Rising (sym (ordered-more c C)) r, k)
    ]

-- of section s or above
abbrev pub above : ℕ → Cell → Bool
above s c = cond (ltb c.slot.section s) false true

-- of section s or above, or not yet gone through
abbrev pub stays : ℕ → ℕ → Cell → Bool
stays s m c = cond (ltb c.slot.section s) (leb m c.at) true

-- a pruned list holds the cells that stay
cells-freed : (s i : ℕ) (xs : List Slot) → cells i (map (freed s) xs) ≡ keep (above s) (cells i xs)
cells-freed s i [] = unfold cells keep in refl
cells-freed s i (x ∷ xs) =
    let c : Cell = record { at = i; slot = x } in
    let ys = map (freed s) xs in
    let ih = cells-freed s (suc i) xs in
    elim (cases_Bool (eqb x.age 0)) [
      | inl e ↦
          let z = eqb-true x.age 0 e in
          let f : freed s x ≡ x = cond-false _ _ _ (cond-true _ _ _ e) in
          ap (λ (y : Slot). cells i (y ∷ ys)) f ∙ cells_free i x ys z ∙ ih ∙ ap (keep (above s)) (sym (cells_free i x xs z))
      | inr e ↦
          let n = eqb-false x.age 0 e in
          elim (cases_Bool (ltb x.section s)) [
            | inl t ↦
                let f : freed s x ≡ free = cond-true _ _ _ (cond-false _ _ _ e ∙ t) in
                ap (λ (y : Slot). cells i (y ∷ ys)) f ∙ cells_free i free ys refl ∙ ih ∙ sym (ap (keep (above s)) (cells_live i x xs n) ∙ keep_no (above s) c (cells (suc i) xs) (cond-true _ _ _ t))
            | inr t ↦
                let f : freed s x ≡ x = cond-false _ _ _ (cond-false _ _ _ e ∙ t) in
                ap (λ (y : Slot). cells i (y ∷ ys)) f ∙ cells_live i x ys n ∙ ap (λ (l : List Cell). c ∷ l) ih ∙ sym (ap (keep (above s)) (cells_live i x xs n) ∙ keep_yes (above s) c (cells (suc i) xs) (cond-false _ _ _ t))
          ]
    ]

-- so does one that is gone through in part
pub cells-swept : (s i j : ℕ) (xs : List Slot) → cells i (swept s j xs) ≡ keep (stays s (i + j)) (cells i xs)
cells-swept s i zero xs =
    let w : swept s 0 xs ≡ xs = unfold swept in refl in
    ap (cells i) w ∙ sym (keep_all (stays s (i + 0)) (cells i xs) (all_map (λ c. i ≤ c.at) _ (λ c h. cond_both (ltb c.slot.section s) (leb (i + 0) c.at) true (λ b. b ≡ true) (λ _. le-leb _ _ (omega (arith, h))) (λ _. refl)) (cells i xs) (cells-from i xs)))
cells-swept s i (suc j) [] = unfold swept cells keep in refl
cells-swept s i (suc j) (x ∷ xs) =
    let c : Cell = record { at = i; slot = x } in
    let ys = swept s j xs in
    let m : suc i + j ≡ i + suc j = omega arith in
    let ih : cells (suc i) ys ≡ keep (stays s (i + suc j)) (cells (suc i) xs) = cells-swept s (suc i) j xs ∙ ap (λ n. keep (stays s n) (cells (suc i) xs)) m in
    let w : swept s (suc j) (x ∷ xs) ≡ freed s x ∷ ys = unfold swept in refl in
    elim (cases_Bool (eqb x.age 0)) [
      | inl e ↦
          let z = eqb-true x.age 0 e in
          let f : freed s x ≡ x = cond-false _ _ _ (cond-true _ _ _ e) in
          ap (cells i) w ∙ ap (λ (y : Slot). cells i (y ∷ ys)) f ∙ cells_free i x ys z ∙ ih ∙ ap (keep (stays s (i + suc j))) (sym (cells_free i x xs z))
      | inr e ↦
          let n = eqb-false x.age 0 e in
          elim (cases_Bool (ltb x.section s)) [
            | inl t ↦
                let f : freed s x ≡ free = cond-true _ _ _ (cond-false _ _ _ e ∙ t) in
                let gone : stays s (i + suc j) c ≡ false = cond-true _ _ _ t ∙ lt-leb (i + suc j) i (omega arith) in
                ap (cells i) w ∙ ap (λ (y : Slot). cells i (y ∷ ys)) f ∙ cells_free i free ys refl ∙ ih
                ∙ sym (ap (keep (stays s (i + suc j))) (cells_live i x xs n) ∙ keep_no (stays s (i + suc j)) c (cells (suc i) xs) gone)
            | inr t ↦
                let f : freed s x ≡ x = cond-false _ _ _ (cond-false _ _ _ e ∙ t) in
                ap (cells i) w ∙ ap (λ (y : Slot). cells i (y ∷ ys)) f ∙ cells_live i x ys n ∙ ap (λ (l : List Cell). c ∷ l) ih
                ∙ sym (ap (keep (stays s (i + suc j))) (cells_live i x xs n) ∙ keep_yes (stays s (i + suc j)) c (cells (suc i) xs) (cond-false _ _ _ t))
          ]
    ]

pub order-freed : (s : ℕ) (xs : List Slot) → order (map (freed s) xs) ≡ keep (above s) (order xs)
unfolding order
order-freed s xs = ap ordered (cells-freed s 0 xs) ∙ sym (keep_ordered (above s) 0 xs).1

pub order-swept : (s j : ℕ) (xs : List Slot) → order (swept s j xs) ≡ keep (stays s j) (order xs)
unfolding order
order-swept s j xs =
    let z : 0 + j ≡ j = omega arith in
    ap ordered (cells-swept s 0 j xs ∙ ap (λ n. keep (stays s n) (cells 0 xs)) z) ∙ sym (keep_ordered (stays s j) 0 xs).1

from-below : (s : ℕ) (g : Section) (gs : List Section) → g.number < s → from s (g ∷ gs) ≡ from s gs
unfolding from
from-below s g gs h = cond-true _ _ _ (lt-ltb _ _ h)

from-above : (s : ℕ) (g : Section) (gs : List Section) → s ≤ g.number → from s (g ∷ gs) ≡ g ∷ from s gs
unfolding from
from-above s g gs h = cond-false _ _ _ (le-ltb g.number s h)

from-dropped : (s : ℕ) (x : Slot) (l : List Section) → x.section < s → from s l ≡ from s (joined x l)
from-dropped s x [] h = unfold from joined in sym (cond-true _ _ _ (lt-ltb _ _ h))
from-dropped s x (g ∷ gs) h =
    elim (cases_Bool (eqb x.section g.number)) [
      | inl p ↦
          let lt : g.number < s = omega (arith, h, eqb-true x.section g.number p) in
          from-below s g gs lt ∙ sym (ap (from s) (joined_same x g gs p) ∙ from-below s _ gs lt)
      | inr p ↦ sym (ap (from s) (joined_other x g gs p) ∙ from-below s (lone x.section (body x)) (g ∷ gs) h)
    ]

from-joined : (s : ℕ) (x : Slot) (l : List Section) → s ≤ x.section → Head x.section l → joined x (from s l) ≡ from s (joined x l)
from-joined s x [] h q = unfold from joined in sym (cond-false _ _ _ (le-ltb x.section s h))
from-joined s x (g ∷ gs) h q =
    let ge : s ≤ g.number = omega (arith, h, q) in
    elim (cases_Bool (eqb x.section g.number)) [
      | inl p ↦ ap (joined x) (from-above s g gs ge) ∙ joined_same x g (from s gs) p ∙ sym (ap (from s) (joined_same x g gs p) ∙ from-above s _ gs ge)
      | inr p ↦
          ap (joined x) (from-above s g gs ge) ∙ joined_other x g (from s gs) p ∙ ap (λ (l : List Section). lone x.section (body x) ∷ l) (sym (from-above s g gs ge))
          ∙ sym (ap (from s) (joined_other x g gs p) ∙ from-above s (lone x.section (body x)) (g ∷ gs) h)
    ]

-- the cells of section s or above are the sections from s on
pub grouped-from : (s : ℕ) (l : List Cell) → Rising l → grouped (keep (above s) l) ≡ from s (grouped l)
unfolding Rising
grouped-from s [] r = unfold grouped keep from in refl
grouped-from s (c ∷ cs) (l, r) =
    elim (cases_Bool (ltb c.slot.section s)) [
      | inl t ↦
          ap grouped (keep_no (above s) c cs (cond-true _ _ _ t)) ∙ grouped-from s cs r ∙ from-dropped s c.slot (grouped cs) (ltb-true _ _ t) ∙ ap (from s) (sym (grouped-more c cs))
      | inr t ↦
          ap grouped (keep_yes (above s) c cs (cond-false _ _ _ t)) ∙ grouped-more c (keep (above s) cs) ∙ ap (joined c.slot) (grouped-from s cs r)
          ∙ from-joined s c.slot (grouped cs) (ltb-false _ _ t) (head-grouped c cs l) ∙ ap (from s) (sym (grouped-more c cs))
    ]

head-ascends : (n : ℕ) (l : List Section) → Ascends n l → Head n l
unfolding Ascends
head-ascends n [] a = tt
head-ascends n (g ∷ gs) (h, a) = h

-- a record that stays, in front of what is left of its section or of later ones
left_stayed : (s : ℕ) (x : Slot) (l m : List Section) → Ascends x.section l → AllLeft s l m → AllLeft s (joined x l) (joined x m)
unfolding AllLeft Left Ascends
left_stayed s x [] m a e = subst (λ k. AllLeft s (joined x []) (joined x k)) (sym e) (unfold joined kept in (body x ∷ [], inl (0, refl), ([], refl, refl)))
left_stayed s x (g ∷ gs) m (h, a) (ys, q, (rest, b, e)) =
    elim (cases_Bool (eqb x.section g.number)) [
      | inl p ↦
          let n : x.section ≡ g.number = eqb-true x.section g.number p in
          let fresh : Head (suc x.section) rest = subst (λ k. Head (suc k) rest) (sym n) (head-ascends (suc g.number) rest (left-ascends s (suc g.number) gs rest a b)) in
          subst (λ k. AllLeft s k (joined x m)) (sym (joined_same x g gs p))
          (body x ∷ ys, more q, (rest, b, ap (joined x) e ∙ onto ys n p fresh))
      | inr p ↦
          let asc : Ascends (suc x.section) (g ∷ gs) = (omega (arith, h, eqb-false x.section g.number p), a) in
          let fresh = head-ascends (suc x.section) m (left-ascends s (suc x.section) (g ∷ gs) m asc (ys, q, (rest, b, e))) in
          subst (λ k. AllLeft s k (joined x m)) (sym (joined_other x g gs p))
          (body x ∷ [], inl (0, refl), (m, (ys, q, (rest, b, e)), joined_fresh x m fresh ∙ (unfold kept in refl)))
    ]
  where
    more : Left s g ys → Left s (record { number = g.number; durable = body x ∷ g.durable; loose = g.loose }) (body x ∷ ys)
    more (inl (k, f)) = inl (k, ap (λ (l : List Bytes). body x ∷ l) f)
    more (inr (t, o)) = inr (t, unfold SomeOf all_of in inr (ys, refl, o))

    onto : (zs : List Bytes) → x.section ≡ g.number → eqb x.section g.number ≡ true → Head (suc x.section) rest → joined x (kept g.number zs rest) ≡ kept g.number (body x ∷ zs) rest
    onto [] n p f = unfold kept in (joined_fresh x rest f ∙ ap (λ k. lone k (body x) ∷ rest) n)
    onto (z ∷ zs) n p f = unfold kept in joined_same x (record { number = g.number; durable = z ∷ zs; loose = [] }) rest p

-- a record that went, of a section that was being pruned
left_gone : (s : ℕ) (x : Slot) (l m : List Section) → x.section < s → AllLeft s l m → AllLeft s (joined x l) m
unfolding AllLeft Left
left_gone s x [] m h e = unfold joined kept SomeOf all_of in ([], inr (h, inl refl), ([], refl, e))
left_gone s x (g ∷ gs) m h (ys, q, (rest, b, e)) =
    elim (cases_Bool (eqb x.section g.number)) [
      | inl p ↦
          subst (λ k. AllLeft s k m) (sym (joined_same x g gs p))
          (ys, inr (omega (arith, h, eqb-true x.section g.number p), unfold SomeOf all_of in inl (left-some s g ys q)), (rest, b, e))
      | inr p ↦
          subst (λ k. AllLeft s k m) (sym (joined_other x g gs p))
          ([], inr (h, unfold SomeOf all_of in inl refl), (m, (ys, q, (rest, b, e)), unfold kept in refl))
    ]

-- what is left where only records below s went
pub grouped-left : (s : ℕ) (p : Cell → Bool) → ((c : Cell) → s ≤ c.slot.section → p c ≡ true) → (l : List Cell) → Rising l → AllLeft s (grouped l) (grouped (keep p l))
unfolding Rising
grouped-left s p f [] r = unfold grouped keep AllLeft in refl
grouped-left s p f (c ∷ cs) (l, r) =
    let ih = grouped-left s p f cs r in
    elim (cases_Bool (p c)) [
      | inl t ↦
          let asc : Ascends c.slot.section (grouped cs) = ascends-grouped c.slot.section cs r (all_map _ _ (λ d q. before-section (key c) (key d) q) cs l) in
          subst (λ m. AllLeft s (grouped (c ∷ cs)) m) (sym (ap grouped (keep_yes p c cs t) ∙ grouped-more c (keep p cs)))
          (subst (λ k. AllLeft s k (joined c.slot (grouped (keep p cs)))) (sym (grouped-more c cs)) (left_stayed s c.slot (grouped cs) (grouped (keep p cs)) asc ih))
      | inr t ↦
          let low : c.slot.section < s = below (ltb c.slot.section s) refl t in
          subst (λ m. AllLeft s (grouped (c ∷ cs)) m) (sym (ap grouped (keep_no p c cs t)))
          (subst (λ k. AllLeft s k (grouped (keep p cs))) (sym (grouped-more c cs)) (left_gone s c.slot (grouped cs) (grouped (keep p cs)) low ih))
    ]
  where
    below : (b : Bool) → ltb c.slot.section s ≡ b → p c ≡ false → c.slot.section < s
    below true e t = ltb-true _ _ e
    below false e t = absurd (true≢false (sym (f c (ltb-false _ _ e)) ∙ t))
