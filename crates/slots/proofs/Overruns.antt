-- No store makes an overrun, and a new record leaves the first where it is. Assumes nothing.
use Rattle.std.proofs.Common.{◌≡◌, ℕ, suc, ◌+◌, ◌<◌, ◌≤◌, Bool, false, cond, ◌&&◌, ◌||◌, ◌==◌, map, ◌++◌, ltb, List, [], ◌∷◌, length, get_or, set, Some, None, Option, sym, refl, ap, ◌∙◌, inl, inr, arith}
use Rattle.std.proofs.lemmas.Bool.Decides.{nat_tests}
use Rattle.std.specs.List.{list_any}
use Rattle.std.proofs.lemmas.List.{map-append}
use Rattle.std.proofs.lemmas.List.Folds.{list_any-append}
use Rattle.std.proofs.lemmas.Bool.{or_parts, or_from, cond-true, cond-false, cond_both, cases_Bool, ltb-true, ltb-false, le-ltb, ne_eqb}
use Rattle.journal.specs.Log.{All}
use Rattle.journal.specs.declared.places.Defect.{Defect}
use Rattle.journal.specs.declared.places.Defect.TheVariants.{Length, Age}
use Rattle.slots.specs.declared.slot.Slot.{Slot}
use Rattle.slots.specs.declared.slot.Key.{Key}
use Rattle.slots.specs.Order.{Cell, key, key_of, before, cells, inserted, order, highest, aged}
use Rattle.slots.specs.Value.{turn, defect, or_on, first_defect, over}
use Rattle.slots.specs.Stores.{swept}
use Rattle.slots.proofs.Keys.{latest}
use Rattle.slots.proofs.Sorting.{here, on, all_map, keys_are}
use Rattle.slots.proofs.Pruned.{keep, all_keep, stays, cells-swept, order-swept}
use Rattle.slots.proofs.Added.{taken, order-set, cells-aged, order-aged}

pub defect-more : (f : Cell → Option Defect) (s n : ℕ) (c : Cell) (cs : List Cell) →
    first_defect f s n (c ∷ cs) ≡ or_on c.slot.section (turn s n c) (f c) (first_defect f c.slot.section (suc (turn s n c)) cs)
unfolding first_defect
defect-more f s n c cs = refl

pub defect_none : (f : Cell → Option Defect) (s n : ℕ) → first_defect f s n [] ≡ None
unfolding first_defect
defect_none f s n = refl

-- a record without a defect is passed over
pub defect_pass : (f : Cell → Option Defect) (s n : ℕ) (c : Cell) (cs : List Cell) → f c ≡ None →
    first_defect f s n (c ∷ cs) ≡ first_defect f c.slot.section (suc (turn s n c)) cs
defect_pass f s n c cs e = defect-more f s n c cs ∙ ap (λ o. or_on c.slot.section (turn s n c) o (first_defect f c.slot.section (suc (turn s n c)) cs)) e

pub defect-found : (f : Cell → Option Defect) (s n : ℕ) (c : Cell) (cs : List Cell) (w : Defect) → f c ≡ Some w →
    first_defect f s n (c ∷ cs) ≡ Some (record { place = record { section = c.slot.section; number = turn s n c }; what = w })
defect-found f s n c cs w e = defect-more f s n c cs ∙ ap (λ o. or_on c.slot.section (turn s n c) o (first_defect f c.slot.section (suc (turn s n c)) cs)) e

defect-same : (f g : Cell → Option Defect) (s n : ℕ) (l : List Cell) → All (λ c. f c ≡ g c) l → first_defect f s n l ≡ first_defect g s n l
unfolding All first_defect
defect-same f g s n [] a = refl
defect-same f g s n (c ∷ cs) (e, a) =
    ap (λ o. or_on c.slot.section (turn s n c) o (first_defect f c.slot.section (suc (turn s n c)) cs)) e
    ∙ ap (or_on c.slot.section (turn s n c) (g c)) (defect-same f g c.slot.section (suc (turn s n c)) cs a)

defect-turn : (f : Cell → Option Defect) (s n t m : ℕ) (c : Cell) (cs : List Cell) → turn s n c ≡ turn t m c → first_defect f s n (c ∷ cs) ≡ first_defect f t m (c ∷ cs)
unfolding first_defect
defect-turn f s n t m c cs e = ap (λ k. or_on c.slot.section k (f c) (first_defect f c.slot.section (suc k) cs)) e

-- the youngest record, without a defect, makes no difference
defect-inserted : (f : Cell → Option Defect) (c : Cell) → f c ≡ None → (s n : ℕ) (l : List Cell) → s ≤ c.slot.section → All (λ y. y.slot.age < c.slot.age) l →
    first_defect f s n (inserted c l) ≡ first_defect f s n l
unfolding All
defect-inserted f c e s n [] h a = (let i : inserted c [] ≡ c ∷ [] = unfold inserted in refl in ap (first_defect f s n) i) ∙ defect_pass f s n c [] e ∙ defect_none f _ _ ∙ sym (defect_none f s n)
defect-inserted f c e s n (y ∷ ys) h (g, a) =
    let t = latest (key c) (key y) g in
    elim (cases_Bool (ltb c.slot.section y.slot.section)) [
      | inl p ↦
          let lt = ltb-true c.slot.section y.slot.section p in
          let zero' : (r k : ℕ) → r ≤ c.slot.section → turn r k y ≡ 0 = λ r k q. cond-false _ _ _ (ne_eqb r y.slot.section (λ z. omega (arith, lt, q, z))) in
          ap (first_defect f s n) (here c y ys (t ∙ p)) ∙ defect_pass f s n c (y ∷ ys) e
          ∙ defect-turn f c.slot.section (suc (turn s n c)) s n y ys (zero' c.slot.section (suc (turn s n c)) (omega arith) ∙ sym (zero' s n h))
      | inr p ↦
          ap (first_defect f s n) (on c y ys (t ∙ p)) ∙ defect-more f s n y (inserted c ys)
          ∙ ap (or_on y.slot.section (turn s n y) (f y)) (defect-inserted f c e y.slot.section (suc (turn s n y)) ys (ltb-false c.slot.section y.slot.section p) a)
          ∙ sym (defect-more f s n y ys)
    ]

-- whether a record is of the key's age and read before it
abbrev older : Key → Key → Bool
older k o = (o.age == k.age) && before o k

-- whether one of these records is
abbrev aged_in : Key → List Cell → Bool
aged_in k cs = list_any (older k) (map key cs)

aged_is : (k : Key) (xs : List Slot) → aged k xs ≡ aged_in k (cells 0 xs)
aged_is k xs = ap (list_any (older k)) (keys_are xs)

older_other : (k o : Key) → (o.age ≡ k.age → ⊥) → older k o ≡ false
older_other k o n = ap (λ b. b && before o k) (ne_eqb _ _ n)

older_self : (k : Key) → older k k ≡ false
older_self k = grind (arith, nat_tests)

none-aged : (k : Key) (cs : List Cell) → All (λ c. older k (key c) ≡ false) cs → aged_in k cs ≡ false
unfolding All
none-aged k [] a = refl
none-aged k (c ∷ cs) (p, a) = or_from _ _ p (none-aged k cs a)

aged-append : (k : Key) (p q : List Cell) → aged_in k (p ++ q) ≡ (aged_in k p || aged_in k q)
aged-append k p q = ap (list_any (older k)) (map-append key p q) ∙ list_any-append (older k) (map key p) (map key q)

-- a record that is not older in a free slot makes no difference
aged-set : (k : Key) (i : ℕ) (xs : List Slot) (y d : Slot) → i < length xs → (get_or xs i d).age ≡ 0 → (y.age ≡ 0 → ⊥) → older k (key_of i y) ≡ false → aged k (set xs i y) ≡ aged k xs
aged-set k i xs y d h e n p =
    let t = taken xs i y d h e n in
    aged_is k (set xs i y) ∙ ap (aged_in k) t.new ∙ aged-append k t.front (record { at = i; slot = y } ∷ t.rest)
    ∙ ap (λ b. aged_in k t.front || (b || aged_in k t.rest)) p
    ∙ sym (aged_is k xs ∙ ap (aged_in k) t.old ∙ aged-append k t.front t.rest)

aged-low : (k : Key) (xs : List Slot) → highest xs < k.age → aged k xs ≡ false
aged-low k xs h = aged_is k xs ∙ none-aged k (cells 0 xs) (all_map (λ c. c.slot.age < k.age) _ (λ c q. older_other k (key c) (λ e. omega (arith, q, e))) (cells 0 xs) (cells-aged xs k.age h))

-- a new record leaves the first overrun where it is
pub over-set : (xs : List Slot) (i : ℕ) (y d : Slot) → i < length xs → (get_or xs i d).age ≡ 0 → highest xs < y.age → y.len ≤ 1068 → over (set xs i y) ≡ over xs
unfolding over
over-set xs i y d h e g short =
    let c : Cell = record { at = i; slot = y } in
    let n : y.age ≡ 0 → ⊥ = (λ z. omega (arith, g, z)) in
    let sound : defect (set xs i y) c ≡ None =
    cond-false _ _ _ (le-ltb 1068 y.len short)
    ∙ cond-false _ _ _ (aged-set (key c) i xs y d h e n (older_self (key c)) ∙ aged-low (key c) xs g) in
    let same : All (λ b. defect (set xs i y) b ≡ defect xs b) (order xs) =
    all_map (λ b. b.slot.age < y.age) _
    (λ b lt. ap (λ t. cond (ltb 1068 b.slot.len) (Some Length) (cond t (Some Age) None))
    (aged-set (key b) i xs y d h e n (older_other (key b) (key c) (λ q. omega (arith, lt, q)))))
    (order xs) (order-aged xs y.age g) in
    ap (first_defect (defect (set xs i y)) 0 0) (order-set xs i y d h e n)
    ∙ defect-inserted (defect (set xs i y)) c sound 0 0 (order xs) (omega arith) (order-aged xs y.age g)
    ∙ defect-same (defect (set xs i y)) (defect xs) 0 0 (order xs) same

-- none where none has a defect
defect-all : (f : Cell → Option Defect) (s n : ℕ) (l : List Cell) → All (λ c. f c ≡ None) l → first_defect f s n l ≡ None
unfolding All
defect-all f s n [] a = defect_none f s n
defect-all f s n (c ∷ cs) (e, a) = defect_pass f s n c cs e ∙ defect-all f c.slot.section (suc (turn s n c)) cs a

defect_each : (f : Cell → Option Defect) (s n : ℕ) (l : List Cell) → first_defect f s n l ≡ None → All (λ c. f c ≡ None) l
unfolding All
defect_each f s n [] e = tt
defect_each f s n (c ∷ cs) e = go (f c) refl (defect_each f c.slot.section (suc (turn s n c)) cs)
  where
    go : (o : Option Defect) → f c ≡ o → (first_defect f c.slot.section (suc (turn s n c)) cs ≡ None → All (λ b. f b ≡ None) cs) → (f c ≡ None) × All (λ b. f b ≡ None) cs
    go None q ih = (q, ih (sym (defect_pass f s n c cs q) ∙ e))
    go (Some w) q ih = let z = defect-found f s n c cs w q in let bad : ◌≡◌ {A = ℕ} 0 1 = cc in absurd (omega arith)

aged-kept : (k : Key) (p : Cell → Bool) (cs : List Cell) → aged_in k cs ≡ false → aged_in k (keep p cs) ≡ false
unfolding keep
aged-kept k p [] e = refl
aged-kept k p (c ∷ cs) e =
    let parts = or_parts _ _ e in
    let rest = aged-kept k p cs parts.1 in
    cond_both (p c) _ _ (λ l. aged_in k l ≡ false) (λ _. or_from _ _ parts.0 rest) (λ _. rest)

aged-swept : (k : Key) (s j : ℕ) (xs : List Slot) → aged k xs ≡ false → aged k (swept s j xs) ≡ false
aged-swept k s j xs e =
    aged_is k (swept s j xs) ∙ ap (aged_in k) (cells-swept s 0 j xs) ∙ aged-kept k (stays s (0 + j)) (cells 0 xs) (sym (aged_is k xs) ∙ e)

-- to free slots makes no overrun
pub over-swept : (s j : ℕ) (xs : List Slot) → over xs ≡ None → over (swept s j xs) ≡ None
unfolding over
over-swept s j xs e =
    let each = defect_each (defect xs) 0 0 (order xs) e in
    let still : (c : Cell) → defect xs c ≡ None → defect (swept s j xs) c ≡ None = λ c q.
    elim (cases_Bool (ltb 1068 c.slot.len)) [
      | inl p ↦ let z : defect xs c ≡ Some Length = cond-true _ _ _ p in let bad : ◌≡◌ {A = ℕ} 0 1 = cc in absurd (omega arith)
      | inr p ↦
          elim (cases_Bool (aged (key c) xs)) [
            | inl t ↦ let z : defect xs c ≡ Some Age = cond-false _ _ _ p ∙ cond-true _ _ _ t in let bad : ◌≡◌ {A = ℕ} 0 1 = cc in absurd (omega arith)
            | inr t ↦ cond-false _ _ _ p ∙ cond-false _ _ _ (aged-swept (key c) s j xs t)
          ]
    ] in
    ap (first_defect (defect (swept s j xs)) 0 0) (order-swept s j xs)
    ∙ defect-all (defect (swept s j xs)) 0 0 (keep (stays s j) (order xs)) (all_map _ _ still (keep (stays s j) (order xs)) (all_keep _ (stays s j) (order xs) each))
