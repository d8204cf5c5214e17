-- Records with their numbers, and the one that is read next. Assumes nothing.
use Rattle.std.proofs.Common.{◌≡◌, ℕ, suc, ◌<◌, ◌≤◌, Bool, true, false, cond, eqb, ltb, ◌⊎◌, List, [], ◌∷◌, ◌++◌, sym, refl, ap, ◌∙◌, inl, inr, arith}
use Rattle.std.proofs.lemmas.Bool.{cond-true, cond-false, cases_Bool, ltb-true, ltb-false, eqb-true, eqb-false, le-ltb, lt-ltb, ne_eqb}
use Rattle.journal.specs.Log.{All, Section, Placed, all_of, numbered, reading}
use Rattle.journal.specs.Places.{past, past_place}
use Rattle.slots.specs.declared.slot.Slot.{Slot}
use Rattle.slots.specs.Order.{Cell, key, before, gate, after}
use Rattle.slots.specs.Value.{body, joined, grouped, turn, listed}
use Rattle.slots.proofs.Groups.{joined_same, joined_other, grouped-more}

-- reading, where the first section goes on from n if it is s
abbrev reading_on : ℕ → ℕ → List Section → List Placed
reading_on s n [] = []
reading_on s n (g ∷ gs) = numbered g.number (cond (eqb s g.number) n 0) (all_of g) ++ reading gs

reading-joined : (s n : ℕ) (x : Slot) (l : List Section) →
    reading_on s n (joined x l) ≡ record { section = x.section; number = cond (eqb s x.section) n 0; bytes = body x } ∷ reading_on x.section (suc (cond (eqb s x.section) n 0)) l
reading-joined s n x [] = unfold joined numbered all_of reading in refl
reading-joined s n x (g ∷ gs) =
    elim (cases_Bool (eqb x.section g.number)) [
      | inl p ↦
          let e : x.section ≡ g.number = eqb-true x.section g.number p in
          let m = cond (eqb s x.section) n 0 in
          ap (reading_on s n) (joined_same x g gs p) ∙ same g.number (sym e)
          ∙ ap (λ k. record { section = x.section; number = m; bytes = body x } ∷ numbered g.number k (all_of g) ++ reading gs) (sym (cond-true (eqb x.section g.number) (suc m) 0 p))
      | inr p ↦
          let m = cond (eqb s x.section) n 0 in
          ap (reading_on s n) (joined_other x g gs p) ∙ other m
          ∙ ap (λ k. record { section = x.section; number = m; bytes = body x } ∷ numbered g.number k (all_of g) ++ reading gs) (sym (cond-false (eqb x.section g.number) (suc m) 0 p))
    ]
  where
    begins : (k m : ℕ) →
        numbered k m (all_of (record { number = k; durable = body x ∷ g.durable; loose = g.loose })) ++ reading gs
        ≡ record { section = k; number = m; bytes = body x } ∷ numbered k (suc m) (all_of g) ++ reading gs
    begins k m = unfold numbered all_of in refl

    same : (k : ℕ) → k ≡ x.section →
        numbered k (cond (eqb s k) n 0) (all_of (record { number = k; durable = body x ∷ g.durable; loose = g.loose })) ++ reading gs
        ≡ record { section = x.section; number = cond (eqb s x.section) n 0; bytes = body x } ∷ numbered k (suc (cond (eqb s x.section) n 0)) (all_of g) ++ reading gs
    same k e = begins k (cond (eqb s k) n 0) ∙ ap (λ j. record { section = j; number = cond (eqb s j) n 0; bytes = body x } ∷ numbered k (suc (cond (eqb s j) n 0)) (all_of g) ++ reading gs) e

    other : (m : ℕ) →
        numbered x.section m (all_of (record { number = x.section; durable = body x ∷ []; loose = [] })) ++ reading (g ∷ gs)
        ≡ record { section = x.section; number = m; bytes = body x } ∷ numbered g.number 0 (all_of g) ++ reading gs
    other m = unfold numbered all_of reading in refl

listed_on : (s n : ℕ) (l : List Cell) → listed s n l ≡ reading_on s n (grouped l)
listed_on s n [] = unfold listed grouped in refl
listed_on s n (c ∷ cs) =
    let m = turn s n c in
    let e : listed s n (c ∷ cs) ≡ record { section = c.slot.section; number = m; bytes = body c.slot } ∷ listed c.slot.section (suc m) cs = unfold listed in refl in
    e ∙ ap (λ (l : List Placed). record { section = c.slot.section; number = m; bytes = body c.slot } ∷ l) (listed_on c.slot.section (suc m) cs)
    ∙ sym (ap (reading_on s n) (grouped-more c cs) ∙ reading-joined s n c.slot (grouped cs))

both_zero : (b : Bool) → cond {A = ℕ} b 0 0 ≡ 0
both_zero true = refl
both_zero false = refl

reading-more : (g : Section) (gs : List Section) → reading (g ∷ gs) ≡ numbered g.number 0 (all_of g) ++ reading gs
unfolding reading
reading-more g gs = refl

-- the records of the value, with their numbers
pub reading-grouped : (l : List Cell) → reading (grouped l) ≡ listed 0 0 l
reading-grouped l = go (grouped l) ∙ sym (listed_on 0 0 l)
  where
    go : (gs : List Section) → reading gs ≡ reading_on 0 0 gs
    go [] = unfold reading in refl
    go (g ∷ gs) = reading-more g gs ∙ ap (λ (k : ℕ). numbered g.number k (all_of g) ++ reading gs) (sym (both_zero (eqb 0 g.number)))

-- a record of a lower section is not past a place
past-lower : (s n : ℕ) (x : Placed) → x.section < s → past s n x ≡ false
unfolding past
past-lower s n x h = cond-false _ _ _ (le-ltb s x.section (omega (arith, h))) ∙ cond-false _ _ _ (ne_eqb s x.section (λ e. omega (arith, h, e)))

skip : (s n : ℕ) (x : Placed) (xs : List Placed) → past s n x ≡ false → past_place s n (x ∷ xs) ≡ past_place s n xs
unfolding past_place
skip s n x xs h = cond-false _ _ _ h

listed_more : (s n : ℕ) (c : Cell) (cs : List Cell) → listed s n (c ∷ cs) ≡ record { section = c.slot.section; number = turn s n c; bytes = body c.slot } ∷ listed c.slot.section (suc (turn s n c)) cs
unfolding listed
listed_more s n c cs = refl

listed-turn : (s n t m : ℕ) (c : Cell) (cs : List Cell) → turn s n c ≡ turn t m c → listed s n (c ∷ cs) ≡ listed t m (c ∷ cs)
unfolding listed
listed-turn s n t m c cs e = ap (λ k. record { section = c.slot.section; number = k; bytes = body c.slot } ∷ listed c.slot.section (suc k) cs) e

turn_other : (s n : ℕ) (c : Cell) → (s ≡ c.slot.section → ⊥) → turn s n c ≡ 0
turn_other s n c h = cond-false _ _ _ (ne_eqb _ _ h)

turn_zero : (s : ℕ) (c : Cell) → turn s 0 c ≡ 0
turn_zero s c = both_zero (eqb s c.slot.section)

pub gate_open : (s : ℕ) (c : Cell) → (c.slot.age ≡ 0 → ⊥) → s ≤ c.slot.section → before (gate s) (key c) ≡ true
gate_open s c n h =
    elim (cases_Bool (eqb s c.slot.section)) [
      | inl p ↦ cond-true _ _ _ p ∙ cond-false _ _ _ (ne_eqb 0 c.slot.age (λ e. n (sym e))) ∙ lt-ltb 0 c.slot.age (positive c.slot.age n)
      | inr p ↦ cond-false _ _ _ p ∙ lt-ltb s c.slot.section (omega (arith, h, eqb-false s c.slot.section p))
    ]
  where
    positive : (a : ℕ) → (a ≡ 0 → ⊥) → 0 < a
    positive a q = omega (arith, q)

gate-shut : (s : ℕ) (c : Cell) → c.slot.section < s → before (gate s) (key c) ≡ false
gate-shut s c h = cond-false _ _ _ (ne_eqb s c.slot.section (λ e. omega (arith, h, e))) ∙ le-ltb s c.slot.section (omega (arith, h))

-- what stands past a place is past it among the records of its section and later ones
pub past-gate : (s n a b : ℕ) (l : List Cell) → All (λ c. c.slot.age ≡ 0 → ⊥) l → (b ≡ 0) ⊎ (a < s) →
    past_place s n (listed a b l) ≡ past_place s n (listed s 0 (after (gate s) l))
unfolding All
past-gate s n a b [] live h = unfold after listed in refl
past-gate s n a b (c ∷ cs) (v, live) h =
    elim (cases_Bool (ltb c.slot.section s)) [
      | inl p ↦
          let low = ltb-true c.slot.section s p in
          let m = turn a b c in
          let e : after (gate s) (c ∷ cs) ≡ after (gate s) cs = unfold after in cond-false _ _ _ (gate-shut s c low) in
          ap (past_place s n) (listed_more a b c cs) ∙ skip s n _ (listed c.slot.section (suc m) cs) (past-lower s n (record { section = c.slot.section; number = m; bytes = body c.slot }) low)
          ∙ past-gate s n c.slot.section (suc m) cs live (inr low) ∙ ap (λ (l : List Cell). past_place s n (listed s 0 l)) (sym e)
      | inr p ↦
          let high = ltb-false c.slot.section s p in
          let e : after (gate s) (c ∷ cs) ≡ c ∷ cs = unfold after in cond-true _ _ _ (gate_open s c v high) in
          ap (past_place s n) (listed-turn a b s 0 c cs (reset h high ∙ sym (turn_zero s c))) ∙ ap (λ (l : List Cell). past_place s n (listed s 0 l)) (sym e)
    ]
  where
    reset : (b ≡ 0) ⊎ (a < s) → s ≤ c.slot.section → turn a b c ≡ 0
    reset (inl z) q = ap (λ k. turn a k c) z ∙ turn_zero a c
    reset (inr z) q = turn_other a b c (λ e. omega (arith, z, q, e))
