-- Records in reading order as sections: what is true of them, and one record more. Assumes nothing.
use Rattle.std.proofs.Common.{◌≡◌, ℕ, suc, ◌<◌, ◌≤◌, min, true, false, cond, eqb, ltb, List, [], ◌∷◌, ◌++◌, length, sym, refl, ap, ◌∙◌, subst, inl, inr, append-nil, arith, length-append, length-take}
use Rattle.std.proofs.lemmas.Bool.{cond-true, cond-false, cond_both, cases_Bool, ltb-true, ltb-false, eqb-true, eqb-false, le-ltb, lt-ltb, eq-eqb, ne_eqb}
use Rattle.journal.specs.Log.{Bytes, Section, all_of, added, All, Sound, Ascends, Formed, AllFirmer}
use Rattle.journal.proofs.Firm.{both_cond, section_refl, firmer_refl}
use Rattle.journal.proofs.Lost.{Solid}
use Rattle.slots.specs.declared.slot.Slot.{Slot}
use Rattle.slots.specs.Order.{Cell, key, inserted, order}
use Rattle.slots.specs.Value.{body, joined, grouped, log_of}
use Rattle.slots.proofs.Keys.{before-section, latest}
use Rattle.slots.proofs.Sorting.{Later, Rising, here, on, rising, all_map}

-- a section of one record
abbrev pub lone : ℕ → Bytes → Section
lone s b = record { number = s; durable = b ∷ []; loose = [] }

pub joined_same : (x : Slot) (y : Section) (ys : List Section) → eqb x.section y.number ≡ true →
    joined x (y ∷ ys) ≡ record { number = y.number; durable = body x ∷ y.durable; loose = y.loose } ∷ ys
unfolding joined
joined_same x y ys p = cond-true _ _ _ p

pub joined_other : (x : Slot) (y : Section) (ys : List Section) → eqb x.section y.number ≡ false → joined x (y ∷ ys) ≡ lone x.section (body x) ∷ y ∷ ys
unfolding joined
joined_other x y ys p = cond-false _ _ _ p

-- the first section's number is n or above
abbrev pub Head : ℕ → List Section → Type 0
Head n [] = Unit {0}
Head n (g ∷ gs) = n ≤ g.number

pub head-joined : (n : ℕ) (x : Slot) (l : List Section) → n ≤ x.section → Head n (joined x l)
unfolding joined
head-joined n x [] h = h
head-joined n x (g ∷ gs) h = cond_both (eqb x.section g.number) _ _ (Head n) (λ p. omega (arith, h, eqb-true x.section g.number p)) (λ _. h)

pub joined_fresh : (x : Slot) (l : List Section) → Head (suc x.section) l → joined x l ≡ lone x.section (body x) ∷ l
unfolding joined
joined_fresh x [] h = refl
joined_fresh x (g ∷ gs) h = joined_other x g gs (ne_eqb _ _ (λ e. omega (arith, h, e)))

-- all is durable
solid_joined : (x : Slot) (l : List Section) → Solid l → Solid (joined x l)
unfolding joined All
solid_joined x [] s = (refl, tt)
solid_joined x (g ∷ gs) (e, s) = cond_both (eqb x.section g.number) _ _ Solid (λ _. (e, s)) (λ _. (refl, (e, s)))

pub solid_grouped : (cs : List Cell) → Solid (grouped cs)
unfolding grouped All
solid_grouped [] = tt
solid_grouped (c ∷ cs) = solid_joined c.slot (grouped cs) (solid_grouped cs)

short-body : (x : Slot) → length (body x) ≤ 1068
unfolding body
short-body x = omega (arith, length-take (min x.len 1068) x.bytes)

sound-joined : (x : Slot) (l : List Section) → All Sound l → All Sound (joined x l)
unfolding joined All all_of
sound-joined x [] s = (record { some = omega arith; short = (short-body x, tt) }, tt)
sound-joined x (g ∷ gs) (e, s) =
    cond_both (eqb x.section g.number) _ _ (All Sound)
    (λ _. (record { some = omega arith; short = (short-body x, e.short) }, s))
    (λ _. (record { some = omega arith; short = (short-body x, tt) }, (e, s)))

pub sound-grouped : (cs : List Cell) → All Sound (grouped cs)
unfolding grouped All
sound-grouped [] = tt
sound-grouped (c ∷ cs) = sound-joined c.slot (grouped cs) (sound-grouped cs)

ascends-joined : (n : ℕ) (x : Slot) (l : List Section) → n ≤ x.section → Ascends x.section l → Ascends n (joined x l)
unfolding joined Ascends
ascends-joined n x [] h a = (h, tt)
ascends-joined n x (g ∷ gs) h (b, a) =
    cond_both (eqb x.section g.number) _ _ (Ascends n)
    (λ _. (omega (arith, h, b), a))
    (λ p. (h, (omega (arith, b, eqb-false x.section g.number p), a)))

pub ascends-grouped : (n : ℕ) (cs : List Cell) → Rising cs → All (λ c. n ≤ c.slot.section) cs → Ascends n (grouped cs)
unfolding grouped Ascends Rising All
ascends-grouped n [] r a = tt
ascends-grouped n (c ∷ cs) (l, r) (h, a) =
    ascends-joined n c.slot (grouped cs) h
    (ascends-grouped c.slot.section cs r (all_map _ _ (λ d q. before-section (key c) (key d) q) cs l))

all_above : (cs : List Cell) → All (λ c. 0 ≤ c.slot.section) cs
unfolding All
all_above [] = tt
all_above (c ∷ cs) = (omega arith, all_above cs)

-- what a list of slots is worth is a journal's value
pub formed_log : (bound : ℕ) (xs : List Slot) → Formed (log_of bound xs)
formed_log bound xs = record { ascends = ascends-grouped 0 (order xs) (rising xs) (all_above (order xs)); sound = sound-grouped (order xs) }

pub head-grouped : (c : Cell) (cs : List Cell) → Later c cs → Head c.slot.section (grouped cs)
unfolding grouped All
head-grouped c [] l = tt
head-grouped c (d ∷ ds) (p, l) = head-joined c.slot.section d.slot (grouped ds) (before-section (key c) (key d) p)

-- one record more at the end of section s, durable at once
unfoldable pub stored : ℕ → Bytes → List Section → List Section
stored s b [] = lone s b ∷ []
stored s b (x ∷ xs) =
    cond (ltb s x.number) (lone s b ∷ x ∷ xs)
    (cond (eqb s x.number) (record { number = x.number; durable = x.durable ++ (b ∷ []); loose = x.loose } ∷ xs) (x ∷ stored s b xs))

pub firmer_stored : (s : ℕ) (b : Bytes) (xs : List Section) → Solid xs → AllFirmer (added s b xs) (stored s b xs)
unfolding AllFirmer added stored All all_of
firmer_stored s b [] p = (record { number = refl; same = refl; longer = omega arith }, tt)
firmer_stored s b (x ∷ xs) (e, p) =
    both_cond AllFirmer (ltb s x.number) (ltb s x.number) _ _ _ _ refl
    (λ _. (record { number = refl; same = refl; longer = omega arith }, (section_refl x, (firmer_refl (record { bound = 0; sections = xs })).sections)))
    (λ _. both_cond AllFirmer (eqb s x.number) (eqb s x.number) _ _ _ _ refl
    (λ _. (
      record {
        number = refl;
        same = ap (λ (l : List Bytes). (x.durable ++ (b ∷ [])) ++ l) e ∙ append-nil (x.durable ++ (b ∷ [])) ∙ ap (λ (l : List Bytes). x.durable ++ (l ++ (b ∷ []))) (sym e);
        longer = omega (arith, length-append x.durable (b ∷ []));
      },
      (firmer_refl (record { bound = 0; sections = xs })).sections,
    ))
    (λ _. (section_refl x, firmer_stored s b xs p)))

stored_none : (s : ℕ) (b : Bytes) → stored s b [] ≡ lone s b ∷ []
unfolding stored
stored_none s b = refl

joined_none : (x : Slot) → joined x [] ≡ lone x.section (body x) ∷ []
unfolding joined
joined_none x = refl

pub grouped-more : (c : Cell) (cs : List Cell) → grouped (c ∷ cs) ≡ joined c.slot (grouped cs)
unfolding grouped
grouped-more c cs = refl

stored-front : (s : ℕ) (b : Bytes) (l : List Section) → Head (suc s) l → stored s b l ≡ lone s b ∷ l
unfolding stored
stored-front s b [] h = refl
stored-front s b (g ∷ gs) h = cond-true _ _ _ (lt-ltb _ _ h)

stored_here : (s : ℕ) (b : Bytes) (g : Section) (gs : List Section) → s ≡ g.number →
    stored s b (g ∷ gs) ≡ record { number = g.number; durable = g.durable ++ (b ∷ []); loose = g.loose } ∷ gs
unfolding stored
stored_here s b g gs e = cond-false _ _ _ (le-ltb s g.number (omega (arith, e))) ∙ cond-true _ _ _ (eq-eqb _ _ e)

stored_on : (s : ℕ) (b : Bytes) (g : Section) (gs : List Section) → g.number < s → stored s b (g ∷ gs) ≡ g ∷ stored s b gs
unfolding stored
stored_on s b g gs h = cond-false _ _ _ (le-ltb s g.number (omega (arith, h))) ∙ cond-false _ _ _ (ne_eqb s g.number (λ e. omega (arith, h, e)))

head-stored : (n s : ℕ) (b : Bytes) (l : List Section) → n ≤ s → Head n l → Head n (stored s b l)
unfolding stored
head-stored n s b [] h q = h
head-stored n s b (g ∷ gs) h q =
    cond_both (ltb s g.number) _ _ (Head n) (λ _. h) (λ _. cond_both (eqb s g.number) _ _ (Head n) (λ _. q) (λ _. q))

abbrev fronted : Slot → Section → Section
fronted x g = record { number = g.number; durable = body x ∷ g.durable; loose = g.loose }

abbrev ended : Bytes → Section → Section
ended b g = record { number = g.number; durable = g.durable ++ (b ∷ []); loose = g.loose }

lone_number : (s t : ℕ) (d : List Bytes) (l : List Section) → s ≡ t →
    ◌≡◌ {A = List Section} (record { number = s; durable = d; loose = [] } ∷ l) (record { number = t; durable = d; loose = [] } ∷ l)
lone_number s t d l e = ap (λ (n : ℕ). record { number = n; durable = d; loose = [] } ∷ l) e

-- a record in front of a section, and one behind
joined-stored : (y : Slot) (s : ℕ) (b : Bytes) (l : List Section) → y.section ≤ s → Head y.section l → joined y (stored s b l) ≡ stored s b (joined y l)
joined-stored y s b [] h q =
    let Y = lone y.section (body y) in
    elim (cases_Bool (eqb y.section s)) [
      | inl p ↦
          let e : y.section ≡ s = eqb-true y.section s p in
          ap (joined y) (stored_none s b) ∙ joined_same y (lone s b) [] p ∙ lone_number s y.section (body y ∷ b ∷ []) [] (sym e)
          ∙ sym (ap (stored s b) (joined_none y) ∙ stored_here s b Y [] (sym e))
      | inr p ↦
          let n = eqb-false y.section s p in
          ap (joined y) (stored_none s b) ∙ joined_other y (lone s b) [] p ∙ ap (λ (l : List Section). Y ∷ l) (sym (stored_none s b))
          ∙ sym (ap (stored s b) (joined_none y) ∙ stored_on s b Y [] (omega (arith, h, n)))
    ]
joined-stored y s b (g ∷ gs) h q =
    let Y = lone y.section (body y) in
    elim (cases_Bool (eqb y.section g.number)) [
      | inl p ↦
          let e : y.section ≡ g.number = eqb-true y.section g.number p in
          elim (cases_Bool (eqb s g.number)) [
            | inl r ↦
                let f = eqb-true s g.number r in
                ap (joined y) (stored_here s b g gs f) ∙ joined_same y (ended b g) gs p
                ∙ sym (ap (stored s b) (joined_same y g gs p) ∙ stored_here s b (fronted y g) gs f)
            | inr r ↦
                let lt : g.number < s = omega (arith, e, h, eqb-false s g.number r) in
                ap (joined y) (stored_on s b g gs lt) ∙ joined_same y g (stored s b gs) p
                ∙ sym (ap (stored s b) (joined_same y g gs p) ∙ stored_on s b (fronted y g) gs lt)
          ]
      | inr p ↦
          let n = eqb-false y.section g.number p in
          elim (cases_Bool (eqb s y.section)) [
            | inl r ↦
                let f = eqb-true s y.section r in
                ap (joined y) (stored-front s b (g ∷ gs) (omega (arith, q, n, f))) ∙ joined_same y (lone s b) (g ∷ gs) (eq-eqb _ _ (sym f))
                ∙ lone_number s y.section (body y ∷ b ∷ []) (g ∷ gs) f
                ∙ sym (ap (stored s b) (joined_other y g gs p) ∙ stored_here s b Y (g ∷ gs) f)
            | inr r ↦
                let m = eqb-false s y.section r in
                joined_fresh y (stored s b (g ∷ gs)) (head-stored (suc y.section) s b (g ∷ gs) (omega (arith, h, m)) (omega (arith, q, n)))
                ∙ sym (ap (stored s b) (joined_other y g gs p) ∙ stored_on s b Y (g ∷ gs) (omega (arith, h, m)))
          ]
    ]

-- the youngest record goes to the end of its section
pub grouped-inserted : (c : Cell) (l : List Cell) → Rising l → All (λ y. y.slot.age < c.slot.age) l →
    grouped (inserted c l) ≡ stored c.slot.section (body c.slot) (grouped l)
unfolding Rising All
grouped-inserted c [] r a = unfold inserted grouped joined stored in refl
grouped-inserted c (y ∷ ys) (l, r) (h, a) =
    let s = c.slot.section in
    let b = body c.slot in
    let t = latest (key c) (key y) h in
    elim (cases_Bool (ltb s y.slot.section)) [
      | inl p ↦
          let q : Head (suc s) (grouped (y ∷ ys)) = subst (Head (suc s)) (sym (grouped-more y ys)) (head-joined (suc s) y.slot (grouped ys) (ltb-true s y.slot.section p)) in
          ap grouped (here c y ys (t ∙ p)) ∙ grouped-more c (y ∷ ys) ∙ joined_fresh c.slot (grouped (y ∷ ys)) q ∙ sym (stored-front s b (grouped (y ∷ ys)) q)
      | inr p ↦
          ap grouped (on c y ys (t ∙ p))
          ∙ grouped-more y (inserted c ys) ∙ ap (joined y.slot) (grouped-inserted c ys r a) ∙ joined-stored y.slot s b (grouped ys) (ltb-false s y.slot.section p) (head-grouped y ys l)
          ∙ ap (stored s b) (sym (grouped-more y ys))
    ]
