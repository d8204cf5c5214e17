-- One step of going through the records in reading order. Assumes nothing.
use Rattle.std.proofs.Common.{◌≡◌, ℕ, suc, ◌+◌, ◌<◌, ◌≤◌, Bool, true, false, cond, eqb, List, [], ◌∷◌, map, length, get_or, Some, None, Option, MatchOption, sym, refl, ap, ◌∙◌, subst, inl, inr, arith}
use Rattle.journal.specs.Log.{All, Placed}
use Rattle.slots.specs.declared.slot.Slot.{Slot}
use Rattle.slots.specs.declared.slot.Key.{Key}
use Rattle.slots.specs.Order.{Cell, key, before, gate, order, after, first_key}
use Rattle.journal.specs.declared.places.Defect.{Defect}
use Rattle.journal.specs.declared.places.Overrun.{Overrun}
use Rattle.std.specs.Option.{option_map}
use Rattle.std.specs.List.{find}
use Rattle.slots.specs.declared.entries.Entry.{Entry}
use Rattle.slots.specs.declared.entries.Entries.{Entries}
use Rattle.slots.specs.Entries.{Turn, turns, turn_of, placed_turn, Begun, left, HasRoom}
use Rattle.slots.specs.Value.{listed, turn, defect, or_on, first_defect, over}
use Rattle.journal.specs.Places.{past, past_place, first_of}
use Rattle.std.proofs.lemmas.Bool.{cond-true, cond-false, cases_Bool}
use Rattle.slots.proofs.Keys.{before-section}
use Rattle.slots.proofs.Sorting.{rising, all_map, all_after, after_step}
use Rattle.slots.proofs.Added.{found, found_none, Lying, order_lies, length-order, length-after}
use Rattle.slots.specs.Value.{blank}
use Rattle.slots.proofs.Listed.{gate_open, past-gate}

after-before : (k : Key) (l : List Cell) (c : Cell) (rest : List Cell) → after k l ≡ c ∷ rest → before k (key c) ≡ true
after-before k [] c rest e = let z : after k [] ≡ [] = unfold after in refl in let n : ◌≡◌ {A = ℕ} 0 1 = cc in absurd (omega arith)
after-before k (y ∷ ys) c rest e = go (before k (key y)) refl (after-before k ys c rest)
  where
    go : (b : Bool) → before k (key y) ≡ b → (after k ys ≡ c ∷ rest → before k (key c) ≡ true) → before k (key c) ≡ true
    go true p ih =
        let m : after k (y ∷ ys) ≡ cond (before k (key y)) (y ∷ ys) (after k ys) = unfold after in refl in
        let q : y ∷ ys ≡ c ∷ rest = sym (m ∙ ap (λ t. cond t (y ∷ ys) (after k ys)) p) ∙ e in
        let h : y ≡ c = cc in
        ap (λ (z : Cell). before k (key z)) (sym h) ∙ p
    go false p ih =
        let m : after k (y ∷ ys) ≡ cond (before k (key y)) (y ∷ ys) (after k ys) = unfold after in refl in
        ih (sym (m ∙ ap (λ t. cond t (y ∷ ys) (after k ys)) p) ∙ e)

all_head : (P : Cell → Type 0) (c : Cell) (cs : List Cell) → All P (c ∷ cs) → P c
unfolding All
all_head P c cs (p, a) = p

-- the key that follows, with its record and what comes after it
pub record Met (from k : Key) (xs : List Slot) : Type 0 where
  pub cell : Cell
  pub rest : List Cell
  pub split : after from (order xs) ≡ cell ∷ rest
  pub key : key cell ≡ k
  pub onward : after k (order xs) ≡ rest
  pub within : k.at < length xs
  pub slot : get_or xs k.at blank ≡ cell.slot
  pub up : from.section ≤ k.section

pub met : (from k : Key) (xs : List Slot) → Some k ≡ first_key (after from (order xs)) → Met from k xs
met from k xs e =
    let f = found k (after from (order xs)) (sym e) in
    let c = f.cell in
    let lies : All (Lying xs) (c ∷ f.rest) = subst (All (Lying xs)) f.split (all_after (Lying xs) from (order xs) (order_lies xs)) in
    let here : Lying xs c = all_head (Lying xs) c f.rest lies in
    let at : c.at ≡ k.at = ap (λ (z : Key). z.at) f.key in
    record {
      cell = c;
      rest = f.rest;
      split = f.split;
      key = f.key;
      onward = ap (λ (z : Key). after z (order xs)) (sym f.key) ∙ after_step from (order xs) c f.rest (rising xs) f.split;
      within = omega (arith, here.within, at);
      slot = ap (λ i. get_or xs i blank) (sym at) ∙ here.is blank;
      up = subst (λ (z : Key). from.section ≤ z.section) f.key (before-section from (key c) (after-before from (order xs) c f.rest f.split));
    }

pub none_met : (from : Key) (xs : List Slot) → None ≡ first_key (after from (order xs)) → after from (order xs) ≡ []
none_met from xs e = found_none (after from (order xs)) (sym e)

live : (xs : List Slot) → All (λ c. c.slot.age ≡ 0 → ⊥) (order xs)
live xs = all_map (Lying xs) _ (λ c l. l.live) (order xs) (order_lies xs)

gate_zero : (l : List Cell) → All (λ c. c.slot.age ≡ 0 → ⊥) l → after (gate 0) l ≡ l
unfolding All after
gate_zero [] a = refl
gate_zero (c ∷ cs) (v, a) = cond-true _ _ _ (gate_open 0 c v (omega arith))

-- records with their numbers, one after the other
turns-more : (s n : ℕ) (c : Cell) (cs : List Cell) → turns s n (c ∷ cs) ≡ record { number = turn s n c; cell = c } ∷ turns c.slot.section (suc (turn s n c)) cs
unfolding turns
turns-more s n c cs = refl

turns_none : (s n : ℕ) → turns s n [] ≡ []
unfolding turns
turns_none s n = refl

length-turns : (s n : ℕ) (cs : List Cell) → length (turns s n cs) ≡ length cs
unfolding turns
length-turns s n [] = refl
length-turns s n (c ∷ cs) = ap suc (length-turns c.slot.section (suc (turn s n c)) cs)

listed-turns : (s n : ℕ) (cs : List Cell) → listed s n cs ≡ map placed_turn (turns s n cs)
unfolding listed turns
listed-turns s n [] = refl
listed-turns s n (c ∷ cs) = ap (λ (l : List Placed). placed_turn (record { number = turn s n c; cell = c }) ∷ l) (listed-turns c.slot.section (suc (turn s n c)) cs)

-- the record of a key that was met, and what is left
pub met_left : (from k : Key) (n m : ℕ) (xs : List Slot) → Met from k xs → m ≡ cond (eqb from.section k.section) n 0 →
    turns from.section n (after from (order xs)) ≡ record { number = m; cell = record { at = k.at; slot = get_or xs k.at blank } } ∷ turns k.section (m + 1) (after k (order xs))
met_left from k n m xs q e =
    let t : turn from.section n q.cell ≡ m = ap (λ (z : Key). cond (eqb from.section z.section) n 0) q.key ∙ sym e in
    let one : suc m ≡ m + 1 = omega arith in
    ap (turns from.section n) q.split ∙ turns-more from.section n q.cell q.rest
    ∙ ap (λ (j : ℕ). record { number = j; cell = q.cell } ∷ turns q.cell.slot.section (suc j) q.rest) t
    ∙ ap (λ (z : Key). record { number = m; cell = q.cell } ∷ turns z.section (suc m) q.rest) q.key
    ∙ ap (λ (j : ℕ). record { number = m; cell = q.cell } ∷ turns k.section j q.rest) one
    ∙ ap (λ (l : List Cell). record { number = m; cell = q.cell } ∷ turns k.section (m + 1) l) (sym q.onward)
    ∙ ap (λ (z : Key). record { number = m; cell = record { at = z.at; slot = q.cell.slot } } ∷ turns k.section (m + 1) (after k (order xs))) q.key
    ∙ ap (λ (x : Slot). record { number = m; cell = record { at = k.at; slot = x } } ∷ turns k.section (m + 1) (after k (order xs))) (sym q.slot)

pub none_left : (from : Key) (n : ℕ) (xs : List Slot) → None ≡ first_key (after from (order xs)) → turns from.section n (after from (order xs)) ≡ []
none_left from n xs e = ap (turns from.section n) (none_met from xs e) ∙ turns_none from.section n

turn-least : (b : Bool) (n : ℕ) → cond b n 0 ≤ n
turn-least true n = omega arith
turn-least false n = omega arith

-- the count is still below the number of slots
pub met_room : (from k : Key) (n m : ℕ) (xs : List Slot) → Met from k xs → m ≡ cond (eqb from.section k.section) n 0 → n + length (turns from.section n (after from (order xs))) ≤ length xs →
    (m + 1 + length (turns k.section (m + 1) (after k (order xs))) ≤ length xs)
    × (suc (length (turns k.section (m + 1) (after k (order xs)))) ≡ length (turns from.section n (after from (order xs))))
met_room from k n m xs q e h =
    let d = ap (λ (l : List Turn). length l) (met_left from k n m xs q e) in
    (omega (arith, d, e, turn-least (eqb from.section k.section) n, h), omega (arith, d))

-- what is left at the beginning
pub begun_left : (s : ℕ) (xs : List Slot) (it : Entries) → Begun s xs it → left it ≡ turns s 0 (after (gate s) (order xs))
begun_left s xs it b =
    ap (λ (ys : List Slot). turns it.last.section it.number (after it.last (order ys))) b.slots
    ∙ ap (λ (z : Key). turns z.section it.number (after z (order xs))) b.last
    ∙ ap (λ (j : ℕ). turns s j (after (gate s) (order xs))) b.number

pub begun_room : (s : ℕ) (xs : List Slot) (it : Entries) → Begun s xs it → HasRoom it
begun_room s xs it b =
    let here = ap (λ (l : List Turn). length l) (begun_left s xs it b) in
    let long = ap (λ (l : List Slot). length l) b.slots in
    omega (arith, b.number, here, long, length-turns s 0 (after (gate s) (order xs)), length-after (gate s) (order xs), length-order xs)

-- the records from the first section on are all
begun_all : (xs : List Slot) (it : Entries) → Begun 0 xs it → left it ≡ turns 0 0 (order xs)
begun_all xs it b = begun_left 0 xs it b ∙ ap (turns 0 0) (gate_zero (order xs) (live xs))

pub begun_listed : (xs : List Slot) (it : Entries) → Begun 0 xs it → listed 0 0 (order xs) ≡ map placed_turn (left it)
begun_listed xs it b = listed-turns 0 0 (order xs) ∙ ap (map placed_turn) (sym (begun_all xs it b))

pub begun_past : (s n : ℕ) (xs : List Slot) (it : Entries) → Begun s xs it → past_place s n (listed 0 0 (order xs)) ≡ past_place s n (map placed_turn (left it))
begun_past s n xs it b =
    past-gate s n 0 0 (order xs) (live xs) (inl refl)
    ∙ ap (past_place s n) (listed-turns s 0 (after (gate s) (order xs)) ∙ ap (map placed_turn) (sym (begun_left s xs it b)))

-- the first of what is left
pub first_read : (r : Option Entry) (l m : List Turn) → MatchOption r ((l ≡ []) × (m ≡ [])) (λ x. l ≡ turn_of x ∷ m) → option_map placed_turn (option_map turn_of r) ≡ first_of (map placed_turn l)
unfolding first_of
first_read None l m (e, _) = sym (ap (λ (k : List Turn). first_of (map placed_turn k)) e)
first_read (Some x) l m e = sym (ap (λ (k : List Turn). first_of (map placed_turn k)) e)

-- the first past a place is the one that is found
pub found-past : (s n : ℕ) (l : List Turn) → first_of (past_place s n (map placed_turn l)) ≡ option_map placed_turn (find (λ t. past s n (placed_turn t)) l)
unfolding past_place first_of
found-past s n [] = refl
found-past s n (t ∷ l) =
    elim (cases_Bool (past s n (placed_turn t))) [
      | inl p ↦ ap first_of (cond-true _ _ _ p) ∙ sym (ap (option_map placed_turn) (cond-true _ _ _ p))
      | inr p ↦ ap first_of (cond-false _ _ _ p) ∙ found-past s n l ∙ sym (ap (option_map placed_turn) (cond-false _ _ _ p))
    ]

-- the first overrun of records with their numbers
pub first_in : (Cell → Option Defect) → List Turn → Option Overrun
first_in f [] = None
first_in f (t ∷ ts) = or_on t.cell.slot.section t.number (f t.cell) (first_in f ts)

defect-turns : (f : Cell → Option Defect) (s n : ℕ) (cs : List Cell) → first_defect f s n cs ≡ first_in f (turns s n cs)
unfolding first_defect turns first_in
defect-turns f s n [] = refl
defect-turns f s n (c ∷ cs) = ap (or_on c.slot.section (turn s n c) (f c)) (defect-turns f c.slot.section (suc (turn s n c)) cs)

pub begun_over : (xs : List Slot) (it : Entries) → Begun 0 xs it → first_in (defect xs) (left it) ≡ over xs
begun_over xs it b = ap (first_in (defect xs)) (begun_all xs it b) ∙ sym (over_is ∙ defect-turns (defect xs) 0 0 (order xs))
  where
    over_is : over xs ≡ first_defect (defect xs) 0 0 (order xs)
    over_is = unfold over in refl

-- a record without a defect is passed over
pub first-passed : (f : Cell → Option Defect) (l : List Turn) (t : Turn) (rest : List Turn) → l ≡ t ∷ rest → f t.cell ≡ None → first_in f rest ≡ first_in f l
unfolding first_in
first-passed f l t rest e n = sym (ap (first_in f) e ∙ ap (λ o. or_on t.cell.slot.section t.number o (first_in f rest)) n)

pub first-found : (f : Cell → Option Defect) (l : List Turn) (t : Turn) (rest : List Turn) (w : Defect) → l ≡ t ∷ rest → f t.cell ≡ Some w →
    Some (record { place = record { section = t.cell.slot.section; number = t.number }; what = w }) ≡ first_in f l
unfolding first_in
first-found f l t rest w e h = sym (ap (first_in f) e ∙ ap (λ o. or_on t.cell.slot.section t.number o (first_in f rest)) h)

pub first-none : (f : Cell → Option Defect) (l : List Turn) → l ≡ [] → None ≡ first_in f l
unfolding first_in
first-none f l e = sym (ap (first_in f) e)
