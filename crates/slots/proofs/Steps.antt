-- What the stores of an operation do to the value. Assumes nothing.
use Rattle.std.proofs.Common.{◌≡◌, ℕ, ◌<◌, ◌≤◌, max, true, false, ◌&&◌, eqb, leb, List, [], ◌∷◌, map, length, set, MatchOption, Some, None, Option, Ok, Err, Result, sym, refl, ap, ◌∙◌, subst, arith}
use Rattle.std.proofs.lemmas.Bool.{and_from, and_right, le-leb, le-ltb, cond-false}
use Rattle.journal.specs.Log.{Bytes, appended, added, from, pruned, AllFirmer, Firmer}
use Rattle.journal.specs.Cuts.{AllLeft, Cut}
use Rattle.journal.proofs.Firm.{firmer_refl}
use Rattle.journal.proofs.Lost.{lost_cut}
use Rattle.slots.specs.declared.slot.Slot.{Slot}
use Rattle.slots.specs.declared.stores.Vacancy.{Vacancy}
use Rattle.slots.specs.Order.{order, highest}
use Rattle.slots.specs.Value.{body, blank, grouped, log_of, space, disk, over}
use Rattle.slots.specs.Stores.{Holds, Storing, freed, swept, Sweeping}
use Rattle.std.specs.Result.{result_ok}
use Rattle.std.specs.Option.{ok_or}
use Rattle.slots.specs.Vacancies.{NoRoom, Room}
use Rattle.journal.specs.Steps.{Appended, Pruning}
use Rattle.journal.specs.declared.stops.Stop.{Stop}
use Rattle.journal.specs.declared.stops.Stop.TheVariants.{Full, Off}
use Rattle.slots.proofs.Sorting.{rising}
use Rattle.slots.proofs.Groups.{stored, firmer_stored, solid_grouped, formed_log}
use Rattle.slots.proofs.Added.{grouped-set, vacant-at}
use Rattle.slots.proofs.Overruns.{over-set, over-swept}
use Rattle.slots.proofs.Pruned.{keep, stays, order-freed, order-swept, grouped-from, grouped-left}

-- a record in a free slot is the value with it appended
pub store_step : (bound s : ℕ) (b : Bytes) (v : Vacancy) (y : Slot) (xs : List Slot) → Room v xs → Holds s v.age b y →
    Firmer (appended s b (log_of bound xs)) (log_of bound (set xs v.at y))
unfolding appended
store_step bound s b v y xs r h =
    let at = vacant-at v.at xs r.place in
    let age : highest xs < y.age = omega (arith, r.age, h.age) in
    let e : grouped (order (set xs v.at y)) ≡ stored s b (grouped (order xs)) =
    grouped-set xs v.at y blank at.0 (at.1 blank) age ∙ ap (λ n. stored n (body y) (grouped (order xs))) h.section ∙ ap (λ (c : Bytes). stored s c (grouped (order xs))) h.whole in
    record { bound = refl; sections = subst (AllFirmer (added s b (grouped (order xs)))) (sym e) (firmer_stored s b (grouped (order xs)) (solid_grouped (order xs))) }

pub store-over : (s : ℕ) (b : Bytes) (v : Vacancy) (y : Slot) (xs : List Slot) → Room v xs → Holds s v.age b y → length b ≤ 1068 → over (set xs v.at y) ≡ over xs
store-over s b v y xs r h l =
    let at = vacant-at v.at xs r.place in
    over-set xs v.at y blank at.0 (at.1 blank) (omega (arith, r.age, h.age)) (omega (arith, l, h.len))

pub room_within : (v : Vacancy) (xs : List Slot) → Room v xs → v.at < length xs
room_within v xs r = (vacant-at v.at xs r.place).0

-- a record that was not stored
pub lost_step : (bound s : ℕ) (b : Bytes) (xs : List Slot) → Cut 0 (appended s b (log_of bound xs)) (log_of 0 xs)
lost_step bound s b xs = lost_cut 0 s b (log_of bound xs) (solid_grouped (order xs)) (formed_log bound xs)

pub fits_yes : (xs : List Slot) (s n : ℕ) → n ≤ 1068 → space xs s n ≡ true → (leb n 1068 && space xs s n) ≡ true
fits_yes xs s n h e = and_from _ _ (le-leb n 1068 h) e

pub fits_full : (xs : List Slot) (s n : ℕ) → NoRoom xs → (leb n 1068 && space xs s n) ≡ false
fits_full xs s n h = and_right (leb n 1068) (space xs s n) (h s n)

swept_all : (s : ℕ) (xs : List Slot) → swept s (length xs) xs ≡ map (freed s) xs
unfolding swept
swept_all s [] = refl
swept_all s (x ∷ xs) = ap (λ (l : List Slot). freed s x ∷ l) (swept_all s xs)

-- all of the sections below are freed
pub freed_step : (bound b s : ℕ) (xs ys : List Slot) → b ≡ max s bound → Sweeping s true xs ys → Firmer (pruned s (log_of bound xs)) (log_of b ys)
unfolding pruned
freed_step bound b s xs ys e w =
    let g : from s (grouped (order xs)) ≡ grouped (order ys) =
    sym (ap (λ (l : List Slot). grouped (order l)) (w ∙ swept_all s xs) ∙ ap grouped (order-freed s xs) ∙ grouped-from s (order xs) (rising xs)) in
    record { bound = e; sections = subst (AllFirmer (from s (grouped (order xs)))) g (firmer_refl (record { bound = 0; sections = from s (grouped (order xs)) })).sections }

pub freed-over : (s : ℕ) (xs ys : List Slot) → Sweeping s true xs ys → over xs ≡ None → over ys ≡ None
freed-over s xs ys w e = ap over w ∙ over-swept s (length xs) xs e

pub swept-over : (s : ℕ) (xs ys : List Slot) → Sweeping s false xs ys → over xs ≡ None → over ys ≡ None
swept-over s xs ys (j, w) e = ap over w ∙ over-swept s j xs e

-- the power went while they were freed
pub swept_step : (bound s : ℕ) (xs ys : List Slot) → Sweeping s false xs ys → Cut s (log_of bound xs) (log_of 0 ys)
swept_step bound s xs ys (j, w) =
    let o : order ys ≡ keep (stays s j) (order xs) = ap order w ∙ order-swept s j xs in
    record {
      bound = refl;
      sections = subst (λ l. AllLeft s (grouped (order xs)) (grouped l)) (sym o) (grouped-left s (stays s j) (λ c h. cond-false _ _ _ (le-ltb c.slot.section s h)) (order xs) (rising xs));
    }

-- where a prune stopped, it was for the power
pub stopped_step : (bound s : ℕ) (e : Stop) (xs ys : List Slot) → e ≡ Off → Sweeping s false xs ys → Pruning (disk bound xs) s (Err e) (disk 0 ys)
stopped_step bound s e xs ys o w = subst (λ x. Pruning (disk bound xs) s (Err x) (disk 0 ys)) (sym o) (swept_step bound s xs ys w)

-- a record goes to a free slot
pub stored_step : (bound s : ℕ) (b : Bytes) (v : Vacancy) (y : Slot) (xs ys : List Slot) → bound ≤ s → length b ≤ 1068 → Room v xs → Holds s v.age b y → ys ≡ set xs v.at y →
    Appended (disk bound xs) s b (Ok tt) (disk bound ys)
stored_step bound s b v y xs ys h l room holds e =
    (h, fits_yes xs s (length b) l (room.room s (length b)), subst (λ (zs : List Slot). Firmer (appended s b (log_of bound xs)) (log_of bound zs)) (sym e) (store_step bound s b v y xs room holds))

-- one that was free, with the age after the highest
pub storing : (s : ℕ) (b : Bytes) (v : Vacancy) (y : Slot) (xs ys : List Slot) → Room v xs → Holds s v.age b y → ys ≡ set xs v.at y → Storing s b (Ok tt) xs ys
storing s b v y xs ys room holds e =
    let at = vacant-at v.at xs room.place in
    (v.at, y, at.0, ap (λ n. eqb n 0) (at.1 blank), subst (λ a. Holds s a b y) room.age holds, e)

-- the power went before it did
pub dark_step : (bound s : ℕ) (b : Bytes) (e : Stop) (v : Vacancy) (xs ys : List Slot) → e ≡ Off → bound ≤ s → length b ≤ 1068 → Room v xs → ys ≡ xs → Appended (disk bound xs) s b (Err e) (disk 0 ys)
dark_step bound s b e v xs ys o h l room same =
    subst (λ x. Appended (disk bound xs) s b (Err x) (disk 0 ys)) (sym o)
    (h, fits_yes xs s (length b) l (room.room s (length b)), subst (λ (zs : List Slot). Cut 0 (appended s b (log_of bound xs)) (log_of 0 zs)) (sym same) (lost_step bound s b xs))

-- no slot takes it
pub full_step : (bound s : ℕ) (b : Bytes) (e : Stop) (xs : List Slot) → e ≡ Full → bound ≤ s → NoRoom xs → Appended (disk bound xs) s b (Err e) (disk bound xs)
full_step bound s b e xs f h n = subst (λ x. Appended (disk bound xs) s b (Err x) (disk bound xs)) (sym f) (h, fits_full xs s (length b) n, refl)

-- a free slot was found
pub free-some : (xs : List Slot) (o : Option Vacancy) (r : Result Vacancy Stop) (v : Vacancy) → MatchOption o (NoRoom xs) (λ w. Room w xs) → o ≡ result_ok r → r ≡ Ok v → Room v xs
free-some xs o r v m e f = subst (λ p. MatchOption p (NoRoom xs) (λ w. Room w xs)) (e ∙ ap result_ok f) m

-- or none was
pub free-none : (xs : List Slot) (o : Option Vacancy) (r : Result Vacancy Stop) (e : Stop) → MatchOption o (NoRoom xs) (λ w. Room w xs) → r ≡ ok_or o Full → r ≡ Err e → (e ≡ Full) × NoRoom xs
free-none xs None r e m p q = (cc, m)
free-none xs (Some v) r e m p q = let bad : ◌≡◌ {A = ℕ} 0 1 = cc in absurd (omega arith)
