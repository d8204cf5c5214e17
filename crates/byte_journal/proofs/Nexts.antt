-- The record that is read next. Assumes nothing.
use Rattle.std.proofs.Common.{◌≡◌, ℕ, zero, suc, ◌+◌, ◌<◌, true, false, cond, ◌&&◌, eqb, ltb, leb, ◌⊎◌, List, [], ◌∷◌, ◌++◌, Some, None, Option, sym, refl, ap, ◌∙◌, inl, inr, arith}
use Rattle.std.proofs.lemmas.Bool.{cond_both, cond-true, cond-false, cases_order, and_parts, lt-ltb, le-ltb, leb-true, leb-false, false≢true}
use Rattle.std.proofs.lemmas.Bool.Decides.{nat_tests}
use Rattle.std.specs.Option.{option_map}
use Rattle.std.specs.List.{slice_get}
use Rattle.area.specs.Area.{Area}
use Rattle.journal.specs.Log.{Bytes, Section, all_of, Ascends, Placed, numbered, reading}
use Rattle.journal.specs.Places.{past as Past, past_place, beyond, first_of}
use Rattle.journal.specs.declared.places.Place.{Place}
use Rattle.areas.specs.Plan.{some, or_else, areas_of, first_records, records_in, above, lower, lowest}
use Rattle.areas_reading.specs.Next.{placed_at, leading, or_next, next_of}
use Rattle.byte_journal.specs.Sections.{sections}
use Rattle.byte_journal.proofs.Lookup.{recs, recs_here, recs_below, AllKept, all-durable, kept_some}
use Rattle.byte_journal.proofs.Sieve.{sieve, recs_sieve, sieve_ascends, sieve_kept}
use Rattle.byte_journal.proofs.Value.{ascends, all-kept, recs_sections}

-- the lowest number at which there is something, and what is there
abbrev Least : (ℕ → List Bytes) → Option Area → Type 0
Least f None = (n : ℕ) → f n ≡ []
Least f (Some a) = (f a.section ≡ a.records) × (some a.records ≡ true) × ((m : ℕ) → m < a.section → f m ≡ [])

least-same : (f g : ℕ → List Bytes) (o : Option Area) → ((n : ℕ) → g n ≡ f n) → Least f o → Least g o
least-same f g None h l = λ n. h n ∙ l n
least-same f g (Some a) h l = (h a.section ∙ l.0, l.1, λ m k. h m ∙ l.2 m k)

-- one area more in front, which comes before or after
least-front : (f g : ℕ → List Bytes) (a : Area) (o : Option Area) → g a.section ≡ a.records → some a.records ≡ true → ((n : ℕ) → (n ≡ a.section → ⊥) → g n ≡ f n) → Least f o → Least g (Some (lower a o))
unfolding lower
least-front f g a None e s h l = (e, s, λ m k. h m (λ q. omega arith) ∙ l m)
least-front f g a (Some b) e s h l =
    cond_both (leb a.section b.section) a b (λ x. Least g (Some x))
    (λ t. let w = leb-true a.section b.section t in (e, s, λ m k. h m (λ q. omega arith) ∙ l.2 m (omega arith)))
    (λ t. let w = leb-false a.section b.section t in (h b.section (λ q. omega arith) ∙ l.0, l.1, λ m k. h m (λ q. omega arith) ∙ l.2 m k))

-- what is seen above a number
abbrev seen : Option ℕ → List (Option Area) → ℕ → List Bytes
seen low os n = cond (above low n) (records_in n os) []

-- an area in front of others: it shows its section's records, if it has any, and nothing else
in_front : (n : ℕ) (a : Area) (os : List (Option Area)) → records_in n (Some a ∷ os) ≡ cond (eqb n a.section) (or_else a.records (records_in n os)) (records_in n os)
unfolding records_in areas_of first_records
in_front n a os = grind (arith, nat_tests)

or_else_some : (rs other : List Bytes) → or_else rs other ≡ cond (some rs) rs other
unfolding or_else some
or_else_some [] other = refl
or_else_some (r ∷ rs) other = refl

seen_other : (low : Option ℕ) (a : Area) (os : List (Option Area)) (n : ℕ) → (n ≡ a.section → ⊥) → seen low (Some a ∷ os) n ≡ seen low os n
seen_other low a os n h = let f = in_front n a os in grind (arith, nat_tests)

seen_same : (low : Option ℕ) (a : Area) (os : List (Option Area)) → (above low a.section && some a.records) ≡ false → (n : ℕ) → seen low (Some a ∷ os) n ≡ seen low os n
seen_same low a os h n = let f = in_front n a os in let g = or_else_some a.records (records_in n os) in grind (arith, nat_tests)

here_is : (a : Area) (os : List (Option Area)) → some a.records ≡ true → records_in a.section (Some a ∷ os) ≡ a.records
here_is a os h = let f = in_front a.section a os in let g = or_else_some a.records (records_in a.section os) in grind (arith, nat_tests)

lowest-least : (low : Option ℕ) (os : List (Option Area)) → Least (seen low os) (lowest low os)
unfolding lowest records_in areas_of first_records
lowest-least low [] = λ n. grind (arith, nat_tests)
lowest-least low (None ∷ os) = lowest-least low os
lowest-least low (Some a ∷ os) =
    cond_both (above low a.section && some a.records) (Some (lower a (lowest low os))) (lowest low os) (Least (seen low (Some a ∷ os)))
    (λ t. let p = and_parts (above low a.section) (some a.records) t in least-front (seen low os) (seen low (Some a ∷ os)) a (lowest low os) (cond-true _ _ _ p.0 ∙ here_is a os p.1) p.1 (seen_other low a os) (lowest-least low os))
    (λ t. least-same (seen low os) (seen low (Some a ∷ os)) (lowest low os) (seen_same low a os t) (lowest-least low os))

-- the first record of the first section
lead : List Section → Option Placed
lead [] = None
lead (x ∷ xs) = option_map (placed_at x.number 0) (slice_get (all_of x) 0)

not_nil : (rs : List Bytes) → some rs ≡ true → rs ≡ [] → ⊥
unfolding some
not_nil rs h e = false≢true (sym (ap some e) ∙ h)

lead_by : (f : ℕ → List Bytes) (o : Option Area) (ys : List Section) → Ascends 0 ys → AllKept ys → ((n : ℕ) → recs n ys ≡ f n) → Least f o → leading o ≡ lead ys
unfolding lead Ascends AllKept recs
lead_by f None [] a k h l = refl
lead_by f None (y ∷ ys) a k h l = absurd (not_nil (all_of y) (ap some (all-durable y k.0.loose) ∙ k.0.some') (sym (recs_here y.number y ys refl) ∙ h y.number ∙ l y.number))
lead_by f (Some b) [] a k h l = absurd (not_nil b.records l.1 (sym l.0 ∙ sym (h b.section)))
lead_by f (Some b) (y ∷ ys) a k h l = go (cases_order b.section y.number)
  where
    go : (b.section ≡ y.number) ⊎ ((b.section < y.number) ⊎ (y.number < b.section)) → option_map (placed_at b.section 0) (slice_get b.records 0) ≡ option_map (placed_at y.number 0) (slice_get (all_of y) 0)
    go (inl e) =
        let r : b.records ≡ all_of y = sym l.0 ∙ sym (h b.section) ∙ recs_here b.section y ys e in
        ap (λ rs. option_map (placed_at b.section 0) (slice_get rs 0)) r ∙ ap (λ n. option_map (placed_at n 0) (slice_get (all_of y) 0)) e
    go (inr (inl e)) = absurd (not_nil b.records l.1 (sym l.0 ∙ sym (h b.section) ∙ recs_below y.number b.section (y ∷ ys) (omega arith, a.1) e))
    go (inr (inr e)) = absurd (not_nil (all_of y) (ap some (all-durable y k.0.loose) ∙ k.0.some') (sym (recs_here y.number y ys refl) ∙ h y.number ∙ l.2 y.number e))

-- what is read first

first-front : (s n : ℕ) (rs : List Bytes) (rest : List Placed) → some rs ≡ true → first_of (numbered s n rs ++ rest) ≡ option_map (placed_at s n) (slice_get rs 0)
unfolding numbered first_of some
first-front s n [] rest h = absurd (false≢true h)
first-front s n (r ∷ rs) rest h = refl

first-reading : (xs : List Section) → AllKept xs → first_of (reading xs) ≡ lead xs
unfolding reading lead first_of AllKept
first-reading [] k = refl
first-reading (x ∷ xs) k = first-front x.number 0 (all_of x) (reading xs) (kept_some x k.0)

-- a record past a place, and one that is not

past-above : (s n t k : ℕ) (b : Bytes) (rest : List Placed) → s < t → past_place s n (placed_at t k b ∷ rest) ≡ placed_at t k b ∷ rest
unfolding past_place Past
past-above s n t k b rest h = grind (arith, nat_tests)

past-under : (s n t k : ℕ) (b : Bytes) (rest : List Placed) → t < s → past_place s n (placed_at t k b ∷ rest) ≡ past_place s n rest
unfolding past_place Past
past-under s n t k b rest h = grind (arith, nat_tests)

past-at : (s n k : ℕ) (b : Bytes) (rest : List Placed) → past_place s n (placed_at s k b ∷ rest) ≡ cond (ltb n k) (placed_at s k b ∷ rest) (past_place s n rest)
unfolding past_place Past
past-at s n k b rest = grind (arith, nat_tests)

skip_section : (s n t k : ℕ) (rs : List Bytes) (rest : List Placed) → t < s → past_place s n (numbered t k rs ++ rest) ≡ past_place s n rest
unfolding numbered
skip_section s n t k [] rest h = refl
skip_section s n t k (r ∷ rs) rest h = past-under s n t k r (numbered t (suc k) rs ++ rest) h ∙ skip_section s n t (suc k) rs rest h

past_first : (s n t : ℕ) (rs : List Bytes) (rest : List Placed) → s < t → some rs ≡ true → first_of (past_place s n (numbered t 0 rs ++ rest)) ≡ option_map (placed_at t 0) (slice_get rs 0)
unfolding numbered first_of some
past_first s n t [] rest h k = absurd (false≢true k)
past_first s n t (r ∷ rs) rest h k = ap first_of (past-above s n t 0 r (numbered t 1 rs ++ rest) h)

in_section : (s n k d : ℕ) (rs : List Bytes) (rest : List Placed) → k + d ≡ n + 1 → first_of (past_place s n (numbered s k rs ++ rest)) ≡ or_next (option_map (placed_at s (n + 1)) (slice_get rs d)) (first_of (past_place s n rest))
unfolding numbered first_of
in_section s n k d [] rest h = refl
in_section s n k zero (r ∷ rs) rest h =
    let z : k ≡ n + 1 = omega arith in
    ap first_of (past-at s n k r (numbered s (suc k) rs ++ rest) ∙ cond-true _ _ _ (lt-ltb n k (omega arith))) ∙ ap (λ m. Some (placed_at s m r)) z
in_section s n k (suc d) (r ∷ rs) rest h =
    ap first_of (past-at s n k r (numbered s (suc k) rs ++ rest) ∙ cond-false _ _ _ (le-ltb n k (omega arith))) ∙ in_section s n (suc k) d rs rest (omega arith)

-- all sections are above
first_above : (s n : ℕ) (xs : List Section) → Ascends (suc s) xs → AllKept xs → first_of (past_place s n (reading xs)) ≡ lead (sieve (ltb s) xs)
unfolding reading past_place first_of lead Ascends AllKept sieve
first_above s n [] a k = refl
first_above s n (x ∷ xs) a k =
    let f = past_first s n x.number (all_of x) (reading xs) a.0 (kept_some x k.0) in
    f ∙ sym (ap lead (cond-true _ _ _ (lt-ltb s x.number a.0)))

-- what is read past a place is the next of its section, or the first of those above
past-first_of : (m s n : ℕ) (xs : List Section) → Ascends m xs → AllKept xs → first_of (past_place s n (reading xs)) ≡ or_next (option_map (placed_at s (n + 1)) (slice_get (recs s xs) (n + 1))) (lead (sieve (ltb s) xs))
unfolding reading past_place first_of lead Ascends AllKept sieve recs
past-first_of m s n [] a k = refl
past-first_of m s n (x ∷ xs) a k = go (cases_order s x.number) (past-first_of (suc x.number) s n xs a.1 k.1)
  where
    go : (s ≡ x.number) ⊎ ((s < x.number) ⊎ (x.number < s)) → first_of (past_place s n (reading xs)) ≡ or_next (option_map (placed_at s (n + 1)) (slice_get (recs s xs) (n + 1))) (lead (sieve (ltb s) xs)) → first_of (past_place s n (numbered x.number 0 (all_of x) ++ reading xs)) ≡ or_next (option_map (placed_at s (n + 1)) (slice_get (recs s (x ∷ xs)) (n + 1))) (lead (sieve (ltb s) (x ∷ xs)))
    go (inr (inl h)) ih =
        let f = past_first s n x.number (all_of x) (reading xs) h (kept_some x k.0) in
        let r = recs_below (suc x.number) s xs a.1 (omega arith) in
        grind (arith, nat_tests)
    go (inl e) ih =
        let f = in_section x.number n 0 (n + 1) (all_of x) (reading xs) (omega arith) in
        let g = first_above x.number n xs a.1 k.1 in
        grind (arith, nat_tests)
    go (inr (inr h)) ih =
        let f = skip_section s n x.number 0 (all_of x) (reading xs) h in
        grind (arith, nat_tests)

-- the record that is found among the areas is the next in reading order
pub next_is : (o : Option Place) (os : List (Option Area)) → next_of o os ≡ first_of (beyond o (reading (sections os)))
unfolding beyond
next_is None os =
    lead_by (seen None os) (lowest None os) (sections os) (ascends os) (all-kept os) (λ n. recs_sections n os) (lowest-least None os) ∙ sym (first-reading (sections os) (all-kept os))
next_is (Some p) os =
    let s = p.section in
    let xs = sections os in
    ap (or_next (option_map (placed_at s (p.number + 1)) (slice_get (records_in s os) (p.number + 1)))) (lead_by (seen (Some s) os) (lowest (Some s) os) (sieve (ltb s) xs) (sieve_ascends (ltb s) 0 xs (ascends os)) (sieve_kept (ltb s) xs (all-kept os)) (λ n. recs_sieve (ltb s) n xs ∙ ap (λ l. cond (ltb s n) l []) (recs_sections n os)) (lowest-least (Some s) os))
    ∙ ap (λ l. or_next (option_map (placed_at s (p.number + 1)) (slice_get l (p.number + 1))) (lead (sieve (ltb s) xs))) (sym (recs_sections s os))
    ∙ sym (past-first_of 0 s p.number xs (ascends os) (all-kept os))
