-- What the areas of each section are once those below a bound were freed. Assumes nothing.
use Rattle.std.proofs.Common.{◌≡◌, ℕ, ◌<◌, ◌≤◌, cond, not, eqb, ltb, ◌⊎◌, List, [], ◌∷◌, ◌++◌, map, take, drop, Some, None, Option, sym, refl, ap, ◌∙◌, inl, inr, append-nil, arith}
use Rattle.std.proofs.lemmas.List.{take-append-drop}
use Rattle.std.proofs.lemmas.Bool.{cond_both, cases_lt}
use Rattle.std.proofs.lemmas.Bool.Decides.{nat_tests}
use Rattle.area.specs.Area.{Area}
use Rattle.journal.specs.Log.{Bytes}
use Rattle.areas.specs.Plan.{areas_of, or_else, first_records, records_in}
use Rattle.areas_writing.specs.Steps.{under, cleared, cleared_from}
use Rattle.byte_journal.proofs.Grows.{areas_append}

-- the areas of the sections below are gone, the others stay
cleared-areas : (n s : ℕ) (os : List (Option Area)) → areas_of n (map (cleared s) os) ≡ cond (ltb n s) [] (areas_of n os)
unfolding areas_of cleared under
cleared-areas n s [] = grind (arith, nat_tests)
cleared-areas n s (None ∷ os) = cleared-areas n s os
cleared-areas n s (Some a ∷ os) =
    let ih = cleared-areas n s os in
    cond_both (ltb a.section s) None (Some a) (λ o. areas_of n (o ∷ map (cleared s) os) ≡ cond (ltb n s) [] (cond (eqb n a.section) (a ∷ areas_of n os) (areas_of n os))) (λ t. grind (arith, nat_tests)) (λ t. grind (arith, nat_tests))

pub freed-above : (i n s : ℕ) (os : List (Option Area)) → s ≤ n → areas_of n (cleared_from i s os) ≡ areas_of n os
unfolding cleared_from
freed-above i n s os h =
    let c = cleared-areas n s (drop i os) in
    let e : areas_of n (map (cleared s) (drop i os)) ≡ areas_of n (drop i os) = grind (arith, nat_tests) in
    areas_append n (take i os) (map (cleared s) (drop i os)) ∙ ap (λ l. areas_of n (take i os) ++ l) e ∙ sym (areas_append n (take i os) (drop i os)) ∙ ap (areas_of n) (take-append-drop i os)

pub freed-below : (i n s : ℕ) (os : List (Option Area)) → n < s → areas_of n (cleared_from i s os) ≡ areas_of n (take i os)
unfolding cleared_from
freed-below i n s os h =
    let c = cleared-areas n s (drop i os) in
    let e : areas_of n (map (cleared s) (drop i os)) ≡ [] = grind (arith, nat_tests) in
    areas_append n (take i os) (map (cleared s) (drop i os)) ∙ ap (λ l. areas_of n (take i os) ++ l) e ∙ append-nil (areas_of n (take i os))

first-append : (xs ys : List Area) → (first_records xs ≡ []) ⊎ (first_records (xs ++ ys) ≡ first_records xs)
unfolding first_records or_else
first-append [] ys = inl refl
first-append (a ∷ xs) ys = go a.records (first-append xs ys)
  where
    go : (rs : List Bytes) → (first_records xs ≡ []) ⊎ (first_records (xs ++ ys) ≡ first_records xs) → (or_else rs (first_records xs) ≡ []) ⊎ (or_else rs (first_records (xs ++ ys)) ≡ or_else rs (first_records xs))
    go [] c = c
    go (r ∷ rs) c = inr refl

-- each section has the records that it had, or, below the bound, none
pub freed-records : (i n s : ℕ) (os : List (Option Area)) → (records_in n (cleared_from i s os) ≡ records_in n os) ⊎ ((n < s) × (records_in n (cleared_from i s os) ≡ []))
unfolding records_in
freed-records i n s os = go (cases_lt n s)
  where
    go : (n < s) ⊎ (s ≤ n) → (first_records (areas_of n (cleared_from i s os)) ≡ first_records (areas_of n os)) ⊎ ((n < s) × (first_records (areas_of n (cleared_from i s os)) ≡ []))
    go (inr h) = inl (ap first_records (freed-above i n s os h))
    go (inl h) = lo (first-append (areas_of n (take i os)) (areas_of n (drop i os)))
      where
        e : first_records (areas_of n (take i os) ++ areas_of n (drop i os)) ≡ first_records (areas_of n os)
        e = ap first_records (sym (areas_append n (take i os) (drop i os)) ∙ ap (areas_of n) (take-append-drop i os))

        lo : (first_records (areas_of n (take i os)) ≡ []) ⊎ (first_records (areas_of n (take i os) ++ areas_of n (drop i os)) ≡ first_records (areas_of n (take i os))) → (first_records (areas_of n (cleared_from i s os)) ≡ first_records (areas_of n os)) ⊎ ((n < s) × (first_records (areas_of n (cleared_from i s os)) ≡ []))
        lo (inl z) = inr (h, ap first_records (freed-below i n s os h) ∙ z)
        lo (inr z) = inl (ap first_records (freed-below i n s os h) ∙ sym z ∙ e)

-- all of them freed
pub cleared-records : (n s : ℕ) (os : List (Option Area)) → records_in n (map (cleared s) os) ≡ cond (not (ltb n s)) (records_in n os) []
unfolding records_in first_records
cleared-records n s os = let c = cleared-areas n s os in grind (arith, nat_tests)
