-- The sections that are read off the areas. Assumes nothing.
use Rattle.std.proofs.Common.{◌≡◌, ℕ, eqb, cond, List, [], ◌∷◌, Some, None, Option, sym, refl, ◌∙◌, arith}
use Rattle.std.proofs.lemmas.Bool.Decides.{nat_tests}
use Rattle.area.specs.Area.{Area}
use Rattle.areas.specs.Plan.{some, areas_of, or_else, first_records, records_in}
use Rattle.journal.specs.Log.{Bytes, Section, Ascends}
use Rattle.byte_journal.specs.Sections.{shown, sections}
use Rattle.byte_journal.proofs.Lookup.{recs, AllKept, same_lists}
use Rattle.byte_journal.proofs.Sieve.{recs_put, put-ascends, put-kept}

shown-ascends : (s : ℕ) (rs : List Bytes) (xs : List Section) → Ascends 0 xs → Ascends 0 (shown s rs xs)
unfolding shown
shown-ascends s [] xs a = a
shown-ascends s (r ∷ rs) xs a = put-ascends 0 s (r ∷ rs) xs (omega arith) a

shown-kept : (s : ℕ) (rs : List Bytes) (xs : List Section) → AllKept xs → AllKept (shown s rs xs)
unfolding shown some
shown-kept s [] xs k = k
shown-kept s (r ∷ rs) xs k = put-kept s (r ∷ rs) xs refl k

pub ascends : (os : List (Option Area)) → Ascends 0 (sections os)
unfolding sections Ascends
ascends [] = tt
ascends (None ∷ os) = ascends os
ascends (Some a ∷ os) = shown-ascends a.section a.records (sections os) (ascends os)

pub all-kept : (os : List (Option Area)) → AllKept (sections os)
unfolding sections AllKept
all-kept [] = tt
all-kept (None ∷ os) = all-kept os
all-kept (Some a ∷ os) = shown-kept a.section a.records (sections os) (all-kept os)

recs_shown : (n s : ℕ) (rs : List Bytes) (xs : List Section) → recs n (shown s rs xs) ≡ cond (eqb n s) (or_else rs (recs n xs)) (recs n xs)
unfolding shown or_else
recs_shown n s [] xs = grind (arith, nat_tests)
recs_shown n s (r ∷ rs) xs = recs_put n s (r ∷ rs) xs

-- the records that are found are those of the areas
pub recs_sections : (n : ℕ) (os : List (Option Area)) → recs n (sections os) ≡ records_in n os
unfolding sections recs records_in areas_of first_records
recs_sections n [] = refl
recs_sections n (None ∷ os) = recs_sections n os
recs_sections n (Some a ∷ os) =
    let ih = recs_sections n os in
    let here = recs_shown n a.section a.records (sections os) in
    grind (arith, nat_tests)

-- two plans with the same records have the same sections
pub same-sections : (os ns : List (Option Area)) → ((n : ℕ) → records_in n ns ≡ records_in n os) → sections ns ≡ sections os
same-sections os ns h =
    same_lists 0 (sections ns) (sections os) (ascends ns) (ascends os) (all-kept ns) (all-kept os) (λ n. recs_sections n ns ∙ h n ∙ sym (recs_sections n os))
