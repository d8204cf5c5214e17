-- The test for enough signers, and what it says. Assumes nothing.
use Rattle.std.proofs.Common.{◌≡◌, ℕ, suc, ◌<◌, ◌≤◌, true, ◌&&◌, ltb, leb, List, [], ◌∷◌, length, All, refl, arith}
use Rattle.std.proofs.lemmas.Bool.{and_parts, and_from, leb-true, ltb-true, le-leb, lt-ltb}
use Rattle.std.proofs.lemmas.List.Elements.{All-nil, All-cons, All-head, All-tail}
use Rattle.provider.specs.Laws.{Ascending, Enough}
use Rattle.tips.specs.Faults.{quorum}
use Rattle.bitmaps.specs.Maps.{rising, enough, all_below}

ascends : (next n : ℕ) (is : List ℕ) → rising next n is ≡ true → Ascending ltb is
ascends next n [] up = tt
ascends next n (i ∷ []) up = tt
ascends next n (i ∷ j ∷ js) up =
    let parts = and_parts (leb next i) (ltb i n && rising (suc i) n (j ∷ js)) up in
    let more = and_parts (ltb i n) (rising (suc i) n (j ∷ js)) parts.1 in
    let first = and_parts (leb (suc i) j) (ltb j n && rising (suc j) n js) more.1 in
    (lt-ltb i j (leb-true (suc i) j first.0), ascends (suc i) n (j ∷ js) more.1)

each_below : (next n : ℕ) (is : List ℕ) → rising next n is ≡ true → All (λ i. i < n) is
each_below next n [] up = All-nil (λ (i : ℕ). i < n)
each_below next n (i ∷ is) up =
    let parts = and_parts (leb next i) (ltb i n && rising (suc i) n is) up in
    let more = and_parts (ltb i n) (rising (suc i) n is) parts.1 in
    All-cons (λ (j : ℕ). j < n) i is (ltb-true i n more.0) (each_below (suc i) n is more.1)

pub all-below : (next n : ℕ) (is : List ℕ) → rising next n is ≡ true → all_below n is ≡ true
all-below next n [] up = refl
all-below next n (i ∷ is) up =
    let parts = and_parts (leb next i) (ltb i n && rising (suc i) n is) up in
    let more = and_parts (ltb i n) (rising (suc i) n is) parts.1 in
    and_from (ltb i n) (all_below n is) more.0 (all-below (suc i) n is more.1)

rises : (next n i : ℕ) (is : List ℕ) → next ≤ i → Ascending ltb (i ∷ is) → All (λ j. j < n) (i ∷ is) → rising next n (i ∷ is) ≡ true
rises next n i [] from up below =
    and_from (leb next i) (ltb i n && true) (le-leb next i from) (and_from (ltb i n) true (lt-ltb i n (All-head (λ (j : ℕ). j < n) i [] below)) refl)
rises next n i (j ∷ js) from up below =
    and_from (leb next i) (ltb i n && rising (suc i) n (j ∷ js)) (le-leb next i from)
    (and_from (ltb i n) (rising (suc i) n (j ∷ js)) (lt-ltb i n (All-head (λ (x : ℕ). x < n) i (j ∷ js) below))
    (rises (suc i) n j js (ltb-true i j up.0) up.1 (All-tail (λ (x : ℕ). x < n) i (j ∷ js) below)))

rises_all : (n : ℕ) (is : List ℕ) → Ascending ltb is → All (λ j. j < n) is → rising 0 n is ≡ true
rises_all n [] up below = refl
rises_all n (i ∷ is) up below = rises 0 n i is (omega arith) up below

pub says-enough : (n : ℕ) (is : List ℕ) → enough n is ≡ true → Enough n is
says-enough n is e =
    let parts = and_parts (leb (quorum n) (length is)) (rising 0 n is) e in
    record { quorate = leb-true (quorum n) (length is) parts.0; ascending = ascends 0 n is parts.1; below = each_below 0 n is parts.1 }

pub tells-enough : (n : ℕ) (is : List ℕ) → Enough n is → enough n is ≡ true
tells-enough n is e =
    and_from (leb (quorum n) (length is)) (rising 0 n is) (le-leb (quorum n) (length is) e.quorate) (rises_all n is e.ascending e.below)
