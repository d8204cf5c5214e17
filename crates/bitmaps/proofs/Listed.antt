-- The signers of a map, one bit at a time. Assumes nothing.
use Rattle.std.proofs.Common.{◌≡◌, ℕ, suc, ◌+◌, ◌-◌, ◌<◌, ◌≤◌, true, false, cond, List, [], ◌∷◌, ◌++◌, sym, refl, ap, ◌∙◌, add-one, arith}
use Rattle.std.proofs.lemmas.List.{append-nil, append_assoc}
use Rattle.std.proofs.lemmas.Bool.{cond-true, cond-false}
use Rattle.bitmaps.specs.Maps.{bit, standing_from, standing}

-- the signers from i on, by the bit there
step : (m i : ℕ) → i < 16 → standing_from (16 - i) i m ≡ cond (bit i m) (i ∷ []) [] ++ standing_from (16 - (i + 1)) (i + 1) m
unfolding standing_from
step m i within =
    let count : 16 - i ≡ suc (16 - (i + 1)) = omega arith in
    ap (λ (k : ℕ). standing_from k i m) count
    ∙ ap (λ (j : ℕ). cond (bit i m) (i ∷ []) [] ++ standing_from (16 - (i + 1)) j m) (sym (add-one i))

pub listed_more : (m i : ℕ) (list w : List ℕ) → i < 16 → bit i m ≡ true → list ++ standing_from (16 - i) i m ≡ w → (list ++ (i ∷ [])) ++ standing_from (16 - (i + 1)) (i + 1) m ≡ w
listed_more m i list w within stands whole =
    let rest : List ℕ = standing_from (16 - (i + 1)) (i + 1) m in
    append_assoc list (i ∷ []) rest
    ∙ ap (λ (back : List ℕ). list ++ (back ++ rest)) (sym (cond-true (bit i m) (i ∷ []) [] stands))
    ∙ ap (λ (back : List ℕ). list ++ back) (sym (step m i within))
    ∙ whole

pub listed_same : (m i : ℕ) (list w : List ℕ) → i < 16 → bit i m ≡ false → list ++ standing_from (16 - i) i m ≡ w → list ++ standing_from (16 - (i + 1)) (i + 1) m ≡ w
listed_same m i list w within falls whole =
    let rest : List ℕ = standing_from (16 - (i + 1)) (i + 1) m in
    ap (λ (back : List ℕ). list ++ (back ++ rest)) (sym (cond-false (bit i m) (i ∷ []) [] falls))
    ∙ ap (λ (back : List ℕ). list ++ back) (sym (step m i within))
    ∙ whole

pub listed-all : (m i : ℕ) (list w : List ℕ) → 16 ≤ i → list ++ standing_from (16 - i) i m ≡ w → list ≡ w
unfolding standing_from
listed-all m i list w past whole =
    let none : 16 - i ≡ 0 = omega arith in
    sym (append-nil list) ∙ ap (λ (k : ℕ). list ++ standing_from k i m) (sym none) ∙ whole

pub listed_none : (m : ℕ) → standing_from 16 0 m ≡ standing m
unfolding standing
listed_none m = refl
