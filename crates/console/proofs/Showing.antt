-- A word byte by byte, as it can be printed. Assumes nothing.
use Rattle.std.proofs.Common.{◌≡◌, ℕ, ◌+◌, ◌<◌, ◌≤◌, cond, List, [], ◌∷◌, ◌++◌, length, take, get_or, nat_lt, sym, ap, ◌∙◌, arith}
use Rattle.std.specs.Prelude.{codes}
use Rattle.std.specs.List.{flat_map}
use Rattle.std.proofs.lemmas.Grind.{flat_map-append}
use Rattle.std.proofs.lemmas.List.{append-nil, take_all, take_more}
use Rattle.console.specs.Printed.{shown, excerpt}

-- one byte more is shown
pub shown-more : (w : List ℕ) (i : ℕ) → i < length w → flat_map shown (take i w) ++ shown (get_or w i 0) ≡ flat_map shown (take (i + 1) w)
shown-more w i l =
    ap (λ bs. flat_map shown (take i w) ++ bs) (sym (append-nil (shown (get_or w i 0))))
    ∙ sym (flat_map-append shown (take i w) (get_or w i 0 ∷ []))
    ∙ ap (flat_map shown) (sym (take_more w i 0 l))

-- what is printed of a word with more than 32 bytes
pub excerpt-long : (w bs : List ℕ) (i : ℕ) → bs ≡ take 32 w → length bs ≤ i → 32 < length w → flat_map shown (take i bs) ++ codes ".." ≡ excerpt w
excerpt-long w bs i e l m =
    ap (λ cs. flat_map shown cs ++ codes "..") (take_all i bs l ∙ e)
    ∙ ap (λ t. flat_map shown (take 32 w) ++ t) tail
  where
    tail : codes ".." ≡ cond (nat_lt 32 (length w)) (codes "..") []
    tail = grind arith

-- and of another
pub excerpt-short : (w bs : List ℕ) (i : ℕ) → bs ≡ take 32 w → length bs ≤ i → length w ≤ 32 → flat_map shown (take i bs) ≡ excerpt w
excerpt-short w bs i e l m =
    ap (flat_map shown) (take_all i bs l ∙ e) ∙ sym (append-nil (flat_map shown (take 32 w)))
    ∙ ap (λ t. flat_map shown (take 32 w) ++ t) tail
  where
    tail : [] ≡ cond (nat_lt 32 (length w)) (codes "..") []
    tail = grind arith
