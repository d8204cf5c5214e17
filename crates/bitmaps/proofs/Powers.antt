-- Powers of two. Assumes nothing.
use Rattle.std.proofs.Common.{◌≡◌, ℕ, ◌+◌, ◌^◌, ◌≤◌, ap, ◌∙◌, ⊎_elim, add-one, arith}
use native.Mathlib.Nat.{two-pow-succ}
use lib.Pow.{pow-lt}
use Rattle.std.proofs.lemmas.Bool.{cases_order}

-- the next power is twice this one
pub double : (s : ℕ) → 2 ^ (s + 1) ≡ 2 ^ s + 2 ^ s
double s = ap (λ (k : ℕ). 2 ^ k) (add-one s) ∙ two-pow-succ s

pub pow-le : (i j : ℕ) → i ≤ j → 2 ^ i ≤ 2 ^ j
pow-le i j le =
    ⊎_elim (λ same. let e = ap (λ (k : ℕ). 2 ^ k) same in omega arith)
    (λ apart. ⊎_elim (λ below. let h = pow-lt below in omega (arith, h)) (λ above. absurd (omega arith)) apart)
    (cases_order i j)
