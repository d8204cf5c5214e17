-- There is at most one (f + 1)-th largest. Assumes nothing.
use Rattle.std.proofs.Common.{ℕ, ◌<◌, ◌≤◌, cond, ltb, leb, List, [], ◌∷◌, count_by, inl, inr, arith}
use Rattle.std.proofs.lemmas.List.Sums.{sum_by-cons}
use Rattle.std.proofs.lemmas.Bool.{cases_order}
use Rattle.std.proofs.lemmas.Bool.Decides.{nat_tests}
use Rattle.tips.specs.Ranks.{One}

fewer-above : (t u : ℕ) → t < u → (xs : List ℕ) → count_by (λ x. leb u x) xs ≤ count_by (λ x. ltb t x) xs
fewer-above t u l [] = omega arith
fewer-above t u l (x ∷ xs) =
    let one : cond (leb u x) 1 0 ≤ cond (ltb t x) 1 0 = grind (arith, nat_tests) in
    omega (arith, one, fewer-above t u l xs, sum_by-cons (λ y. cond (leb u y) 1 0) x xs, sum_by-cons (λ y. cond (ltb t y) 1 0) x xs)

pub one : One
one f tips t u a b = elim (cases_order t u) [
  | inl e ↦ e
  | inr h ↦ elim h [
    | inl l ↦ absurd (omega (arith, fewer-above t u l tips, b.enough, a.few))
    | inr l ↦ absurd (omega (arith, fewer-above u t l tips, a.enough, b.few))
  ]
]
