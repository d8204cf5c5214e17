-- The order by bytes is total. Assumes nothing.
use Rattle.std.specs.Prelude.{◌≡◌, ℕ, Bool, true, false, ltb, List, [], ◌∷◌, Some, refl}
use Rattle.std.proofs.Common.{ap, ◌∙◌, arith}
use Rattle.std.proofs.lemmas.Bool.Decides.{nat_tests}
use Rattle.std.specs.declared.cmp.Ordering.{Ordering}
use Rattle.std.specs.declared.cmp.Ordering.TheVariants.{Less, Equal, Greater}
use Rattle.std.specs.Ordering.{is_lt, nat_cmp, is_some_and, partial_ordering_then}
use Rattle.std.specs.Cmp.Lexicographic.{slice_cmp, slice_partial_cmp, lists_agrees}
use Rattle.table.specs.Order.{Total}
use Rattle.types.specs.Texts.{of_same_bytes}
use Rattle.table.specs.Keys.{lower, earlier}

never : (xs : List ℕ) → lower xs xs ≡ false
never [] = refl
never (x ∷ xs) = let e : ltb x x ≡ false = grind (arith, nat_tests) in rw e (never xs)

trans : (xs ys zs : List ℕ) → lower xs ys ≡ true → lower ys zs ≡ true → lower xs zs ≡ true
trans [] [] zs p q = absurd (let z : ◌≡◌ {A = ℕ} 0 1 = cc in omega arith)
trans [] (y ∷ ys) [] p q = absurd (let z : ◌≡◌ {A = ℕ} 0 1 = cc in omega arith)
trans [] (y ∷ ys) (z ∷ zs) p q = refl
trans (x ∷ xs) [] zs p q = absurd (let z : ◌≡◌ {A = ℕ} 0 1 = cc in omega arith)
trans (x ∷ xs) (y ∷ ys) [] p q = absurd (let z : ◌≡◌ {A = ℕ} 0 1 = cc in omega arith)
trans (x ∷ xs) (y ∷ ys) (z ∷ zs) p q = go (lower xs ys) refl (lower ys zs) refl (trans xs ys zs)
  where
    go : (a : Bool) → lower xs ys ≡ a → (b : Bool) → lower ys zs ≡ b → (lower xs ys ≡ true → lower ys zs ≡ true → lower xs zs ≡ true) → lower (x ∷ xs) (z ∷ zs) ≡ true
    go true e true f more = let r = more e f in grind (arith, nat_tests)
    go true e false f more = grind (arith, nat_tests)
    go false e b f more = grind (arith, nat_tests)

tied : (xs ys : List ℕ) → lower xs ys ≡ false → lower ys xs ≡ false → xs ≡ ys
tied [] [] p q = refl
tied [] (y ∷ ys) p q = absurd (let z : ◌≡◌ {A = ℕ} 0 1 = cc in omega arith)
tied (x ∷ xs) [] p q = absurd (let z : ◌≡◌ {A = ℕ} 0 1 = cc in omega arith)
tied (x ∷ xs) (y ∷ ys) p q =
    let e : x ≡ y = grind (arith, nat_tests) in
    let p' : lower xs ys ≡ false = grind (arith, nat_tests) in
    let q' : lower ys xs ≡ false = grind (arith, nat_tests) in
    ap (λ w. w ∷ xs) e ∙ ap (λ l. y ∷ l) (tied xs ys p' q')

pub lower_total : Total lower
lower_total = record { never = never; trans = trans; tied = tied }

-- the derived order of byte lists is the order by bytes
lower_derived : (xs ys : List ℕ) → is_lt (slice_cmp nat_cmp xs ys) ≡ lower xs ys
lower_derived [] [] = refl
lower_derived [] (y ∷ ys) = refl
lower_derived (x ∷ xs) [] = refl
lower_derived (x ∷ xs) (y ∷ ys) = go (ltb x y) refl (ltb y x) refl (lower_derived xs ys)
  where
    go : (a : Bool) → ltb x y ≡ a → (b : Bool) → ltb y x ≡ b → is_lt (slice_cmp nat_cmp xs ys) ≡ lower xs ys → is_lt (slice_cmp nat_cmp (x ∷ xs) (y ∷ ys)) ≡ lower (x ∷ xs) (y ∷ ys)
    go true e b f more = grind (arith, nat_tests)
    go false e true f more = grind (arith, nat_tests)
    go false e false f more = grind (arith, nat_tests)

-- so is the order of byte strings
pub earlier_total : {K : Type 0} {N : ℕ} → Total (earlier {K = K} {N = N})
earlier_total = record {
  never = λ x. lower_total.never x.bytes;
  trans = λ x y z. lower_total.trans x.bytes y.bytes z.bytes;
  tied = λ x y p q. of_same_bytes x y (lower_total.tied x.bytes y.bytes p q);
}

-- the derived `<` of byte strings is this order
pub earlier_derived : (xs ys : List ℕ) → is_some_and is_lt (partial_ordering_then (slice_partial_cmp (λ x y. Some (nat_cmp x y)) xs ys) (Some Equal)) ≡ lower xs ys
earlier_derived xs ys = ap (λ o. is_some_and is_lt (partial_ordering_then o (Some Equal))) (lists_agrees (λ x y. refl) xs ys) ∙ last (slice_cmp nat_cmp xs ys) ∙ lower_derived xs ys
  where
    last : (o : Ordering) → is_some_and is_lt (partial_ordering_then (Some o) (Some Equal)) ≡ is_lt o
    last Less = refl
    last Equal = refl
    last Greater = refl
