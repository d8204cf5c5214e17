-- What a cut leaves: still in order, and some of what was there. Assumes nothing.
use Rattle.std.proofs.Common.{ℕ, zero, suc, ◌+◌, ◌≤◌, List, [], ◌∷◌, ◌++◌, length, take, sym, refl, ◌∙◌, subst, inl, inr, arith}
use lib.Seq.{take-append-add}
use Rattle.journal.specs.Log.{Bytes, Section, all_of, Ascends}
use Rattle.journal.specs.Cuts.{SomeOf, Left, kept, AllLeft}

pub ascends-lower : (m n : ℕ) (xs : List Section) → m ≤ n → Ascends n xs → Ascends m xs
unfolding Ascends
ascends-lower m n [] h a = tt
ascends-lower m n (x ∷ xs) h (b, a) = (omega (arith, h, b), a)

kept-ascends : (n s : ℕ) (ys : List Bytes) (rest : List Section) → n ≤ s → Ascends (suc s) rest → Ascends n (kept s ys rest)
unfolding kept Ascends
kept-ascends n s [] rest h a = ascends-lower n (suc s) rest (omega arith) a
kept-ascends n s (y ∷ ys) rest h a = (h, a)

-- the sections that are left are in ascending order
pub left-ascends : (below n : ℕ) (xs ws : List Section) → Ascends n xs → AllLeft below xs ws → Ascends n ws
unfolding AllLeft Ascends
left-ascends below n [] ws a e = subst (Ascends n) (sym e) tt
left-ascends below n (x ∷ xs) ws (h, a) (ys, l, (rest, q, e)) =
    subst (Ascends n) (sym e) (kept-ascends n x.number ys rest h (left-ascends below (suc x.number) xs rest a q))

none_of : (xs : List Bytes) → SomeOf xs []
unfolding SomeOf
none_of [] = refl
none_of (x ∷ xs) = inl (none_of xs)

some-front : (k : ℕ) (xs : List Bytes) → SomeOf xs (take k xs)
unfolding SomeOf
some-front zero xs = none_of xs
some-front (suc k) [] = refl
some-front (suc k) (x ∷ xs) = inr (take k xs, refl, some-front k xs)

-- what is left of a section is some of its records, in order
pub left-some : (below : ℕ) (x : Section) (ys : List Bytes) → Left below x ys → SomeOf (all_of x) ys
unfolding Left all_of
left-some below x ys (inl (k, e)) = subst (SomeOf (x.durable ++ x.loose)) (take-append-add x.durable x.loose k ∙ sym e) (some-front (length x.durable + k) (x.durable ++ x.loose))
left-some below x ys (inr (h, s)) = s
