-- Small words on lists. Assumes nothing.
use Rattle.std.specs.Prelude.{ℕ, zero, suc, ◌+◌, max, Bool, false, cond, ◌||◌, List, [], ◌∷◌, Some, None, Option, nat_eq}

-- the elements that pass, the first of them, and whether there is one
abbrev pub those : {A : Type 0} → (A → Bool) → List A → List A
those p [] = []
those p (x ∷ xs) = cond (p x) (x ∷ those p xs) (those p xs)

abbrev pub first : {A : Type 0} → (A → Bool) → List A → Option A
first p [] = None
first p (x ∷ xs) = cond (p x) (Some x) (first p xs)

abbrev pub any : {A : Type 0} → (A → Bool) → List A → Bool
any p [] = false
any p (x ∷ xs) = p x || any p xs

-- by cases
abbrev pub opt : {A B : Type 0} → Option A → B → (A → B) → B
opt None n f = n
opt (Some x) n f = f x

abbrev pub front : {A B : Type 0} → List A → B → (A → List A → B) → B
front [] n f = n
front (x ∷ xs) n f = f x xs

abbrev pub among : ℕ → List ℕ → Bool
among n xs = any (nat_eq n) xs

-- the highest of n and what f gives
abbrev pub highest : {A : Type 0} → (A → ℕ) → ℕ → List A → ℕ
highest f n [] = n
highest f n (x ∷ xs) = max (f x) (highest f n xs)

-- n numbers from a on
abbrev pub from : ℕ → ℕ → List ℕ
from a zero = []
from a (suc n) = a ∷ from (a + 1) n

-- x at its place in a list that ascends by `below`, in the place of one that is neither below nor above
abbrev pub placed : {A : Type 0} → (A → A → Bool) → A → List A → List A
placed below x [] = x ∷ []
placed below x (y ∷ ys) = cond (below x y) (x ∷ y ∷ ys) (cond (below y x) (y ∷ placed below x ys) (x ∷ ys))
