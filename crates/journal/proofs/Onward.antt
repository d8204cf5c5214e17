-- Going through the records from place to place answers each of them once, in order. Assumes nothing.
use Rattle.std.proofs.Common.{◌≡◌, ℕ, suc, ◌<◌, ◌≤◌, true, false, cond, List, [], ◌∷◌, ◌++◌, length, Some, None, Option, sym, refl, ap, ◌∙◌, subst, inl, inr, arith}
use Rattle.std.proofs.lemmas.Bool.{cond-true, cond-false, cases_Bool}
use Rattle.std.proofs.lemmas.Bool.Decides.{nat_tests}
use Rattle.journal.specs.Log.{Bytes, Section, Log, Placed, all_of, numbered, reading, All, Ascends, Formed}
use Rattle.journal.specs.Places.{past, past_place, beyond, first_of}
use Rattle.journal.specs.declared.places.Place.{Place}

-- the place of a record
abbrev pub place : Placed → Place
place x = record { section = x.section; number = x.number }

-- each record stands past all before it
unfoldable Up : List Placed → Type 0
Up [] = Unit {0}
Up (x ∷ xs) = All (λ y. past x.section x.number y ≡ true) xs × Up xs

past-itself : (x : Placed) → past x.section x.number x ≡ false
unfolding past
past-itself x = grind (arith, nat_tests)

past_back : (x y : Placed) → past x.section x.number y ≡ true → past y.section y.number x ≡ false
unfolding past
past_back x y p = grind (arith, nat_tests)

past_later : (s n : ℕ) (x : Placed) → s < x.section → past s n x ≡ true
unfolding past
past_later s n x h = grind (arith, nat_tests)

past_higher : (s n : ℕ) (x : Placed) → s ≡ x.section → n < x.number → past s n x ≡ true
unfolding past
past_higher s n x e h = grind (arith, nat_tests)

all_map : (P Q : Placed → Type 0) → ((x : Placed) → P x → Q x) → (xs : List Placed) → All P xs → All Q xs
unfolding All
all_map P Q h [] a = tt
all_map P Q h (x ∷ xs) (p, a) = (h x p, all_map P Q h xs a)

all_append : (P : Placed → Type 0) (xs ys : List Placed) → All P xs → All P ys → All P (xs ++ ys)
unfolding All
all_append P [] ys a b = b
all_append P (x ∷ xs) ys (p, a) b = (p, all_append P xs ys a b)

-- the records of one section
record Of (s n : ℕ) (x : Placed) : Type 0 where
  same : s ≡ x.section
  from : n ≤ x.number

numbered_of : (s n : ℕ) (bs : List Bytes) → All (Of s n) (numbered s n bs)
unfolding All numbered
numbered_of s n [] = tt
numbered_of s n (b ∷ bs) =
    (record { same = refl; from = omega arith }, all_map (Of s (suc n)) (Of s n) (λ x o. record { same = o.same; from = omega (arith, o.from) }) (numbered s (suc n) bs) (numbered_of s (suc n) bs))

numbered_up : (s n : ℕ) (bs : List Bytes) (rest : List Placed) → All (λ y. s < y.section) rest → Up rest → Up (numbered s n bs ++ rest)
unfolding Up numbered
numbered_up s n [] rest a u = u
numbered_up s n (b ∷ bs) rest a u = (
  all_append _ (numbered s (suc n) bs) rest (all_map (Of s (suc n)) _ (λ x o. past_higher s n x o.same o.from) (numbered s (suc n) bs) (numbered_of s (suc n) bs)) (all_map _ _ (λ x h. past_later s n x h) rest a),
  numbered_up s (suc n) bs rest a u,
)

reading-from : (n : ℕ) (xs : List Section) → Ascends n xs → All (λ y. n ≤ y.section) (reading xs)
unfolding Ascends reading
reading-from n [] a = unfold All in tt
reading-from n (x ∷ xs) (h, a) =
    all_append _ (numbered x.number 0 (all_of x)) (reading xs)
    (all_map (Of x.number 0) (λ y. n ≤ y.section) (λ y o. omega (arith, h, o.same)) (numbered x.number 0 (all_of x)) (numbered_of x.number 0 (all_of x)))
    (all_map (λ y. suc x.number ≤ y.section) (λ y. n ≤ y.section) (λ y q. omega (arith, h, q)) (reading xs) (reading-from (suc x.number) xs a))

reading_up : (n : ℕ) (xs : List Section) → Ascends n xs → Up (reading xs)
unfolding Ascends reading
reading_up n [] a = unfold Up in tt
reading_up n (x ∷ xs) (h, a) = numbered_up x.number 0 (all_of x) (reading xs) (reading-from (suc x.number) xs a) (reading_up (suc x.number) xs a)

all_past : (P : Placed → Type 0) (s n : ℕ) (l : List Placed) → All P l → All P (past_place s n l)
unfolding All past_place
all_past P s n [] a = tt
all_past P s n (x ∷ xs) (p, a) = elim (past s n x) as (λ b. All P (cond b (x ∷ xs) (past_place s n xs))) [ true ↦ (p, a) | false ↦ all_past P s n xs a ]

past_all : (x : Placed) (l : List Placed) → All (λ y. past x.section x.number y ≡ true) l → past_place x.section x.number l ≡ l
unfolding All past_place
past_all x [] a = refl
past_all x (y ∷ ys) (p, a) = cond-true _ _ _ p

all_head : (P : Placed → Type 0) (x : Placed) (xs : List Placed) → All P (x ∷ xs) → P x
unfolding All
all_head P x xs (p, a) = p

past_on : (s n : ℕ) (l : List Placed) (x : Placed) (rest : List Placed) → Up l → past_place s n l ≡ x ∷ rest → past_place x.section x.number l ≡ rest
unfolding Up past_place
past_on s n [] x rest u e = let z : ◌≡◌ {A = ℕ} 0 1 = cc in absurd (omega arith)
past_on s n (y ∷ ys) x rest (l, u) e =
    elim (cases_Bool (past s n y)) [
      | inl p ↦
          let q : y ∷ ys ≡ x ∷ rest = sym (cond-true _ _ _ p) ∙ e in
          let head : y ≡ x = cc in
          let tail : ys ≡ rest = cc in
          ap (λ (z : Placed). past_place z.section z.number (y ∷ ys)) (sym head) ∙ cond-false _ _ _ (past-itself y) ∙ past_all y ys l ∙ tail
      | inr p ↦
          let q : past_place s n ys ≡ x ∷ rest = sym (cond-false _ _ _ p) ∙ e in
          let m : past y.section y.number x ≡ true = all_head _ x rest (subst (All (λ z. past y.section y.number z ≡ true)) q (all_past _ s n ys l)) in
          cond-false _ _ _ (past_back y x m) ∙ past_on s n ys x rest u q
    ]

first_on : (l : List Placed) (x : Placed) (rest : List Placed) → Up l → l ≡ x ∷ rest → past_place x.section x.number l ≡ rest
unfolding Up past_place
first_on [] x rest u e = let z : ◌≡◌ {A = ℕ} 0 1 = cc in absurd (omega arith)
first_on (y ∷ ys) x rest (l, u) e =
    let head : y ≡ x = cc in
    let tail : ys ≡ rest = cc in
    ap (λ (z : Placed). past_place z.section z.number (y ∷ ys)) (sym head) ∙ cond-false _ _ _ (past-itself y) ∙ past_all y ys l ∙ tail

beyond_on : (a : Option Place) (l : List Placed) (x : Placed) (rest : List Placed) → Up l → beyond a l ≡ x ∷ rest → beyond (Some (place x)) l ≡ rest
unfolding beyond
beyond_on None l x rest u e = first_on l x rest u e
beyond_on (Some p) l x rest u e = past_on p.section p.number l x rest u e

-- a record was answered: it is the first of what is still to be read, and past its place comes the rest
pub record Step (a : Option Place) (x : Placed) (l : List Placed) : Type 0 where
  pub rest : List Placed
  pub split : beyond a l ≡ x ∷ rest
  pub onward : beyond (Some (place x)) l ≡ rest
  pub less : length (beyond (Some (place x)) l) < length (beyond a l)

first_split : (l : List Placed) (x : Placed) → Some x ≡ first_of l → (rest : List Placed) × (l ≡ x ∷ rest)
unfolding first_of
first_split [] x e = let z : ◌≡◌ {A = ℕ} 0 1 = cc in absurd (omega arith)
first_split (y ∷ ys) x e = let h : y ≡ x = cc in (ys, ap (λ (z : Placed). z ∷ ys) h)

pub step : (a : Option Place) (x : Placed) (v : Log) → Formed v → Some x ≡ first_of (beyond a (reading v.sections)) → Step a x (reading v.sections)
step a x v f e =
    let s = first_split (beyond a (reading v.sections)) x e in
    let o = beyond_on a (reading v.sections) x s.0 (reading_up 0 v.sections f.ascends) s.1 in
    record { rest = s.0; split = s.1; onward = o; less = omega (arith, ap (λ (l : List Placed). length l) o, ap (λ (l : List Placed). length l) s.1) }

-- nothing was answered: nothing is left to be read
pub done : (l : List Placed) → None ≡ first_of l → l ≡ []
unfolding first_of
done [] e = refl
done (x ∷ xs) e = let z : ◌≡◌ {A = ℕ} 0 1 = cc in absurd (omega arith)
