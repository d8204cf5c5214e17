-- How the records of an area follow one another. Assumes nothing.
use Rattle.std.proofs.Common.{◌≡◌, ℕ, zero, suc, ◌+◌, ◌-◌, ◌*◌, ◌<◌, ◌≤◌, true, false, ◌⊎◌, List, [], ◌∷◌, ◌++◌, length, get_or, take, drop, sym, refl, ap, ◌∙◌, inl, inr, arith}
use Rattle.std.proofs.lemmas.List.{length-take-le, length-drop, get_or-drop, get_or_past, take_rest, drop-drop}
use Rattle.std.proofs.lemmas.Bool.{and_from, and_parts, and_left, eq-eqb, ne_eqb, eqb-true, le-leb, leb-true, cond-true, cond-false, cases_Bool, cases_eq, cases_lt}
use Rattle.area.specs.Area.{size, holds, body, records_by, records_at, extent, records_of, end_of}

-- a record's length from its two bytes
pub size_is : (bs : List ℕ) (at : ℕ) → size bs at ≡ get_or bs (at + 1) 0 * 256 + get_or bs (at + 2) 0
unfolding size
size_is bs at =
    let z : at + 1 + 0 ≡ at + 1 = omega arith in
    let t : at + 1 + 1 ≡ at + 2 = omega arith in
    let a = get_or-drop (at + 1) bs 0 0 ∙ ap (λ k. get_or bs k 0) z in
    let b = get_or-drop (at + 1) bs 1 0 ∙ ap (λ k. get_or bs k 0) t in
    ap (λ x. x * 256 + get_or (drop (at + 1) bs) 1 0) a ∙ ap (λ x. get_or bs (at + 1) 0 * 256 + x) b

-- a whole record, from its three tests, and back

pub holds-from : (bs : List ℕ) (at : ℕ) → get_or bs at 0 ≡ 1 → size bs at ≤ 1068 → at + 3 + size bs at ≤ length bs → holds bs at ≡ true
unfolding holds
holds-from bs at m s l =
    and_from _ _ (eq-eqb _ _ m) (and_from _ _ (le-leb _ _ s) (le-leb _ _ l))

pub record Whole (bs : List ℕ) (at : ℕ) : Type 0 where
  pub mark : get_or bs at 0 ≡ 1
  pub short : size bs at ≤ 1068
  pub inside : at + 3 + size bs at ≤ length bs

pub whole_from : (bs : List ℕ) (at : ℕ) → holds bs at ≡ true → Whole bs at
unfolding holds
whole_from bs at h =
    let p = and_parts _ _ h in
    let q = and_parts _ _ p.1 in
    record { mark = eqb-true _ _ p.0; short = leb-true _ _ q.0; inside = leb-true _ _ q.1 }

pub none_by_mark : (bs : List ℕ) (at : ℕ) → (get_or bs at 0 ≡ 1 → ⊥) → holds bs at ≡ false
unfolding holds
none_by_mark bs at m = and_left _ _ (ne_eqb _ _ m)

-- a byte that is not 0 lies inside
pub inside_by_mark : (bs : List ℕ) (at : ℕ) → get_or bs at 0 ≡ 1 → at < length bs
inside_by_mark bs at m = go (cases_lt at (length bs))
  where
    go : (at < length bs) ⊎ (length bs ≤ at) → at < length bs
    go (inl h) = h
    go (inr h) = let z = get_or_past bs at 0 h in omega arith

-- a record by what stands from its mark on
module _ (bs ts : List ℕ) (at : ℕ) (from : ts ≡ take (length bs - at) (drop at bs)) where
  from-drop : ts ≡ drop at bs
  from-drop = from ∙ take_rest bs at

  from-byte : (i : ℕ) → get_or bs (at + i) 0 ≡ get_or ts i 0
  from-byte i = sym (ap (λ l. get_or l i 0) from-drop ∙ get_or-drop at bs i 0)

  pub from-size : size bs at ≡ get_or ts 1 0 * 256 + get_or ts 2 0
  from-size = omega (arith, size_is bs at, from-byte 1, from-byte 2)

  pub from-mark : get_or bs at 0 ≡ get_or ts 0 0
  from-mark = let z : at + 0 ≡ at = omega arith in ap (λ i. get_or bs i 0) (sym z) ∙ from-byte 0

  pub from-rest : take (length ts - 3) (drop 3 ts) ≡ drop (at + 3) bs
  from-rest = take_rest ts 3 ∙ ap (drop 3) from-drop ∙ drop-drop 3 at bs

-- the body of a whole record is as long as its length says
pub length-body : (bs : List ℕ) (at : ℕ) → holds bs at ≡ true → length (body bs at) ≡ size bs at
unfolding body
length-body bs at h =
    let w = whole_from bs at h in
    length-take-le (size bs at) (drop (at + 3) bs) (simp length-drop (omega (arith, w.inside)))

-- one step of the walk

pub by_more : (most : ℕ) (bs : List ℕ) (at : ℕ) → holds bs at ≡ true → records_by (suc most) bs at ≡ body bs at ∷ records_by most bs (at + 3 + size bs at)
unfolding records_by
by_more most bs at h = cond-true (holds bs at) _ _ h

pub by_none : (most : ℕ) (bs : List ℕ) (at : ℕ) → holds bs at ≡ false → records_by most bs at ≡ []
unfolding records_by
by_none zero bs at h = refl
by_none (suc most) bs at h = cond-false (holds bs at) _ _ h

-- how many are looked for makes no difference, once it is enough
pub by_enough : (f g : ℕ) (bs : List ℕ) (at : ℕ) → length bs ≤ f + at → length bs ≤ g + at → records_by f bs at ≡ records_by g bs at
by_enough zero g bs at p q = go (cases_Bool (holds bs at))
  where
    go : (holds bs at ≡ true) ⊎ (holds bs at ≡ false) → records_by zero bs at ≡ records_by g bs at
    go (inl h) = let w = whole_from bs at h in absurd (omega (arith, w.inside))
    go (inr h) = by_none zero bs at h ∙ sym (by_none g bs at h)
by_enough (suc f) zero bs at p q = go (cases_Bool (holds bs at))
  where
    go : (holds bs at ≡ true) ⊎ (holds bs at ≡ false) → records_by (suc f) bs at ≡ records_by zero bs at
    go (inl h) = let w = whole_from bs at h in absurd (omega (arith, w.inside))
    go (inr h) = by_none (suc f) bs at h ∙ sym (by_none zero bs at h)
by_enough (suc f) (suc g) bs at p q = go (cases_Bool (holds bs at)) (by_enough f g bs (at + 3 + size bs at) (omega arith) (omega arith))
  where
    go : (holds bs at ≡ true) ⊎ (holds bs at ≡ false) → records_by f bs (at + 3 + size bs at) ≡ records_by g bs (at + 3 + size bs at) → records_by (suc f) bs at ≡ records_by (suc g) bs at
    go (inl h) e = by_more f bs at h ∙ ap (λ rs. body bs at ∷ rs) e ∙ sym (by_more g bs at h)
    go (inr h) e = by_none (suc f) bs at h ∙ sym (by_none (suc g) bs at h)

pub at_more : (bs : List ℕ) (at : ℕ) → holds bs at ≡ true → records_at bs at ≡ body bs at ∷ records_at bs (at + 3 + size bs at)
unfolding records_at
at_more bs at h =
    let l : length bs ≤ suc (length bs) + at = omega arith in
    by_enough (length bs) (suc (length bs)) bs at (omega arith) l ∙ by_more (length bs) bs at h

pub at_none : (bs : List ℕ) (at : ℕ) → holds bs at ≡ false → records_at bs at ≡ []
unfolding records_at
at_none bs at h = by_none (length bs) bs at h

-- no record stands at the end of the bytes
pub past_end : (bs : List ℕ) → records_at bs (length bs) ≡ []
past_end bs = at_none bs (length bs) (none_by_mark bs (length bs) (λ m. let i = inside_by_mark bs (length bs) m in absurd (omega arith)))

-- a body, and the place behind it

pub body_inside : (bs : List ℕ) (at : ℕ) → holds bs at ≡ true → at + 3 + length (body bs at) ≤ length bs
body_inside bs at h = let w = whole_from bs at h in let l = length-body bs at h in let i = w.inside in omega arith

pub at_next : (bs b : List ℕ) (at next : ℕ) → holds bs at ≡ true → b ≡ body bs at → next ≡ at + (3 + length b) → records_at bs at ≡ b ∷ records_at bs next
at_next bs b at next h e n =
    let l = length-body bs at h in
    let z : next ≡ at + 3 + size bs at = n ∙ ap (λ (x : List ℕ). at + (3 + length x)) e ∙ omega arith in
    at_more bs at h ∙ ap (λ r. r ∷ records_at bs (at + 3 + size bs at)) (sym e) ∙ ap (λ m. b ∷ records_at bs m) (sym z)

-- the records of an area whose mark is 1, and of another

pub of_used : (bs : List ℕ) → get_or bs 0 0 ≡ 1 → records_of bs ≡ records_at bs 9
unfolding records_of
of_used bs m = cond-true _ _ _ (eq-eqb _ _ m)

pub of_other : (bs : List ℕ) → (get_or bs 0 0 ≡ 1 → ⊥) → records_of bs ≡ []
unfolding records_of
of_other bs m = cond-false _ _ _ (ne_eqb _ _ m)

-- what a walk has passed and what is left of it make up the whole
pub extent-more : (bs : List ℕ) (at next : ℕ) → holds bs at ≡ true → next ≡ at + 3 + size bs at → at + extent (records_at bs at) ≡ next + extent (records_at bs next)
unfolding extent
extent-more bs at next h e =
    let m = at_more bs at h in
    let l = length-body bs at h in
    simp (m, l, e) (omega arith)

-- there are fewer records than bytes
pub count_by : (most : ℕ) (bs : List ℕ) (at : ℕ) → length (records_by most bs at) ≤ most
unfolding records_by
count_by zero bs at = omega arith
count_by (suc most) bs at = go (cases_Bool (holds bs at)) (count_by most bs (at + 3 + size bs at))
  where
    go : (holds bs at ≡ true) ⊎ (holds bs at ≡ false) → length (records_by most bs (at + 3 + size bs at)) ≤ most → length (records_by (suc most) bs at) ≤ suc most
    go (inl h) l = simp (by_more most bs at h) (omega arith)
    go (inr h) l = simp (by_none (suc most) bs at h) (omega arith)

pub count_at : (bs : List ℕ) (at : ℕ) → length (records_at bs at) ≤ length bs
unfolding records_at
count_at bs at = count_by (length bs) bs at

-- a record by its number

pub extent-append : (rs ts : List (List ℕ)) → extent (rs ++ ts) ≡ extent rs + extent ts
unfolding extent
extent-append [] ts = omega arith
extent-append (r ∷ rs) ts = omega (arith, extent-append rs ts)

-- the end is behind the head
pub end-past : (bs : List ℕ) → 9 ≤ end_of bs
unfolding end_of
end-past bs = omega arith

pub count_of : (bs : List ℕ) → length (records_of bs) ≤ length bs
count_of bs = go (cases_eq (get_or bs 0 0) 1)
  where
    go : (get_or bs 0 0 ≡ 1) ⊎ (get_or bs 0 0 ≡ 1 → ⊥) → length (records_of bs) ≤ length bs
    go (inl m) = simp (of_used bs m) (count_at bs 9)
    go (inr m) = simp (of_other bs m) (omega arith)

-- the records lie inside
inside_none : (bs : List ℕ) (at : ℕ) → holds bs at ≡ false → at ≤ length bs → at + extent (records_at bs at) ≤ length bs
unfolding extent
inside_none bs at h i = simp (at_none bs at h) (omega arith)

inside_by : (f : ℕ) (bs : List ℕ) (at : ℕ) → length bs ≤ f + at → at ≤ length bs → at + extent (records_at bs at) ≤ length bs
inside_by zero bs at l i = go (cases_Bool (holds bs at))
  where
    go : (holds bs at ≡ true) ⊎ (holds bs at ≡ false) → at + extent (records_at bs at) ≤ length bs
    go (inl h) = let w = whole_from bs at h in absurd (omega (arith, w.inside))
    go (inr h) = inside_none bs at h i
inside_by (suc f) bs at l i = go (cases_Bool (holds bs at)) (inside_by f bs (at + 3 + size bs at) (omega arith))
  where
    go : (holds bs at ≡ true) ⊎ (holds bs at ≡ false) → (at + 3 + size bs at ≤ length bs → at + 3 + size bs at + extent (records_at bs (at + 3 + size bs at)) ≤ length bs) → at + extent (records_at bs at) ≤ length bs
    go (inl h) ih = let w = whole_from bs at h in let j = ih w.inside in let x = extent-more bs at (at + 3 + size bs at) h refl in omega arith
    go (inr h) ih = inside_none bs at h i

end_at : (bs : List ℕ) → (length bs < 9) ⊎ (9 ≤ length bs) → 9 + extent (records_at bs 9) ≤ 9 + length bs
unfolding extent
end_at bs (inr h) = let i = inside_by (length bs) bs 9 (omega arith) h in omega arith
end_at bs (inl h) = let n = at_none bs 9 (none_by_mark bs 9 (λ m. let i = inside_by_mark bs 9 m in absurd (omega arith))) in simp n (omega arith)

pub end_inside : (bs : List ℕ) → end_of bs ≤ 9 + length bs
unfolding end_of extent
end_inside bs = go (cases_eq (get_or bs 0 0) 1)
  where
    go : (get_or bs 0 0 ≡ 1) ⊎ (get_or bs 0 0 ≡ 1 → ⊥) → 9 + extent (records_of bs) ≤ 9 + length bs
    go (inl m) = simp (of_used bs m) (end_at bs (cases_lt (length bs) 9))
    go (inr m) = simp (of_other bs m) (omega arith)
