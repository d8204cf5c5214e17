-- The areas of a medium of which one was written. Assumes nothing.
use Rattle.std.proofs.Common.{◌≡◌, ℕ, ◌+◌, ◌-◌, ◌*◌, ◌/◌, ◌<◌, ◌≤◌, ◌⊎◌, List, ◌++◌, length, get_or, take, drop, set, None, sym, ap, ◌∙◌, subst, inl, inr, arith}
use borrow.Rule.Slice.PartMut.{put_mid}
use Rattle.std.proofs.lemmas.List.{length-take-le, length-drop, length-set, length-append, get_or-take, get_or-drop, get_or_append_left, get_or-append_right, get_or-set_same, get_or-set_other, drop-drop, drop_at, take_at, ext_get_or, take-append-drop}
use Rattle.std.proofs.lemmas.Bool.{cases_eq, cases_order}
use Rattle.area.specs.Area.{read}
use Rattle.std.proofs.lemmas.Slice.{drop-put_mid}
use Rattle.areas.specs.Plan.{area_at, rest_of, plan}
use Rattle.areas.proofs.Parts.{length-plan, inside, length-area, get_d_plan}

-- a byte outside of a part that was written
outside : (a k p : ℕ) (xs ys : List ℕ) → a + k ≤ length xs → length ys ≡ k → (p < a) ⊎ (a + k ≤ p) → get_or (put_mid a k xs ys) p 0 ≡ get_or xs p 0
outside a k p xs ys h l (inl q) =
    let t : length (take a xs) ≡ a = length-take-le a xs (omega arith) in
    get_or_append_left (take a xs) (ys ++ drop k (drop a xs)) 0 p (omega arith) ∙ get_or-take a xs p 0 q
outside a k p xs ys h l (inr q) =
    let t : length (take a xs) ≡ a = length-take-le a xs (omega arith) in
    let z : a + k + (p - a - k) ≡ p = omega arith in
    get_or-append_right (take a xs) (ys ++ drop k (drop a xs)) a p 0 t (omega arith)
    ∙ get_or-append_right ys (drop k (drop a xs)) k (p - a) 0 l (omega arith)
    ∙ ap (λ zs. get_or zs (p - a - k) 0) (drop-drop k a xs)
    ∙ get_or-drop (a + k) xs (p - a - k) 0
    ∙ ap (λ j. get_or xs j 0) z

length-written : (a k : ℕ) (xs ys : List ℕ) → a + k ≤ length xs → length ys ≡ k → length (put_mid a k xs ys) ≡ length xs
length-written a k xs ys h l =
    let t : length (take a xs) ≡ a = length-take-le a xs (omega arith) in
    simp (length-append, length-drop, t, l) (omega arith)

-- the area that was written
area-here : (xs ys : List ℕ) (i k : ℕ) → k ≡ 4096 → i * 4096 + 4096 ≤ length xs → length ys ≡ 4096 → area_at i (put_mid (i * 4096) k xs ys) ≡ ys
unfolding area_at
area-here xs ys i k e h l =
    let t : length (take (i * 4096) xs) ≡ i * 4096 = length-take-le (i * 4096) xs (omega arith) in
    ap (take 4096) (drop_at (take (i * 4096) xs) (ys ++ drop k (drop (i * 4096) xs)) (i * 4096) t) ∙ take_at ys (drop k (drop (i * 4096) xs)) 4096 l

-- another
area_there : (xs ys : List ℕ) (i j k : ℕ) → k ≡ 4096 → i * 4096 + 4096 ≤ length xs → j * 4096 + 4096 ≤ length xs → length ys ≡ 4096 → (j ≡ i → ⊥) → area_at j (put_mid (i * 4096) k xs ys) ≡ area_at j xs
unfolding area_at
area_there xs ys i j k e h g l ne =
    let w = length-written (i * 4096) k xs ys (omega arith) (omega arith) in
    let z = put_mid (i * 4096) k xs ys in
    let lz : length (take 4096 (drop (j * 4096) z)) ≡ 4096 = length-take-le 4096 (drop (j * 4096) z) (simp (length-drop, w) (omega arith)) in
    let lx : length (take 4096 (drop (j * 4096) xs)) ≡ 4096 = length-take-le 4096 (drop (j * 4096) xs) (simp length-drop (omega arith)) in
    let side : (o : ℕ) → o < 4096 → (j * 4096 + o < i * 4096) ⊎ (i * 4096 + k ≤ j * 4096 + o) = λ o u. sides i j k o e ne u (cases_order j i) in
    ext_get_or 0 _ _ (lz ∙ sym lx) (λ o u.
    let v : o < 4096 = omega arith in
    get_or-take 4096 (drop (j * 4096) z) o 0 v ∙ get_or-drop (j * 4096) z o 0 ∙ outside (i * 4096) k (j * 4096 + o) xs ys (omega arith) (omega arith) (side o v) ∙ sym (get_or-take 4096 (drop (j * 4096) xs) o 0 v ∙ get_or-drop (j * 4096) xs o 0))
  where
    sides : (i j k o : ℕ) → k ≡ 4096 → (j ≡ i → ⊥) → o < 4096 → (j ≡ i) ⊎ ((j < i) ⊎ (i < j)) → (j * 4096 + o < i * 4096) ⊎ (i * 4096 + k ≤ j * 4096 + o)
    sides i j k o e ne u (inl q) = absurd (ne q)
    sides i j k o e ne u (inr (inl q)) = inl (omega arith)
    sides i j k o e ne u (inr (inr q)) = inr (omega arith)

plan_each : (xs ys : List ℕ) (i k j : ℕ) → k ≡ 4096 → i < length (plan xs) → length ys ≡ 4096 → j < length (plan xs) → j < length (plan (put_mid (i * 4096) k xs ys)) → (j ≡ i) ⊎ (j ≡ i → ⊥) → get_or (plan (put_mid (i * 4096) k xs ys)) j None ≡ get_or (set (plan xs) i (read ys)) j None
plan_each xs ys i k j e h l u v (inl q) =
    let z = put_mid (i * 4096) k xs ys in
    get_d_plan z j v ∙ ap (λ m. read (area_at m z)) q ∙ ap read (area-here xs ys i k e (inside xs i h) l) ∙ sym (ap (λ m. get_or (set (plan xs) i (read ys)) m None) q ∙ get_or-set_same (plan xs) i (read ys) None h)
plan_each xs ys i k j e h l u v (inr q) =
    get_d_plan (put_mid (i * 4096) k xs ys) j v ∙ ap read (area_there xs ys i j k e (inside xs i h) (inside xs j u) l q) ∙ sym (get_or-set_other (plan xs) i j (read ys) None q ∙ get_d_plan xs j u)

-- the plan of a medium of which one area was written
plan-written : (xs ys : List ℕ) (i k : ℕ) → k ≡ 4096 → i < length (plan xs) → length ys ≡ 4096 → plan (put_mid (i * 4096) k xs ys) ≡ set (plan xs) i (read ys)
plan-written xs ys i k e h l =
    let z = put_mid (i * 4096) k xs ys in
    let n = inside xs i h in
    let w = length-written (i * 4096) k xs ys (omega arith) (omega arith) in
    let p : length (plan z) ≡ length (plan xs) = length-plan z ∙ ap (λ m. m / 4096) w ∙ sym (length-plan xs) in
    ext_get_or None (plan z) (set (plan xs) i (read ys)) (p ∙ sym (length-set (plan xs) i (read ys))) (λ j u. plan_each xs ys i k j e h l (omega arith) (omega arith) (cases_eq j i))

rest_written : (xs ys : List ℕ) (i k : ℕ) → k ≡ 4096 → i < length (plan xs) → length ys ≡ 4096 → rest_of (put_mid (i * 4096) k xs ys) ≡ rest_of xs
unfolding rest_of
rest_written xs ys i k e h l =
    let n = inside xs i h in
    let p = length-plan xs in
    let w = length-written (i * 4096) k xs ys (omega arith) (omega arith) in
    ap (λ m. drop (m / 4096 * 4096) (put_mid (i * 4096) k xs ys)) w ∙ drop-put_mid (i * 4096) k xs ys (length xs / 4096 * 4096) (omega arith) (omega arith) (l ∙ sym e)

put_back : (a k : ℕ) (xs : List ℕ) → put_mid a k xs (take k (drop a xs)) ≡ xs
put_back a k xs = ap (λ zs. take a xs ++ zs) (take-append-drop k (drop a xs)) ∙ take-append-drop a xs

-- an area that was written, as its writer saw it
pub record Written (xs ys : List ℕ) (i from k : ℕ) : Type 0 where
  pub was : take k (drop from xs) ≡ area_at i xs
  pub is : ys ≡ area_at i (put_mid from k xs ys)
  pub others : plan (put_mid from k xs ys) ≡ set (plan xs) i (read (area_at i (put_mid from k xs ys)))
  pub rest : rest_of (put_mid from k xs ys) ≡ rest_of xs
  pub back : area_at i (put_mid from k xs ys) ≡ area_at i xs → put_mid from k xs ys ≡ xs

written_at : (xs ys : List ℕ) (i k : ℕ) → k ≡ 4096 → i < length (plan xs) → length ys ≡ length (take k (drop (i * 4096) xs)) → Written xs ys i (i * 4096) k
unfolding area_at
written_at xs ys i k e h l =
    let w : take k (drop (i * 4096) xs) ≡ area_at i xs = ap (λ n. take n (drop (i * 4096) xs)) e in
    let m : length ys ≡ 4096 = l ∙ ap length w ∙ length-area xs i h in
    let a = area-here xs ys i k e (inside xs i h) m in
    record { was = w; is = sym a; others = plan-written xs ys i k e h m ∙ ap (λ x. set (plan xs) i (read x)) (sym a); rest = rest_written xs ys i k e h m; back = λ b. ap (put_mid (i * 4096) k xs) (sym a ∙ b ∙ sym w) ∙ put_back (i * 4096) k xs }

pub written : (xs ys : List ℕ) (i from k : ℕ) → from ≡ i * 4096 → k ≡ 4096 → i < length (plan xs) → length ys ≡ length (take k (drop from xs)) → Written xs ys i from k
written xs ys i from k p e h l = subst (λ (f : ℕ). Written xs ys i f k) (sym p) (written_at xs ys i k e h (l ∙ ap (λ f. length (take k (drop f xs))) p))
