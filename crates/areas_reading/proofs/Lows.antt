-- The lowest section of which an area has a record. Assumes nothing.
use Rattle.std.proofs.Common.{◌≡◌, ℕ, suc, ◌+◌, Bool, true, false, cond, ◌&&◌, leb, get_or, ◌⊎◌, List, [], ◌∷◌, Some, None, Option, sym, refl, ap, ◌∙◌, subst, inl, inr, arith}
use Rattle.std.proofs.lemmas.Bool.{cond-true, cond-false, cases_Bool}
use Rattle.std.specs.Bool.{then_some}
use Rattle.std.specs.Option.{option_map}
use Rattle.std.specs.List.{cons_option, enumerate_from, filter_map, reduce}
use Rattle.area.specs.Area.{Area, read, records_of}
use Rattle.areas.specs.Plan.{some, above, candidate, lower, lowest}
use Rattle.areas_reading.proofs.Shows.{records_is}
use Rattle.areas_reading.specs.Next.{Points}
use Rattle.areas_reading.proofs.Keyed.{least, low as nearer, reduce_least, fold_low}

pub candidate-free : (low : Option ℕ) (o : Option Area) → option_map (λ a. a.section) o ≡ None → candidate low o ≡ None
unfolding candidate
candidate-free low None e = refl
candidate-free low (Some a) e = let z : ◌≡◌ {A = ℕ} 0 1 = cc in absurd (omega arith)

candidate_by : (low : Option ℕ) (bs : List ℕ) (o : Option Area) (s : ℕ) → read bs ≡ o → option_map (λ a. a.section) o ≡ Some s → candidate low o ≡ cond (above low s && some (records_of bs)) (Some s) None
unfolding candidate
candidate_by low bs None s e h = let z : ◌≡◌ {A = ℕ} 0 1 = cc in absurd (omega arith)
candidate_by low bs (Some a) s e h =
    let z : a.section ≡ s = cc in
    ap (λ t. cond (above low t && some a.records) (Some t) None) z ∙ ap (λ rs. cond (above low s && some rs) (Some s) None) (records_is bs a e)

pub candidate_used : (low : Option ℕ) (bs : List ℕ) (s : ℕ) → option_map (λ a. a.section) (read bs) ≡ Some s → candidate low (read bs) ≡ cond (above low s && some (records_of bs)) (Some s) None
candidate_used low bs s h = candidate_by low bs (read bs) s refl h

chosen : (b : Bool) (s : ℕ) → then_some b s ≡ cond b (Some s) None
chosen true s = refl
chosen false s = refl

pub candidate-above : (low : Option ℕ) (bs : List ℕ) (s : ℕ) → option_map (λ a. a.section) (read bs) ≡ Some s → above low s ≡ true → then_some (some (records_of bs)) s ≡ candidate low (read bs)
candidate-above low bs s h a =
    chosen (some (records_of bs)) s ∙ ap (λ b. cond (b && some (records_of bs)) (Some s) None) (sym a) ∙ sym (candidate_used low bs s h)

-- one area more in front, the i-th

abbrev pub found : Option ℕ → ℕ × Option Area → Option (ℕ × ℕ)
found low p = option_map (λ s. (s, p.0)) (candidate low p.1)

abbrev key : ℕ × ℕ → ℕ
key p = p.0

-- what the areas from the i-th on say
abbrev PointsFrom : ℕ → Option (ℕ × ℕ) → Option Area → List (Option Area) → Type 0
PointsFrom i None o os = o ≡ None
PointsFrom i (Some p) o os = (a : Area) × (o ≡ Some a) × (p.0 ≡ a.section) × ((k : ℕ) × (p.1 ≡ i + k) × (get_or os k None ≡ Some a))

behind : (i : ℕ) (r : Option (ℕ × ℕ)) (x o : Option Area) (os : List (Option Area)) → PointsFrom (i + 1) r o os → PointsFrom i r o (x ∷ os)
behind i None x o os w = w
behind i (Some p) x o os w = (w.0, w.1, w.2, (suc w.3.0, omega (arith, w.3.1), w.3.2))

or_low : ℕ × ℕ → Option (ℕ × ℕ) → ℕ × ℕ
or_low x None = x
or_low x (Some y) = nearer key x y

reduce_more : (x : ℕ × ℕ) (xs : List (ℕ × ℕ)) → reduce (nearer key) (x ∷ xs) ≡ Some (or_low x (reduce (nearer key) xs))
unfolding or_low
reduce_more x [] = refl
reduce_more x (y ∷ ys) = ap Some (fold_low key x y ys)

in_front : (i : ℕ) (a : Area) (r : Option (ℕ × ℕ)) (o : Option Area) (os : List (Option Area)) → PointsFrom (i + 1) r o os → PointsFrom i (Some (or_low (a.section, i) r)) (Some (lower a o)) (Some a ∷ os)
unfolding lower or_low
in_front i a None o os w = (a, ap (λ x. Some (lower a x)) w, refl, (0, omega arith, refl))
in_front i a (Some p) o os w = go (cases_Bool (leb a.section p.0))
  where
    go : (leb a.section p.0 ≡ true) ⊎ (leb a.section p.0 ≡ false) → PointsFrom i (Some (cond (leb a.section p.0) (a.section, i) p)) (Some (lower a o)) (Some a ∷ os)
    go (inl h) =
        let t : leb a.section w.0.section ≡ true = ap (leb a.section) (sym w.2) ∙ h in
        let e : lower a o ≡ a = ap (lower a) w.1 ∙ cond-true _ _ _ t in
        subst (λ (q : ℕ × ℕ). PointsFrom i (Some q) (Some (lower a o)) (Some a ∷ os)) (sym (cond-true _ _ _ h)) (a, ap Some e, refl, (0, omega arith, refl))
    go (inr h) =
        let t : leb a.section w.0.section ≡ false = ap (leb a.section) (sym w.2) ∙ h in
        let e : lower a o ≡ w.0 = ap (lower a) w.1 ∙ cond-false _ _ _ t in
        subst (λ (q : ℕ × ℕ). PointsFrom i (Some q) (Some (lower a o)) (Some a ∷ os)) (sym (cond-false _ _ _ h)) (w.0, ap Some e, w.2, (suc w.3.0, omega (arith, w.3.1), w.3.2))

points_from : (low : Option ℕ) (i : ℕ) (os : List (Option Area)) → PointsFrom i (reduce (nearer key) (filter_map (found low) (enumerate_from i os))) (lowest low os) os
unfolding candidate lowest
points_from low i [] = refl
points_from low i (None ∷ os) = behind i (reduce (nearer key) (filter_map (found low) (enumerate_from (i + 1) os))) None (lowest low os) os (points_from low (i + 1) os)
points_from low i (Some a ∷ os) = go (cases_Bool (above low a.section && some a.records)) (points_from low (i + 1) os)
  where
    go : ((above low a.section && some a.records) ≡ true) ⊎ ((above low a.section && some a.records) ≡ false) → PointsFrom (i + 1) (reduce (nearer key) (filter_map (found low) (enumerate_from (i + 1) os))) (lowest low os) os → PointsFrom i (reduce (nearer key) (filter_map (found low) (enumerate_from i (Some a ∷ os)))) (lowest low (Some a ∷ os)) (Some a ∷ os)
    go (inl h) w =
        let rest = filter_map (found low) (enumerate_from (i + 1) os) in
        let r = ap (λ (c : Option ℕ). reduce (nearer key) (cons_option (option_map (λ s. (s, i)) c) rest)) (cond-true _ (Some a.section) None h) ∙ reduce_more (a.section, i) rest in
        subst (λ (x : Option (ℕ × ℕ)). PointsFrom i x (lowest low (Some a ∷ os)) (Some a ∷ os)) (sym r)
        (subst (λ (o : Option Area). PointsFrom i (Some (or_low (a.section, i) (reduce (nearer key) rest))) o (Some a ∷ os)) (sym (cond-true _ (Some (lower a (lowest low os))) (lowest low os) h))
        (in_front i a (reduce (nearer key) rest) (lowest low os) os w))
    go (inr h) w =
        let rest = filter_map (found low) (enumerate_from (i + 1) os) in
        let r = ap (λ (c : Option ℕ). reduce (nearer key) (cons_option (option_map (λ s. (s, i)) c) rest)) (cond-false _ (Some a.section) None h) in
        subst (λ (x : Option (ℕ × ℕ)). PointsFrom i x (lowest low (Some a ∷ os)) (Some a ∷ os)) (sym r)
        (subst (λ (o : Option Area). PointsFrom i (reduce (nearer key) rest) o (Some a ∷ os)) (sym (cond-false _ (Some (lower a (lowest low os))) (lowest low os) h))
        (behind i (reduce (nearer key) rest) (Some a) (lowest low os) os w))

from_first : (r : Option (ℕ × ℕ)) (o : Option Area) (os : List (Option Area)) → PointsFrom 0 r o os → Points r o os
from_first None o os w = w
from_first (Some p) o os w =
    let z : p.1 ≡ w.3.0 = omega (arith, w.3.1) in
    (w.0, w.1, w.2, ap (λ k. get_or os k None) z ∙ w.3.2)

pub points_at : (low : Option ℕ) (os : List (Option Area)) → Points (reduce (least (λ p. p.0)) (filter_map (found low) (enumerate_from 0 os))) (lowest low os) os
points_at low os =
    from_first _ _ os (subst (λ (r : Option (ℕ × ℕ)). PointsFrom 0 r (lowest low os) os) (sym (reduce_least (λ p. p.0) (filter_map (found low) (enumerate_from 0 os)))) (points_from low 0 os))
