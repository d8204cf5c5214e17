-- What pruning does to the areas of a medium. Assumes nothing.
use Rattle.std.proofs.Common.{◌≡◌, ℕ, zero, suc, ◌+◌, ◌<◌, ◌≤◌, min, true, false, List, [], ◌∷◌, ◌++◌, map, length, get_or, take, drop, set, None, Ok, Err, Option, Result, sym, ap, ◌∙◌, subst, arith}
use Rattle.std.proofs.lemmas.List.{drop_more, drop_all, take_all, take_more, append_assoc, append-nil, set-get_or, set_at, length-take-le, length-append, length-map, length-drop, length-take, get_or_append_left, get_or-take}
use Rattle.std.proofs.lemmas.Bool.{cond-true, cond-false}
use Rattle.journal.specs.declared.stops.Stop.{Stop}
use Rattle.journal.specs.declared.stops.Stop.TheVariants.{Full, Pruned, Off}
use Rattle.area.specs.Area.{Area, read}
use Rattle.power.specs.Power.{Took}
use Rattle.area.specs.Writes.{Freed}
use Rattle.power.proofs.Power.{took_none, took_both, took-second}
use Rattle.areas.specs.Plan.{area_at, plan}
use Rattle.areas_writing.specs.Steps.{under, cleared, cleared_from, stores_for, unders, ClearingAt, Clearing}
use Rattle.areas.proofs.Parts.{get_d_plan, length-area}

one_byte : (bs : List ℕ) (i s : ℕ) → i < length (plan bs) → under s (get_or (plan bs) i None) ≡ true → min 1 (length (area_at i bs)) ≡ stores_for s (get_or (plan bs) i None)
unfolding stores_for
one_byte bs i s h u = let l = length-area bs i h in let m : min 1 (length (area_at i bs)) ≡ 1 = omega arith in m ∙ sym (cond-true _ 1 0 u)

-- an area below the bound
pub clear_under : (bs cs : List ℕ) (p q : Option ℕ) (i s : ℕ) (r : Result (Unit {0}) Stop) → i < length (plan bs) → under s (get_or (plan bs) i None) ≡ true → Freed (area_at i bs) p r (area_at i cs) q → plan cs ≡ set (plan bs) i (read (area_at i cs)) → ClearingAt bs p i s r cs q
unfolding cleared
clear_under bs cs p q i s (Ok x) h u w o =
    let n = one_byte bs i s h u in
    (o ∙ ap (set (plan bs) i) (w.2 ∙ sym (cond-true _ None (get_or (plan bs) i None) u)), subst (λ k. Took k true p q) n w.0)
clear_under bs cs p q i s (Err Full) h u w o = w
clear_under bs cs p q i s (Err Pruned) h u w o = w
clear_under bs cs p q i s (Err Off) h u w o =
    let n = one_byte bs i s h u in
    (o ∙ ap (λ a. set (plan bs) i (read a)) w.1 ∙ ap (set (plan bs) i) (sym (get_d_plan bs i h)) ∙ set-get_or (plan bs) i None, subst (λ k. Took k false p q) n w.0)

-- another
pub clear_other : (bs : List ℕ) (p : Option ℕ) (i s : ℕ) → under s (get_or (plan bs) i None) ≡ false → ClearingAt bs p i s (Ok tt) bs p
unfolding cleared stores_for
clear_other bs p i s u =
    let n : 0 ≡ stores_for s (get_or (plan bs) i None) = sym (cond-false _ 1 0 u) in
    (sym (ap (set (plan bs) i) (cond-false _ None (get_or (plan bs) i None) u) ∙ set-get_or (plan bs) i None), subst (λ k. Took k true p p) n (took_none p))

-- from the last to the first
pub clear_start : (n s : ℕ) (os : List (Option Area)) → length os ≤ n → os ≡ cleared_from n s os
unfolding cleared_from
clear_start n s os h = sym (ap (λ xs. take n os ++ map (cleared s) xs) (drop_all n os h) ∙ append-nil (take n os) ∙ take_all n os h)

pub unders_none : (n s : ℕ) (os : List (Option Area)) → length os ≤ n → unders s (drop n os) ≡ 0
unfolding unders
unders_none n s os h = ap (unders s) (drop_all n os h)

unders-more : (i s : ℕ) (os : List (Option Area)) → i < length os → unders s (drop i os) ≡ stores_for s (get_or os i None) + unders s (drop (i + 1) os)
unfolding unders
unders-more i s os h = ap (unders s) (drop_more os i None h)

-- what stands before is as it was
get_d_front : (i s : ℕ) (os : List (Option Area)) → i < length os → get_or (cleared_from (i + 1) s os) i None ≡ get_or os i None
unfolding cleared_from
get_d_front i s os h =
    let l : length (take (i + 1) os) ≡ i + 1 = length-take-le (i + 1) os (omega arith) in
    get_or_append_left (take (i + 1) os) (map (cleared s) (drop (i + 1) os)) None i (omega arith) ∙ get_or-take (i + 1) os i None (omega arith)

clear_more : (i s : ℕ) (os : List (Option Area)) → i < length os → set (cleared_from (i + 1) s os) i (cleared s (get_or os i None)) ≡ cleared_from i s os
unfolding cleared_from
clear_more i s os h =
    let l : length (take i os) ≡ i = length-take-le i os (omega arith) in
    let rest = map (cleared s) (drop (i + 1) os) in
    ap (λ xs. set (xs ++ rest) i (cleared s (get_or os i None))) (take_more os i None h)
    ∙ ap (λ xs. set xs i (cleared s (get_or os i None))) (append_assoc (take i os) (get_or os i None ∷ []) rest)
    ∙ set_at (take i os) (get_or os i None) rest (cleared s (get_or os i None)) i l
    ∙ sym (ap (λ xs. take i os ++ map (cleared s) xs) (drop_more os i None h))

unders-drop : (i s : ℕ) (os : List (Option Area)) → unders s (drop i os) ≤ unders s os
unfolding unders
unders-drop zero s os = omega arith
unders-drop (suc i) s [] = omega arith
unders-drop (suc i) s (o ∷ os) = omega (arith, unders-drop i s os)

-- one turn
module _ (os : List (Option Area)) (ms cs : List ℕ) (P p q : Option ℕ) (i j s : ℕ) (e : i + 1 ≡ j) (h : i < length os) (inv : plan ms ≡ cleared_from j s os) (took : Took (unders s (drop j os)) true P p) where
  before : plan ms ≡ cleared_from (i + 1) s os
  before = inv ∙ ap (λ k. cleared_from k s os) (sym e)

  here : get_or (plan ms) i None ≡ get_or os i None
  here = ap (λ xs. get_or xs i None) before ∙ get_d_front i s os h

  more : unders s (drop i os) ≡ unders s (drop j os) + stores_for s (get_or (plan ms) i None)
  more = let f = ap (stores_for s) here in let g = ap (λ k. unders s (drop k os)) e in omega (arith, unders-more i s os h)

  pub clear_again : (x : Unit {0}) → ClearingAt ms p i s (Ok x) cs q → (plan cs ≡ cleared_from i s os) × Took (unders s (drop i os)) true P q
  clear_again x w =
      (w.0 ∙ ap (λ o. set (plan ms) i (cleared s o)) here ∙ ap (λ xs. set xs i (cleared s (get_or os i None))) before ∙ clear_more i s os h, took_both (unders s (drop j os)) (stores_for s (get_or (plan ms) i None)) _ P p q more took w.1)

  pub clear_cut : (bs : List ℕ) (x : Stop) → os ≡ plan bs → ClearingAt ms p i s (Err x) cs q → Clearing bs P s (Err x) cs q
  clear_cut bs Full b w = w
  clear_cut bs Pruned b w = w
  clear_cut bs Off b w =
      let n = stores_for s (get_or (plan ms) i None) in
      let k : unders s (drop j os) + n ≤ unders s os = omega (arith, unders-drop i s os, more) in
      let t : ((k : ℕ) × (plan cs ≡ cleared_from k s os)) × Took (unders s os) false P q = ((i + 1, w.0 ∙ before), took-second (unders s (drop j os)) n _ P p q k took w.1) in
      subst (λ (xs : List (Option Area)). ((k : ℕ) × (plan cs ≡ cleared_from k s xs)) × Took (unders s xs) false P q) b t

pub length-cleared : (i s : ℕ) (os : List (Option Area)) → length (cleared_from i s os) ≡ length os
unfolding cleared_from
length-cleared i s os = simp (length-append, length-map, length-drop, length-take) (omega arith)
