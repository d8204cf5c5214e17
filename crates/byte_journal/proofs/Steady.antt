-- Writes make no overrun, and leave one that is there. Assumes nothing.
use Rattle.std.proofs.Common.{◌≡◌, ℕ, ◌<◌, ◌≤◌, cond, eqb, leb, ◌⊎◌, List, [], ◌∷◌, ◌++◌, map, length, take, drop, Some, None, Option, sym, refl, ap, ◌∙◌, subst, inl, inr, arith}
use Rattle.std.proofs.lemmas.List.{take-append-drop}
use Rattle.std.proofs.lemmas.Bool.{cond_both, leb-true, leb-false, cases_eq, cases_lt}
use Rattle.std.proofs.lemmas.Bool.Decides.{nat_tests}
use Rattle.area.specs.Area.{Area, started, pushed}
use Rattle.journal.specs.declared.places.Defect.{Defect}
use Rattle.journal.specs.declared.places.Defect.TheVariants.{Area as SecondArea}
use Rattle.journal.specs.Log.{Bytes}
use Rattle.journal.specs.declared.places.Overrun.{Overrun}
use Rattle.areas.specs.Plan.{areas_of}
use Rattle.areas_reading.specs.Overruns.{overrun_at, behind, overrun_of, overrun_by, earlier, overrun_in, overrun}
use Rattle.areas_writing.specs.Steps.{Swapped, Grown, Stayed, cleared, cleared_from}
use Rattle.byte_journal.proofs.Grows.{Grew, grew_more, grew_first, areas_append}
use Rattle.byte_journal.proofs.Frees.{freed-above, freed-below}

-- a section with one area that has no fault, or with none, has no overrun
pub of_one : (s : ℕ) (a : Area) (xs : List Area) → xs ≡ a ∷ [] → a.defect ≡ None → overrun_of s xs ≡ None
unfolding overrun_of behind
of_one s a xs e f = ap (overrun_of s) e ∙ ap (λ o. behind s (length a.records) o []) f

pub of_no : (s : ℕ) (xs : List Area) → xs ≡ [] → overrun_of s xs ≡ None
unfolding overrun_of
of_no s xs e = ap (overrun_of s) e

-- the overruns of all sections settle the first one
by_same : (os ns : List (Option Area)) → ((n : ℕ) → overrun_of n (areas_of n ns) ≡ overrun_of n (areas_of n os)) → (o : Option Area) → overrun_by ns o ≡ overrun_by os o
unfolding overrun_by
by_same os ns h None = refl
by_same os ns h (Some a) = h a.section

in_same : (os ns xs : List (Option Area)) → ((n : ℕ) → overrun_of n (areas_of n ns) ≡ overrun_of n (areas_of n os)) → overrun_in ns xs ≡ overrun_in os xs
unfolding overrun_in
in_same os ns [] h = refl
in_same os ns (o ∷ xs) h = ap (λ e. earlier e (overrun_in ns xs)) (by_same os ns h o) ∙ ap (earlier (overrun_by os o)) (in_same os ns xs h)

in_swap : (all before behind : List (Option Area)) (was new : Option Area) → overrun_by all new ≡ overrun_by all was → overrun_in all (before ++ new ∷ behind) ≡ overrun_in all (before ++ was ∷ behind)
unfolding overrun_in
in_swap all [] behind was new h = ap (λ e. earlier e (overrun_in all behind)) h
in_swap all (o ∷ before) behind was new h = ap (earlier (overrun_by all o)) (in_swap all before behind was new h)

swap_steady : (was new : Option Area) (os ns : List (Option Area)) → Swapped was new os ns → ((n : ℕ) → overrun_of n (areas_of n ns) ≡ overrun_of n (areas_of n os)) → overrun_by os new ≡ overrun_by os was → overrun ns ≡ overrun os
unfolding overrun
swap_steady was new os ns w h e =
    in_same os ns ns h ∙ ap (overrun_in os) w.stands ∙ in_swap os w.before w.behind was new e ∙ sym (ap (overrun_in os) w.stood)

grew_same : (s : ℕ) (b : Area) (os ns : List (Option Area)) → Grew s os ns b → b.defect ≡ None → overrun_of s (areas_of s os) ≡ None → (n : ℕ) → overrun_of n (areas_of n ns) ≡ overrun_of n (areas_of n os)
grew_same s b os ns g f z n = go (cases_eq n s)
  where
    go : (n ≡ s) ⊎ (n ≡ s → ⊥) → overrun_of n (areas_of n ns) ≡ overrun_of n (areas_of n os)
    go (inl q) = let o = of_one s b (areas_of s ns) g.sole f in cc
    go (inr q) = ap (overrun_of n) (g.same n q)

by_some : (all : List (Option Area)) (a : Area) (s : ℕ) → a.section ≡ s → overrun_by all (Some a) ≡ overrun_of s (areas_of s all)
unfolding overrun_by
by_some all a s e = ap (λ k. overrun_of k (areas_of k all)) e

by_none : (all : List (Option Area)) → overrun_by all None ≡ None
unfolding overrun_by
by_none all = refl

pub grown_steady : (s : ℕ) (b : Bytes) (os ns : List (Option Area)) → Grown s b os ns → overrun ns ≡ overrun os
unfolding pushed started
grown_steady s b os ns (inl (a, e, one, f, w)) =
    let g = grew_more s a (pushed a b) os ns e e one w in
    swap_steady (Some a) (Some (pushed a b)) os ns w (grew_same s (pushed a b) os ns g f (of_one s a (areas_of s os) one f)) (by_some os (pushed a b) s e ∙ sym (by_some os a s e))
grown_steady s b os ns (inr (none, w)) =
    let g = grew_first s (pushed (started s) b) os ns refl none w in
    let z = of_no s (areas_of s os) none in
    swap_steady None (Some (pushed (started s) b)) os ns w (grew_same s (pushed (started s) b) os ns g refl z) (by_some os (pushed (started s) b) s refl ∙ z ∙ sym (by_none os))

pub stayed_steady : (s : ℕ) (os ns : List (Option Area)) → Stayed s os ns → overrun ns ≡ overrun os
unfolding started
stayed_steady s os ns (inl e) = ap overrun e
stayed_steady s os ns (inr (none, w)) =
    let g = grew_first s (started s) os ns refl none w in
    let z = of_no s (areas_of s os) none in
    swap_steady None (Some (started s)) os ns w (grew_same s (started s) os ns g refl z) (by_some os (started s) s refl ∙ z ∙ sym (by_none os))

-- no overrun: none in any section

earlier_none : (x y : Option Overrun) → earlier x y ≡ None → (x ≡ None) × (y ≡ None)
earlier_none None y e = (refl, e)
earlier_none (Some x) None e = cc
earlier_none (Some x) (Some y) e = cond_both (leb x.place.section y.place.section) (Some x) (Some y) (λ o. o ≡ None → (◌≡◌ {A = Option Overrun} (Some x) None) × (◌≡◌ {A = Option Overrun} (Some y) None)) (λ _ f. cc) (λ _ f. cc) e

-- a section of which there is an area
in_each : (all xs : List (Option Area)) (n : ℕ) → overrun_in all xs ≡ None → (areas_of n xs ≡ []) ⊎ (overrun_of n (areas_of n all) ≡ None)
unfolding overrun_in areas_of overrun_by
in_each all [] n e = inl refl
in_each all (None ∷ xs) n e = in_each all xs n e
in_each all (Some a ∷ xs) n e =
    let p = earlier_none (overrun_of a.section (areas_of a.section all)) (overrun_in all xs) e in
    let ih = in_each all xs n p.1 in
    let z = p.0 in
    grind (arith, nat_tests)

pub none_each : (all : List (Option Area)) → overrun all ≡ None → (n : ℕ) → overrun_of n (areas_of n all) ≡ None
unfolding overrun
none_each all e n = go (in_each all all n e)
  where
    go : (areas_of n all ≡ []) ⊎ (overrun_of n (areas_of n all) ≡ None) → overrun_of n (areas_of n all) ≡ None
    go (inl z) = of_no n (areas_of n all) z
    go (inr z) = z

pub none_in : (all xs : List (Option Area)) → ((n : ℕ) → overrun_of n (areas_of n all) ≡ None) → overrun_in all xs ≡ None
unfolding overrun_in overrun_by
none_in all [] h = refl
none_in all (None ∷ xs) h = none_in all xs h
none_in all (Some a ∷ xs) h = ap (λ e. earlier e (overrun_in all xs)) (h a.section) ∙ none_in all xs h

-- the section of an overrun is the one that was looked at
behind_section : (s n : ℕ) (f : Option Defect) (ys : List Area) (x : Overrun) → behind s n f ys ≡ Some x → x.place.section ≡ s
unfolding behind
behind_section s n (Some f) ys x e = let r : overrun_at s n f ≡ x = cc in sym (ap (λ (o : Overrun). o.place.section) r)
behind_section s n None [] x e = cc
behind_section s n None (y ∷ ys) x e = let r : overrun_at s n SecondArea ≡ x = cc in sym (ap (λ (o : Overrun). o.place.section) r)

overrun_section : (s : ℕ) (xs : List Area) (x : Overrun) → overrun_of s xs ≡ Some x → x.place.section ≡ s
unfolding overrun_of
overrun_section s [] x e = cc
overrun_section s (a ∷ xs) x e = behind_section s (length a.records) a.defect xs x e

-- below the section of the first overrun there is none
pub first_in : (all xs : List (Option Area)) (x : Overrun) → overrun_in all xs ≡ Some x → (n : ℕ) → n < x.place.section → (areas_of n xs ≡ []) ⊎ (overrun_of n (areas_of n all) ≡ None)
unfolding overrun_in areas_of overrun_by
first_in all [] x e n h = inl refl
first_in all (None ∷ xs) x e n h = first_in all xs x e n h
first_in all (Some a ∷ xs) x e n h = go (overrun_of a.section (areas_of a.section all)) (overrun_in all xs) refl refl e (λ z q k. first_in all xs z q n k)
  where
    go : (y z : Option Overrun) → overrun_of a.section (areas_of a.section all) ≡ y → overrun_in all xs ≡ z → earlier y z ≡ Some x → ((z : Overrun) → overrun_in all xs ≡ Some z → n < z.place.section → (areas_of n xs ≡ []) ⊎ (overrun_of n (areas_of n all) ≡ None)) → (cond (eqb n a.section) (a ∷ areas_of n xs) (areas_of n xs) ≡ []) ⊎ (overrun_of n (areas_of n all) ≡ None)
    go None z p q f ih = let k = ih x (q ∙ f) h in grind (arith, nat_tests)
    go (Some y) None p q f ih =
        let k = in_each all xs n q in
        let s = overrun_section a.section (areas_of a.section all) y p in
        let t : y ≡ x = cc in
        let l : n < y.place.section = subst (λ (o : Overrun). n < o.place.section) (sym t) h in
        grind (arith, nat_tests)
    go (Some y) (Some z) p q f ih =
        let s = overrun_section a.section (areas_of a.section all) y p in
        cond_both (leb y.place.section z.place.section) (Some y) (Some z) (λ o. o ≡ Some x → (cond (eqb n a.section) (a ∷ areas_of n xs) (areas_of n xs) ≡ []) ⊎ (overrun_of n (areas_of n all) ≡ None))
        (λ t g.
        let w = leb-true y.place.section z.place.section t in
        let r : y ≡ x = cc in
        let l : n < y.place.section = subst (λ (o : Overrun). n < o.place.section) (sym r) h in
        let k = ih z q (omega arith) in
        grind (arith, nat_tests))
        (λ t g.
        let w = leb-false y.place.section z.place.section t in
        let r : z ≡ x = cc in
        let l : n < z.place.section = subst (λ (o : Overrun). n < o.place.section) (sym r) h in
        let k = ih z q l in
        grind (arith, nat_tests))
        f

-- behind which there is none
pub alone : (s n : ℕ) (f : Option Defect) (ys : List Area) → behind s n f ys ≡ None → (f ≡ None) × (ys ≡ [])
unfolding behind
alone s n (Some f) ys e = cc
alone s n None [] e = (refl, refl)
alone s n None (y ∷ ys) e = cc

-- the first of a section's areas
behind_prefix : (n k : ℕ) (f : Option Defect) (xs ys : List Area) → behind n k f (xs ++ ys) ≡ None → behind n k f xs ≡ None
unfolding behind
behind_prefix n k (Some f) xs ys e = e
behind_prefix n k None [] ys e = refl
behind_prefix n k None (x ∷ xs) ys e = e

prefix : (n : ℕ) (xs ys : List Area) → overrun_of n (xs ++ ys) ≡ None → overrun_of n xs ≡ None
unfolding overrun_of
prefix n [] ys e = refl
prefix n (a ∷ xs) ys e = behind_prefix n (length a.records) a.defect xs ys e

pub freed_clean : (i s : ℕ) (os ns : List (Option Area)) → ns ≡ cleared_from i s os → overrun os ≡ None → overrun ns ≡ None
unfolding overrun
freed_clean i s os ns e z =
    ap overrun e ∙ none_in (cleared_from i s os) (cleared_from i s os) (λ n. go n (cases_lt n s))
  where
    go : (n : ℕ) → (n < s) ⊎ (s ≤ n) → overrun_of n (areas_of n (cleared_from i s os)) ≡ None
    go n (inr h) = ap (overrun_of n) (freed-above i n s os h) ∙ none_each os z n
    go n (inl h) =
        ap (overrun_of n) (freed-below i n s os h)
        ∙ prefix n (areas_of n (take i os)) (areas_of n (drop i os)) (ap (overrun_of n) (sym (areas_append n (take i os) (drop i os)) ∙ ap (areas_of n) (take-append-drop i os)) ∙ none_each os z n)

pub cleared_clean : (s : ℕ) (os ns : List (Option Area)) → ns ≡ map (cleared s) os → overrun os ≡ None → overrun ns ≡ None
unfolding cleared_from
cleared_clean s os ns e z = freed_clean 0 s os ns e z
