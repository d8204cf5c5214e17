-- What the areas of each section are after a write. Assumes nothing.
use Rattle.std.proofs.Common.{◌≡◌, ℕ, cond, eqb, List, [], ◌∷◌, ◌++◌, Some, None, Option, sym, refl, ap, ◌∙◌, inl, inr, arith}
use Rattle.std.proofs.lemmas.Bool.Decides.{nat_tests}
use Rattle.area.specs.Area.{Area, started, pushed}
use Rattle.journal.specs.Log.{Bytes}
use Rattle.areas.specs.Plan.{areas_of, or_else, first_records, records_in}
use Rattle.areas_writing.specs.Steps.{Swapped, Grown, Stayed}

pub areas_append : (n : ℕ) (xs ys : List (Option Area)) → areas_of n (xs ++ ys) ≡ areas_of n xs ++ areas_of n ys
unfolding areas_of
areas_append n [] ys = refl
areas_append n (None ∷ xs) ys = areas_append n xs ys
areas_append n (Some a ∷ xs) ys = let ih = areas_append n xs ys in grind (arith, nat_tests)

-- an area adds to its own section alone
pub own_not : (n : ℕ) (a : Area) (xs : List (Option Area)) → (n ≡ a.section → ⊥) → areas_of n (Some a ∷ xs) ≡ areas_of n xs
unfolding areas_of
own_not n a xs h = grind (arith, nat_tests)

own_is : (n : ℕ) (a : Area) (xs : List (Option Area)) → n ≡ a.section → areas_of n (Some a ∷ xs) ≡ a ∷ areas_of n xs
unfolding areas_of
own_is n a xs h = grind (arith, nat_tests)

nil_both : {X : Type 0} (xs ys : List X) → xs ++ ys ≡ [] → (xs ≡ []) × (ys ≡ [])
nil_both [] ys e = (refl, e)
nil_both (x ∷ xs) ys e = cc

sole_both : {X : Type 0} (xs ys : List X) (a b : X) → xs ++ (a ∷ ys) ≡ b ∷ [] → (xs ≡ []) × (ys ≡ [])
sole_both [] ys a b e = (refl, cc)
sole_both (x ∷ []) ys a b e = cc
sole_both (x ∷ y ∷ xs) ys a b e = cc

-- what one area in the place of another leaves of the areas of a section
split : (n : ℕ) (before behind : List (Option Area)) (o : Option Area) (os : List (Option Area)) → os ≡ before ++ o ∷ behind → areas_of n os ≡ areas_of n before ++ areas_of n (o ∷ behind)
split n before behind o os e = ap (areas_of n) e ∙ areas_append n before (o ∷ behind)

pub record Grew (s : ℕ) (old new : List (Option Area)) (one : Area) : Type 0 where
  pub same : (n : ℕ) → (n ≡ s → ⊥) → areas_of n new ≡ areas_of n old
  pub sole : areas_of s new ≡ one ∷ []

pub grew_more : (s : ℕ) (a b : Area) (old new : List (Option Area)) → a.section ≡ s → b.section ≡ s → areas_of s old ≡ a ∷ [] → Swapped (Some a) (Some b) old new → Grew s old new b
grew_more s a b old new e f one w =
    let l = split s w.before w.behind (Some a) old w.stood in
    let r = split s w.before w.behind (Some b) new w.stands in
    let p = sole_both (areas_of s w.before) (areas_of s w.behind) a a (ap (λ l. areas_of s w.before ++ l) (sym (own_is s a w.behind (sym e))) ∙ sym l ∙ one) in
    record {
      same = λ n h.
          split n w.before w.behind (Some b) new w.stands
          ∙ ap (λ l. areas_of n w.before ++ l) (own_not n b w.behind (λ q. h (q ∙ f)) ∙ sym (own_not n a w.behind (λ q. h (q ∙ e))))
          ∙ sym (split n w.before w.behind (Some a) old w.stood);
      sole = r ∙ ap (λ l. areas_of s w.before ++ l) (own_is s b w.behind (sym f)) ∙ ap (λ l. l ++ (b ∷ areas_of s w.behind)) p.0 ∙ ap (λ l. b ∷ l) p.1;
    }

pub grew_first : (s : ℕ) (b : Area) (old new : List (Option Area)) → b.section ≡ s → areas_of s old ≡ [] → Swapped None (Some b) old new → Grew s old new b
unfolding areas_of
grew_first s b old new f none w =
    let l = split s w.before w.behind None old w.stood in
    let r = split s w.before w.behind (Some b) new w.stands in
    let p = nil_both (areas_of s w.before) (areas_of s w.behind) (sym l ∙ none) in
    record {
      same = λ n h.
          split n w.before w.behind (Some b) new w.stands ∙ ap (λ l. areas_of n w.before ++ l) (own_not n b w.behind (λ q. h (q ∙ f))) ∙ sym (split n w.before w.behind None old w.stood);
      sole = r ∙ ap (λ l. areas_of s w.before ++ l) (own_is s b w.behind (sym f)) ∙ ap (λ l. l ++ (b ∷ areas_of s w.behind)) p.0 ∙ ap (λ l. b ∷ l) p.1;
    }

or_nil : (rs : List Bytes) → or_else rs [] ≡ rs
unfolding or_else
or_nil [] = refl
or_nil (r ∷ rs) = refl

in_sole : (n : ℕ) (a : Area) (os : List (Option Area)) → areas_of n os ≡ a ∷ [] → records_in n os ≡ a.records
unfolding records_in first_records
in_sole n a os e = ap first_records e ∙ or_nil a.records

in_none : (n : ℕ) (os : List (Option Area)) → areas_of n os ≡ [] → records_in n os ≡ []
unfolding records_in first_records
in_none n os e = ap first_records e

in_same : (n : ℕ) (os ns : List (Option Area)) → areas_of n ns ≡ areas_of n os → records_in n ns ≡ records_in n os
unfolding records_in
in_same n os ns e = ap first_records e

-- what is found in a section that grew, and in the others
grew-records : (s : ℕ) (one : Area) (os ns : List (Option Area)) → Grew s os ns one → (n : ℕ) → records_in n ns ≡ cond (eqb n s) one.records (records_in n os)
grew-records s one os ns g n =
    let sole = in_sole s one ns g.sole in
    let same : (n ≡ s → ⊥) → records_in n ns ≡ records_in n os = λ h. in_same n os ns (g.same n h) in
    grind (arith, nat_tests)

-- after an append
pub grown-records : (s : ℕ) (b : Bytes) (os ns : List (Option Area)) → Grown s b os ns → (n : ℕ) → records_in n ns ≡ cond (eqb n s) (records_in s os ++ b ∷ []) (records_in n os)
unfolding pushed started
grown-records s b os ns (inl (a, e, one, f, w)) n =
    grew-records s (pushed a b) os ns (grew_more s a (pushed a b) os ns e e one w) n ∙ ap (λ l. cond (eqb n s) (l ++ b ∷ []) (records_in n os)) (sym (in_sole s a os one))
grown-records s b os ns (inr (none, w)) n =
    grew-records s (pushed (started s) b) os ns (grew_first s (pushed (started s) b) os ns refl none w) n ∙ ap (λ l. cond (eqb n s) (l ++ b ∷ []) (records_in n os)) (sym (in_none s os none))

-- after an append that the power cut
pub stayed_records : (s : ℕ) (os ns : List (Option Area)) → Stayed s os ns → (n : ℕ) → records_in n ns ≡ records_in n os
unfolding started
stayed_records s os ns (inl e) n = ap (records_in n) e
stayed_records s os ns (inr (none, w)) n =
    let g = grew-records s (started s) os ns (grew_first s (started s) os ns refl none w) n in
    let z = in_none s os none in
    grind (arith, nat_tests)
