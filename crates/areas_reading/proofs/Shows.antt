-- Which area shows the records of a section. Assumes nothing.
use Rattle.std.proofs.Common.{◌≡◌, ℕ, zero, suc, ◌/◌, ◌≤◌, true, false, cond, ◌&&◌, eqb, ◌⊎◌, List, [], ◌∷◌, map, length, take, drop, is_some, MatchOption, Some, None, Option, sym, refl, ap, ◌∙◌, inl, inr, arith}
use Rattle.std.proofs.lemmas.List.{length-take}
use Rattle.std.proofs.lemmas.Bool.{cond-true, cond-false, true≢false, false≢true, and_parts, and_left, cases_Bool}
use Rattle.std.specs.Option.{option_map}
use denote.Ref.{Bor}
use Rattle.std.specs.List.{find, slice_get}
use Rattle.area.specs.Area.{Area, read, area_of, records_of}
use Rattle.area.proofs.Marks.{read_is}
use Rattle.area.proofs.Steps.{count_of}
use Rattle.areas.specs.Plan.{owned_by, areas_of, some, shows, or_else, first_records, records_in, parts, areas_in, plan}

pub records_is : (bs : List ℕ) (a : Area) → read bs ≡ Some a → a.records ≡ records_of bs
unfolding area_of
records_is bs a e = let r = read_is bs a e in sym (ap (λ x. x.records) r)

pub some_first : (rs : List (List ℕ)) → is_some (slice_get rs 0) ≡ some rs
unfolding some
some_first [] = refl
some_first (r ∷ rs) = refl

shows_by : (s : ℕ) (bs : List ℕ) (o : Option Area) → read bs ≡ o → owned_by s o ≡ true → shows s o ≡ some (records_of bs)
unfolding owned_by shows
shows_by s bs None e h = absurd (false≢true h)
shows_by s bs (Some a) e h = ap (λ b. b && some a.records) h ∙ ap some (records_is bs a e)

pub shows-owned : (s : ℕ) (bs : List ℕ) → owned_by s (read bs) ≡ true → shows s (read bs) ≡ some (records_of bs)
shows-owned s bs h = shows_by s bs (read bs) refl h

pub shows_other : (s : ℕ) (o : Option Area) → owned_by s o ≡ false → shows s o ≡ false
unfolding owned_by shows
shows_other s None h = refl
shows_other s (Some a) h = and_left _ _ h

or_else_lem : (rs other : List (List ℕ)) → some rs ≡ true → or_else rs other ≡ rs
unfolding or_else some
or_else_lem [] other h = absurd (false≢true h)
or_else_lem (r ∷ rs) other h = refl

or_none : (rs other : List (List ℕ)) → some rs ≡ false → or_else rs other ≡ other
unfolding or_else some
or_none [] other h = refl
or_none (r ∷ rs) other h = absurd (true≢false h)

-- an area that does not show the section is passed over
pub in_pass : (s : ℕ) (o : Option Area) (os : List (Option Area)) → shows s o ≡ false → records_in s (o ∷ os) ≡ records_in s os
unfolding records_in areas_of shows first_records
in_pass s None os e = refl
in_pass s (Some a) os e = go (cases_Bool (eqb s a.section))
  where
    go : (eqb s a.section ≡ true) ⊎ (eqb s a.section ≡ false) → first_records (cond (eqb s a.section) (a ∷ areas_of s os) (areas_of s os)) ≡ first_records (areas_of s os)
    go (inl h) = ap first_records (cond-true _ _ _ h) ∙ or_none a.records (first_records (areas_of s os)) (sym (ap (λ b. b && some a.records) h) ∙ e)
    go (inr h) = ap first_records (cond-false _ _ _ h)

pub in_here : (s : ℕ) (a : Area) (os : List (Option Area)) → shows s (Some a) ≡ true → records_in s (Some a ∷ os) ≡ a.records
unfolding records_in areas_of shows first_records
in_here s a os e =
    let p = and_parts (eqb s a.section) (some a.records) e in
    ap first_records (cond-true _ _ _ p.0) ∙ or_else_lem a.records _ p.1

none_in : (s : ℕ) → records_in s [] ≡ []
unfolding records_in areas_of first_records
none_in s = refl

shown_by : (s : ℕ) (bs : List ℕ) (o : Option Area) (os : List (Option Area)) → read bs ≡ o → shows s o ≡ true → records_in s (o ∷ os) ≡ records_of bs
unfolding shows
shown_by s bs None os e h = absurd (false≢true h)
shown_by s bs (Some a) os e h = in_here s a os h ∙ records_is bs a e

-- what a search for the area that shows the section answers

held_none : (s : ℕ) (os : List (Option Area)) → None ≡ find (shows s) os → records_in s os ≡ []
held_none s [] e = none_in s
held_none s (o ∷ os) e = go (cases_Bool (shows s o)) (held_none s os)
  where
    go : (shows s o ≡ true) ⊎ (shows s o ≡ false) → (None ≡ find (shows s) os → records_in s os ≡ []) → records_in s (o ∷ os) ≡ []
    go (inl h) ih = let f : None ≡ Some o = e ∙ cond-true _ _ _ h in let z : ◌≡◌ {A = ℕ} 0 1 = cc in absurd (omega arith)
    go (inr h) ih = in_pass s o os h ∙ ih (e ∙ cond-false _ _ _ h)

held_some : (s : ℕ) (os : List (Option Area)) (bs : List ℕ) → Some (read bs) ≡ find (shows s) os → records_in s os ≡ records_of bs
held_some s [] bs e = let z : ◌≡◌ {A = ℕ} 0 1 = cc in absurd (omega arith)
held_some s (o ∷ os) bs e = go (cases_Bool (shows s o)) (held_some s os bs)
  where
    go : (shows s o ≡ true) ⊎ (shows s o ≡ false) → (Some (read bs) ≡ find (shows s) os → records_in s os ≡ records_of bs) → records_in s (o ∷ os) ≡ records_of bs
    go (inl h) ih = let f : Some (read bs) ≡ Some o = e ∙ cond-true _ _ _ h in shown_by s bs o os (cc) h
    go (inr h) ih = in_pass s o os h ∙ ih (e ∙ cond-false _ _ _ h)

pub held_from : (s : ℕ) (os : List (Option Area)) (r : Option (Bor (List ℕ))) → option_map (λ x. read x.now) r ≡ find (shows s) os → MatchOption r (records_in s os ≡ []) (λ x. records_in s os ≡ records_of x.now)
held_from s os None e = held_none s os e
held_from s os (Some x) e = held_some s os x.now e

pub some_mapped : {X Y : Type 0} (f : X → Y) (o : Option X) → is_some (option_map f o) ≡ is_some o
some_mapped f None = refl
some_mapped f (Some x) = refl

-- a section has fewer records than an area has bytes
in_parts : (s n : ℕ) (bs : List ℕ) → length (records_in s (map read (parts n bs))) ≤ 4096
unfolding parts
in_parts s zero bs = let e : records_in s [] ≡ [] = none_in s in simp e (omega arith)
in_parts s (suc n) bs = go (cases_Bool (shows s (read (take 4096 bs)))) (in_parts s n (drop 4096 bs))
  where
    go : (shows s (read (take 4096 bs)) ≡ true) ⊎ (shows s (read (take 4096 bs)) ≡ false) → length (records_in s (map read (parts n (drop 4096 bs)))) ≤ 4096 → length (records_in s (map read (parts (suc n) bs))) ≤ 4096
    go (inl h) ih = simp (shown_by s (take 4096 bs) (read (take 4096 bs)) (map read (parts n (drop 4096 bs))) refl h) (omega (arith, count_of (take 4096 bs), length-take 4096 bs))
    go (inr h) ih = simp (in_pass s (read (take 4096 bs)) (map read (parts n (drop 4096 bs))) h) ih

pub in_few : (s : ℕ) (bs : List ℕ) → length (records_in s (plan bs)) ≤ 4096
unfolding plan areas_in
in_few s bs = in_parts s (length bs / 4096) bs
