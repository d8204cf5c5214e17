-- What an area reads as, by its mark. Assumes nothing.
use Rattle.std.proofs.Common.{◌≡◌, ℕ, true, false, eqb, ◌⊎◌, List, get_or, Some, None, sym, ◌∙◌, inl, inr, arith}
use Rattle.std.proofs.lemmas.Bool.{eq-eqb, ne_eqb, cond-true, cond-false, cases_Bool}
use Rattle.journal.specs.declared.places.Defect.TheVariants.{Mark, Length}
use Rattle.area.specs.Area.{defect_at, defect_of, end_of, area_of, read, Area}

pub defect_none : (m : ℕ) → m ≡ 0 → defect_at m ≡ None
unfolding defect_at
defect_none m e = cond-true _ _ _ (eq-eqb _ _ e)

pub defect-length : (m : ℕ) → m ≡ 1 → defect_at m ≡ Some Length
unfolding defect_at
defect-length m e = simp e

pub defect_mark : (m : ℕ) → (m ≡ 0 → ⊥) → (m ≡ 1 → ⊥) → defect_at m ≡ Some Mark
unfolding defect_at
defect_mark m e f = cond-false _ _ _ (ne_eqb _ _ e) ∙ cond-false _ _ _ (ne_eqb _ _ f)

pub defect_used : (bs : List ℕ) → get_or bs 0 0 ≡ 1 → defect_of bs ≡ defect_at (get_or bs (end_of bs) 0)
unfolding defect_of
defect_used bs m = cond-true _ _ _ (eq-eqb _ _ m)

pub defect_other : (bs : List ℕ) → (get_or bs 0 0 ≡ 1 → ⊥) → defect_of bs ≡ Some Mark
unfolding defect_of
defect_other bs m = cond-false _ _ _ (ne_eqb _ _ m)

pub read-free : (bs : List ℕ) → get_or bs 0 0 ≡ 0 → read bs ≡ None
unfolding read
read-free bs m = cond-true _ _ _ (eq-eqb _ _ m)

pub read_used : (bs : List ℕ) → (get_or bs 0 0 ≡ 0 → ⊥) → read bs ≡ Some (area_of bs)
unfolding read
read_used bs m = cond-false _ _ _ (ne_eqb _ _ m)

-- what an area in use reads as
pub read_is : (bs : List ℕ) (a : Area) → read bs ≡ Some a → area_of bs ≡ a
unfolding read
read_is bs a e = go (cases_Bool (eqb (get_or bs 0 0) 0))
  where
    go : (eqb (get_or bs 0 0) 0 ≡ true) ⊎ (eqb (get_or bs 0 0) 0 ≡ false) → area_of bs ≡ a
    go (inl h) = let f : None ≡ Some a = sym (cond-true _ None (Some (area_of bs)) h) ∙ e in let z : ◌≡◌ {A = ℕ} 0 1 = cc in absurd (omega arith)
    go (inr h) = let f : Some (area_of bs) ≡ Some a = sym (cond-false _ None (Some (area_of bs)) h) ∙ e in cc

-- a free area has the mark 0
pub free_mark : (bs : List ℕ) → read bs ≡ None → eqb (get_or bs 0 0) 0 ≡ true
unfolding read
free_mark bs e = go (cases_Bool (eqb (get_or bs 0 0) 0))
  where
    go : (eqb (get_or bs 0 0) 0 ≡ true) ⊎ (eqb (get_or bs 0 0) 0 ≡ false) → eqb (get_or bs 0 0) 0 ≡ true
    go (inl h) = h
    go (inr h) = let f : Some (area_of bs) ≡ None = sym (cond-false _ None (Some (area_of bs)) h) ∙ e in let z : ◌≡◌ {A = ℕ} 0 1 = cc in absurd (omega arith)
