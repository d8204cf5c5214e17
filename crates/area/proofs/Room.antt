-- When a record has room in an area. Assumes nothing.
use Rattle.std.proofs.Common.{◌≡◌, ℕ, ◌+◌, ◌<◌, ◌≤◌, true, false, not, leb, ◌⊎◌, List, length, get_or, is_some, sym, ap, ◌∙◌, inl, inr}
use Rattle.std.proofs.lemmas.Bool.{and_parts, leb-true, ltb-true, not-true, cases_eq, true≢false}
use Rattle.area.specs.Area.{end_of, defect_at, defect_of, area_of, fits}
use Rattle.area.proofs.Marks.{defect-length, defect_mark, defect_used, defect_other}

pub record Room (bs : List ℕ) (n : ℕ) : Type 0 where
  pub used : get_or bs 0 0 ≡ 1
  pub ended : get_or bs (end_of bs) 0 ≡ 0
  pub short : n ≤ 1068
  pub inside : end_of bs + 3 + n < length bs

-- an area has no defect exactly where its mark is 1 and an end mark stands behind its records
pub sound_used : (bs : List ℕ) → is_some (defect_of bs) ≡ false → get_or bs 0 0 ≡ 1
sound_used bs h = go (cases_eq (get_or bs 0 0) 1)
  where
    go : (get_or bs 0 0 ≡ 1) ⊎ (get_or bs 0 0 ≡ 1 → ⊥) → get_or bs 0 0 ≡ 1
    go (inl e) = e
    go (inr e) = absurd (true≢false (sym (ap is_some (defect_other bs e)) ∙ h))

pub sound-at : (m : ℕ) → is_some (defect_at m) ≡ false → m ≡ 0
sound-at m h = go (cases_eq m 0) (cases_eq m 1)
  where
    go : (m ≡ 0) ⊎ (m ≡ 0 → ⊥) → (m ≡ 1) ⊎ (m ≡ 1 → ⊥) → m ≡ 0
    go (inl e) o = e
    go (inr e) (inl f) = absurd (true≢false (sym (ap is_some (defect-length m f)) ∙ h))
    go (inr e) (inr f) = absurd (true≢false (sym (ap is_some (defect_mark m e f)) ∙ h))

pub sound-ended : (bs : List ℕ) → is_some (defect_of bs) ≡ false → get_or bs (end_of bs) 0 ≡ 0
sound-ended bs h =
    sound-at (get_or bs (end_of bs) 0) (sym (ap is_some (defect_used bs (sound_used bs h))) ∙ h)

pub from-room : (bs : List ℕ) (n : ℕ) → fits (length bs) (area_of bs) n ≡ true → Room bs n
unfolding fits area_of end_of
from-room bs n h =
    let p = and_parts (not (is_some (defect_of bs))) _ h in
    let q = and_parts (leb n 1068) _ p.1 in
    let s : is_some (defect_of bs) ≡ false = not-true _ p.0 in
    record { used = sound_used bs s; ended = sound-ended bs s; short = leb-true _ _ q.0; inside = ltb-true _ _ q.1 }
