-- What an area reads as once bytes behind its records were written. Assumes nothing.
use Rattle.std.proofs.Common.{◌≡◌, ℕ, zero, suc, ◌+◌, ◌<◌, ◌≤◌, true, false, ◌⊎◌, List, [], ◌∷◌, ◌++◌, length, get_or, take, drop, Some, Option, sym, refl, ap, ◌∙◌, inl, inr, arith}
use Rattle.std.proofs.lemmas.List.{append-nil, length-take-le, length-drop, get_or-take, get_or-drop, ext_get_or}
use Rattle.std.proofs.lemmas.Bool.{cases_Bool}
use Rattle.journal.specs.declared.places.Defect.{Defect}
use Rattle.area.specs.Area.{size, holds, body, records_at, extent, records_of, end_of, section_of, defect_of, area_of, read, Area}
use Rattle.area.specs.Edits.{Kept}
use Rattle.area.proofs.Steps.{size_is, holds-from, whole_from, none_by_mark, at_more, at_none, extent-more, extent-append, of_used, end-past}
use Rattle.area.proofs.Marks.{defect_used, defect_none, read_used}

size_same : (bs cs : List ℕ) (at : ℕ) → get_or cs (at + 1) 0 ≡ get_or bs (at + 1) 0 → get_or cs (at + 2) 0 ≡ get_or bs (at + 2) 0 → size cs at ≡ size bs at
size_same bs cs at p q = let x = size_is bs at in let y = size_is cs at in cc

body_same : (bs cs : List ℕ) (at : ℕ) → size cs at ≡ size bs at → length cs ≡ length bs → at + 3 + size bs at ≤ length bs → ((k : ℕ) → k < at + 3 + size bs at → get_or cs k 0 ≡ get_or bs k 0) → body cs at ≡ body bs at
unfolding body
body_same bs cs at z len fit same =
    let n = size bs at in
    let lb : length (take n (drop (at + 3) bs)) ≡ n = length-take-le n (drop (at + 3) bs) (simp length-drop (omega arith)) in
    let lc : length (take n (drop (at + 3) cs)) ≡ n = length-take-le n (drop (at + 3) cs) (simp length-drop (omega arith)) in
    let each : (i : ℕ) → i < length (take n (drop (at + 3) cs)) → get_or (take n (drop (at + 3) cs)) i 0 ≡ get_or (take n (drop (at + 3) bs)) i 0 =
    λ i h.
    let u : i < n = omega arith in
    get_or-take n (drop (at + 3) cs) i 0 u ∙ get_or-drop (at + 3) cs i 0 ∙ same (at + 3 + i) (omega arith) ∙ sym (get_or-drop (at + 3) bs i 0) ∙ sym (get_or-take n (drop (at + 3) bs) i 0 u) in
    ap (λ k. take k (drop (at + 3) cs)) z ∙ ext_get_or 0 _ _ (lc ∙ sym lb) each

-- one record at a place below which the bytes stayed
step_same : (bs cs : List ℕ) (at : ℕ) → holds bs at ≡ true → length cs ≡ length bs → ((k : ℕ) → k < at + 3 + size bs at → get_or cs k 0 ≡ get_or bs k 0) → (size cs at ≡ size bs at) × (holds cs at ≡ true) × (body cs at ≡ body bs at)
step_same bs cs at h len same =
    let w = whole_from bs at h in
    let z = size_same bs cs at (same (at + 1) (omega arith)) (same (at + 2) (omega arith)) in
    (z, holds-from cs at (same at (omega arith) ∙ w.mark) (omega (arith, w.short)) (omega (arith, w.inside)), body_same bs cs at z len w.inside same)

-- where no record stands
onward_none : (bs cs : List ℕ) (at : ℕ) → holds bs at ≡ false → records_at cs at ≡ records_at bs at ++ records_at cs (at + extent (records_at bs at))
unfolding extent
onward_none bs cs at h = let z : at + 0 ≡ at = omega arith in simp (at_none bs at h, z)

-- where one stands, from what holds behind it
onward-more : (bs cs : List ℕ) (at : ℕ) → holds bs at ≡ true → length cs ≡ length bs → ((k : ℕ) → k < at + extent (records_at bs at) → get_or cs k 0 ≡ get_or bs k 0) → records_at cs (at + 3 + size bs at) ≡ records_at bs (at + 3 + size bs at) ++ records_at cs (at + 3 + size bs at + extent (records_at bs (at + 3 + size bs at))) → records_at cs at ≡ records_at bs at ++ records_at cs (at + extent (records_at bs at))
onward-more bs cs at h len same ih =
    let x = extent-more bs at (at + 3 + size bs at) h refl in
    let s = step_same bs cs at h len (λ k l. same k (omega arith)) in
    at_more cs at s.1
    ∙ ap (λ b. b ∷ records_at cs (at + 3 + size cs at)) s.2
    ∙ ap (λ n. body bs at ∷ records_at cs (at + 3 + n)) s.0
    ∙ ap (λ rs. body bs at ∷ rs) ih
    ∙ ap (λ e. (body bs at ∷ records_at bs (at + 3 + size bs at)) ++ records_at cs e) (sym x)
    ∙ ap (λ rs. rs ++ records_at cs (at + extent (records_at bs at))) (sym (at_more bs at h))

-- where the bytes of the records stay, the records stay, and what is read from there on comes behind them
pub onward : (f : ℕ) (bs cs : List ℕ) (at : ℕ) → length bs ≤ f + at → length cs ≡ length bs → ((k : ℕ) → k < at + extent (records_at bs at) → get_or cs k 0 ≡ get_or bs k 0) → records_at cs at ≡ records_at bs at ++ records_at cs (at + extent (records_at bs at))
onward zero bs cs at l len same = go (cases_Bool (holds bs at))
  where
    go : (holds bs at ≡ true) ⊎ (holds bs at ≡ false) → records_at cs at ≡ records_at bs at ++ records_at cs (at + extent (records_at bs at))
    go (inl h) = let w = whole_from bs at h in absurd (omega (arith, w.inside))
    go (inr h) = onward_none bs cs at h
onward (suc f) bs cs at l len same = go (cases_Bool (holds bs at)) (onward f bs cs (at + 3 + size bs at) (omega arith) len)
  where
    go : (holds bs at ≡ true) ⊎ (holds bs at ≡ false) → (((k : ℕ) → k < at + 3 + size bs at + extent (records_at bs (at + 3 + size bs at)) → get_or cs k 0 ≡ get_or bs k 0) → records_at cs (at + 3 + size bs at) ≡ records_at bs (at + 3 + size bs at) ++ records_at cs (at + 3 + size bs at + extent (records_at bs (at + 3 + size bs at)))) → records_at cs at ≡ records_at bs at ++ records_at cs (at + extent (records_at bs at))
    go (inl h) ih =
        let x = extent-more bs at (at + 3 + size bs at) h refl in
        onward-more bs cs at h len same (ih (λ k m. same k (omega arith)))
    go (inr h) ih = onward_none bs cs at h

-- the records of an area in use whose bytes below the end stayed
pub records-onward : (bs cs : List ℕ) → get_or bs 0 0 ≡ 1 → length cs ≡ length bs → ((k : ℕ) → k < end_of bs → get_or cs k 0 ≡ get_or bs k 0) → records_of cs ≡ records_of bs ++ records_at cs (end_of bs)
unfolding end_of
records-onward bs cs m len same =
    let u = of_used bs m in
    let v = of_used cs (same 0 (omega arith) ∙ m) in
    let o = onward (length bs) bs cs 9 (omega arith) len (λ k l. same k (simp u l)) in
    v ∙ o ∙ simp u

pub area_of_lem : {s t : ℕ} {rs ts : List (List ℕ)} {f g : Option Defect} → s ≡ t → rs ≡ ts → f ≡ g → ◌≡◌ {A = Area} (record { section = s; records = rs; defect = f }) (record { section = t; records = ts; defect = g })
area_of_lem p q r = cc

pub section-same : (bs cs : List ℕ) → ((k : ℕ) → k < 9 → get_or cs k 0 ≡ get_or bs k 0) → section_of cs ≡ section_of bs
unfolding section_of
section-same bs cs same =
    let byte : (j : ℕ) → j < 8 → get_or (drop 1 cs) j 0 ≡ get_or (drop 1 bs) j 0 = λ j h. get_or-drop 1 cs j 0 ∙ same (1 + j) (omega arith) ∙ sym (get_or-drop 1 bs j 0) in
    let a = byte 0 (omega arith) in
    let b = byte 1 (omega arith) in
    let c = byte 2 (omega arith) in
    let d = byte 3 (omega arith) in
    let e = byte 4 (omega arith) in
    let f = byte 5 (omega arith) in
    let g = byte 6 (omega arith) in
    let h = byte 7 (omega arith) in
    cc

-- an area in use with one record at its end, or none: what stands there and behind it makes up the rest
pub end-onward : (bs cs : List ℕ) (more : List (List ℕ)) → records_of cs ≡ records_of bs ++ more → end_of cs ≡ end_of bs + extent more
unfolding end_of
end-onward bs cs more e = let x = extent-append (records_of bs) more in simp e (omega arith)

-- with the end mark in its place the area reads as before
pub kept_read : (bs cs : List ℕ) → get_or bs 0 0 ≡ 1 → get_or bs (end_of bs) 0 ≡ 0 → Kept (end_of bs + 1) bs cs → read cs ≡ read bs
unfolding area_of end_of
kept_read bs cs m z k =
    let p = end-past bs in
    let u : get_or cs 0 0 ≡ 1 = k.same 0 (omega arith) ∙ m in
    let e : get_or cs (end_of bs) 0 ≡ 0 = k.same (end_of bs) (omega arith) ∙ z in
    let n : records_at cs (end_of bs) ≡ [] = at_none cs (end_of bs) (none_by_mark cs (end_of bs) (λ h. omega arith)) in
    let r : records_of cs ≡ records_of bs = records-onward bs cs m k.len (λ i l. k.same i (omega arith)) ∙ ap (λ x. records_of bs ++ x) n ∙ append-nil (records_of bs) in
    let d : end_of cs ≡ end_of bs = ap (λ rs. 9 + extent rs) r in
    let f : defect_of cs ≡ defect_of bs = defect_used cs u ∙ defect_none _ (ap (λ i. get_or cs i 0) d ∙ e) ∙ sym (defect_used bs m ∙ defect_none _ z) in
    let s : section_of cs ≡ section_of bs = section-same bs cs (λ i l. k.same i (omega (arith, end-past bs))) in
    read_used cs (λ h. omega arith) ∙ ap Some (area_of_lem s r f) ∙ sym (read_used bs (λ h. omega arith))
