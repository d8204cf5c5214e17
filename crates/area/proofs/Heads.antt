-- What a new area, one with a record more, and a freed one read as. Assumes nothing.
use Rattle.std.proofs.Common.{◌≡◌, ℕ, ◌+◌, ◌-◌, ◌/◌, ◌%◌, ◌<◌, ◌≤◌, true, ◌≢◌, List, [], ◌∷◌, ◌++◌, length, get_or, take, drop, set, min, eqb, leb, Some, None, Ok, Err, Option, Result, sym, refl, ap, ◌∙◌, subst, arith}
use Rattle.std.proofs.lemmas.List.{append_assoc, length-take-le, length-set, get_or-drop, get_or_at, get_or-append_right, get_or-set_other, get_or-set_same, drop-set-lt, drop_at, drop-drop, take_at, ext_get_or}
use Rattle.area.specs.Area.{size, body, records_at, extent, records_of, end_of, section_of, defect_of, area_of, read, fits, started, pushed}
use Rattle.std.proofs.lemmas.Nat.{from_be_bytes-to_be_bytes_8}
use Rattle.std.specs.Int.{w64, to_be_bytes}
use Rattle.area.specs.Edits.{Kept, put, framed, added, begun}
use Rattle.area.proofs.Steps.{size_is, holds-from, none_by_mark, at_more, at_none, of_used, end-past}
use Rattle.area.proofs.Marks.{defect_used, defect_none, read_used, read-free}
use Rattle.area.proofs.Puts.{kept_refl, kept_put, length-framed, length-put}
use Rattle.area.proofs.Onward.{area_of_lem, section-same, end-onward, records-onward, kept_read}
use Rattle.area.proofs.Room.{Room, from-room}
use Rattle.std.proofs.lemmas.Bool.{and_from, eq-eqb, le-leb}
use Rattle.journal.specs.declared.stops.Stop.{Stop}
use Rattle.journal.specs.declared.stops.Stop.TheVariants.{Full, Pruned, Off}
use Rattle.area.specs.Writes.{Stored, Appended, Started, Freed}

-- a byte of what was put
pub get_d_put : (at j : ℕ) (bs out : List ℕ) → at ≤ length out → get_or (put at bs out) (at + j) 0 ≡ get_or (bs ++ drop (at + length bs) out) j 0
unfolding put
get_d_put at j bs out h =
    let l : length (take at out) ≡ at = length-take-le at out h in
    let z : at + j - at ≡ j = omega arith in
    ap (λ x. get_or x (at + j) 0) (append_assoc (take at out) bs (drop (at + length bs) out))
    ∙ get_or-append_right (take at out) (bs ++ drop (at + length bs) out) at (at + j) 0 l (omega arith)
    ∙ ap (λ i. get_or (bs ++ drop (at + length bs) out) i 0) z

module _ (bs : List ℕ) (s : ℕ) (long : 9 < length bs) where
  head-len : length (put 1 (to_be_bytes w64 s) bs) ≡ length bs
  head-len = length-put 1 (to_be_bytes w64 s) bs (omega arith)

  head_byte : (j : ℕ) → j < 8 → get_or (begun s bs) (1 + j) 0 ≡ get_or (to_be_bytes w64 s ++ drop (1 + length (to_be_bytes w64 s)) bs) j 0
  unfolding begun
  head_byte j h =
      let ne : 1 + j ≢ 0 = (λ q. omega arith) in
      let nf : 1 + j ≢ 9 = (λ q. omega arith) in
      get_or-set_other (set (put 1 (to_be_bytes w64 s) bs) 9 0) 0 (1 + j) 1 0 ne ∙ get_or-set_other (put 1 (to_be_bytes w64 s) bs) 9 (1 + j) 0 0 nf ∙ get_d_put 1 j (to_be_bytes w64 s) bs (omega arith)

  head_mark : get_or (begun s bs) 0 0 ≡ 1
  unfolding begun
  head_mark = get_or-set_same (set (put 1 (to_be_bytes w64 s) bs) 9 0) 0 1 0 (simp (length-set, head-len) (omega arith))

  head-end : get_or (begun s bs) 9 0 ≡ 0
  unfolding begun
  head-end =
      let ne : ◌≢◌ {A = ℕ} 9 0 = (λ q. omega arith) in
      get_or-set_other (set (put 1 (to_be_bytes w64 s) bs) 9 0) 0 9 1 0 ne ∙ get_or-set_same (put 1 (to_be_bytes w64 s) bs) 9 0 0 (simp head-len (omega arith))

  head-section : s < 18446744073709551616 → section_of (begun s bs) ≡ s
  unfolding section_of
  head-section h =
      let a = get_or-drop 1 (begun s bs) 0 0 ∙ head_byte 0 (omega arith) in
      let b = get_or-drop 1 (begun s bs) 1 0 ∙ head_byte 1 (omega arith) in
      let c = get_or-drop 1 (begun s bs) 2 0 ∙ head_byte 2 (omega arith) in
      let d = get_or-drop 1 (begun s bs) 3 0 ∙ head_byte 3 (omega arith) in
      let e = get_or-drop 1 (begun s bs) 4 0 ∙ head_byte 4 (omega arith) in
      let f = get_or-drop 1 (begun s bs) 5 0 ∙ head_byte 5 (omega arith) in
      let g = get_or-drop 1 (begun s bs) 6 0 ∙ head_byte 6 (omega arith) in
      let i = get_or-drop 1 (begun s bs) 7 0 ∙ head_byte 7 (omega arith) in
      simp (a, b, c, d, e, f, g, i) (from_be_bytes-to_be_bytes_8 s h)

  pub begun-read : s < 18446744073709551616 → read (begun s bs) ≡ Some (started s)
  unfolding area_of started end_of extent
  begun-read h =
      let m = head_mark in
      let n : records_of (begun s bs) ≡ [] = of_used (begun s bs) m ∙ at_none (begun s bs) 9 (none_by_mark (begun s bs) 9 (λ q. omega (arith, head-end))) in
      let d : end_of (begun s bs) ≡ 9 = ap (λ rs. 9 + extent rs) n in
      let f : defect_of (begun s bs) ≡ None = defect_used (begun s bs) m ∙ defect_none _ (ap (λ i. get_or (begun s bs) i 0) d ∙ head-end) in
      read_used (begun s bs) (λ q. omega arith) ∙ ap Some (area_of_lem (head-section h) n f)

-- a free area is read as such, whatever lies behind its mark
pub free-read : (bs cs : List ℕ) → get_or bs 0 0 ≡ 0 → Kept 1 bs cs → read cs ≡ None
free-read bs cs m k = read-free cs (k.same 0 (omega arith) ∙ m)

pub freed-read : (bs : List ℕ) → 0 < length bs → read (set bs 0 0) ≡ None
freed-read bs h = read-free (set bs 0 0) (get_or-set_same bs 0 0 0 h)

-- one record more
module _ (bs new : List ℕ) (r : Room bs (length new)) where
  frame_room : end_of bs + 1 + length (framed new) ≤ length bs
  frame_room = omega (arith, length-framed new, r.inside)

  frame_kept : Kept (end_of bs + 1) bs (put (end_of bs + 1) (framed new) bs)
  frame_kept = kept_put (end_of bs + 1) (end_of bs + 1) (framed new) bs bs (omega arith) frame_room (kept_refl (end_of bs + 1) bs)

  more-len : length (added (end_of bs) new bs) ≡ length bs
  unfolding added
  more-len = length-set (put (end_of bs + 1) (framed new) bs) (end_of bs) 1 ∙ frame_kept.len

  more_same : (k : ℕ) → k < end_of bs → get_or (added (end_of bs) new bs) k 0 ≡ get_or bs k 0
  unfolding added
  more_same k h =
      let ne : k ≢ end_of bs = (λ q. omega arith) in
      get_or-set_other (put (end_of bs + 1) (framed new) bs) (end_of bs) k 1 0 ne ∙ frame_kept.same k (omega arith)

  more_mark : get_or (added (end_of bs) new bs) (end_of bs) 0 ≡ 1
  unfolding added
  more_mark = get_or-set_same (put (end_of bs + 1) (framed new) bs) (end_of bs) 1 0 (omega (arith, frame_kept.len, r.inside))

  more_rest : drop (end_of bs + 1) (added (end_of bs) new bs) ≡ framed new ++ drop (end_of bs + 1 + length (framed new)) bs
  unfolding added put
  more_rest =
      let e = end_of bs in
      let rest = drop (e + 1 + length (framed new)) bs in
      let lt : length (take (e + 1) bs) ≡ e + 1 = length-take-le (e + 1) bs (omega (arith, r.inside)) in
      drop-set-lt (e + 1) (put (e + 1) (framed new) bs) e 1 (omega arith) ∙ ap (drop (e + 1)) (append_assoc (take (e + 1) bs) (framed new) rest) ∙ drop_at (take (e + 1) bs) (framed new ++ rest) (e + 1) lt

  more_high : get_or (added (end_of bs) new bs) (end_of bs + 1) 0 ≡ length new / 256 % 256
  unfolding framed
  more_high =
      let c = added (end_of bs) new bs in
      let z : end_of bs + 1 ≡ end_of bs + 1 + 0 = omega arith in
      ap (λ i. get_or c i 0) z ∙ sym (get_or-drop (end_of bs + 1) c 0 0) ∙ ap (λ l. get_or l 0 0) more_rest

  more-low : get_or (added (end_of bs) new bs) (end_of bs + 2) 0 ≡ length new % 256
  unfolding framed
  more-low =
      let c = added (end_of bs) new bs in
      let z : end_of bs + 2 ≡ end_of bs + 1 + 1 = omega arith in
      ap (λ i. get_or c i 0) z ∙ sym (get_or-drop (end_of bs + 1) c 1 0) ∙ ap (λ l. get_or l 1 0) more_rest

  more-size : size (added (end_of bs) new bs) (end_of bs) ≡ length new
  more-size = let n = r.short in omega (arith, size_is (added (end_of bs) new bs) (end_of bs), more_high, more-low)

  more_tail : drop (end_of bs + 3) (added (end_of bs) new bs) ≡ new ++ 0 ∷ drop (end_of bs + 1 + length (framed new)) bs
  unfolding framed
  more_tail =
      let c = added (end_of bs) new bs in
      let z : end_of bs + 3 ≡ end_of bs + 1 + 2 = omega arith in
      ap (λ i. drop i c) z ∙ sym (drop-drop 2 (end_of bs + 1) c) ∙ ap (drop 2) more_rest ∙ append_assoc new (0 ∷ []) (drop (end_of bs + 1 + length (framed new)) bs)

  more-body : body (added (end_of bs) new bs) (end_of bs) ≡ new
  unfolding body
  more-body =
      let c = added (end_of bs) new bs in
      ap (λ n. take n (drop (end_of bs + 3) c)) more-size ∙ ap (take (length new)) more_tail ∙ take_at new (0 ∷ drop (end_of bs + 1 + length (framed new)) bs) (length new) refl

  more-end : get_or (added (end_of bs) new bs) (end_of bs + 3 + length new) 0 ≡ 0
  more-end =
      sym (get_or-drop (end_of bs + 3) (added (end_of bs) new bs) (length new) 0) ∙ ap (λ l. get_or l (length new) 0) more_tail ∙ get_or_at new 0 (drop (end_of bs + 1 + length (framed new)) bs) 0 (length new) refl

  more-at : records_at (added (end_of bs) new bs) (end_of bs) ≡ new ∷ []
  more-at =
      let c = added (end_of bs) new bs in
      let h = holds-from c (end_of bs) more_mark (omega (arith, more-size, r.short)) (omega (arith, more-size, more-len, r.inside)) in
      let n = at_none c (end_of bs + 3 + length new) (none_by_mark c (end_of bs + 3 + length new) (λ q. omega (arith, more-end))) in
      at_more c (end_of bs) h ∙ ap (λ b. b ∷ records_at c (end_of bs + 3 + size c (end_of bs))) more-body ∙ ap (λ k. new ∷ records_at c (end_of bs + 3 + k)) more-size ∙ ap (λ rs. new ∷ rs) n

  pub added-read : read (added (end_of bs) new bs) ≡ Some (pushed (area_of bs) new)
  unfolding area_of pushed extent
  added-read =
      let c = added (end_of bs) new bs in
      let p = end-past bs in
      let m : get_or c 0 0 ≡ 1 = more_same 0 (omega arith) ∙ r.used in
      let n : records_of c ≡ records_of bs ++ new ∷ [] = records-onward bs c r.used more-len more_same ∙ ap (λ rs. records_of bs ++ rs) more-at in
      let d : end_of c ≡ end_of bs + (3 + length new + 0) = end-onward bs c (new ∷ []) n in
      let d' : end_of c ≡ end_of bs + 3 + length new = omega arith in
      let f : defect_of c ≡ defect_of bs = defect_used c m ∙ defect_none _ (ap (λ i. get_or c i 0) d' ∙ more-end) ∙ sym (defect_used bs r.used ∙ defect_none _ r.ended) in
      let s : section_of c ≡ section_of bs = section-same bs c (λ i l. more_same i (omega arith)) in
      read_used c (λ q. omega arith) ∙ ap Some (area_of_lem s n f)

-- what each writer does, from its stores

pub appended_from : (bs new cs : List ℕ) (p q : Option ℕ) (e : ℕ) (r : Result (Unit {0}) Stop) → fits (length bs) (area_of bs) (length new) ≡ true → e ≡ end_of bs → Stored (length new + 4) (e + 1) bs (added e new bs) p r cs q → Appended bs p new r cs q
appended_from bs new cs p q e (Ok x) f z w =
    let m = from-room bs (length new) f in
    let g : cs ≡ added (end_of bs) new bs = w.1 ∙ ap (λ k. added k new bs) z in
    (f, w.0, g, ap read g ∙ added-read bs new m)
appended_from bs new cs p q e (Err Full) f z w = absurd w
appended_from bs new cs p q e (Err Pruned) f z w = w
appended_from bs new cs p q e (Err Off) f z w =
    let m = from-room bs (length new) f in
    let k : Kept (end_of bs + 1) bs cs = subst (λ (k : ℕ). Kept (k + 1) bs cs) z w.1 in
    (f, w.0, k, kept_read bs cs m.used m.ended k)

pub started_from : (bs cs : List ℕ) (p q : Option ℕ) (s : ℕ) (r : Result (Unit {0}) Stop) → get_or bs 0 0 ≡ 0 → 9 < length bs → s < 18446744073709551616 → Stored 10 1 bs (begun s bs) p r cs q → Started bs p s r cs q
started_from bs cs p q s (Ok x) m h f w =
    let v = and_from (eqb (get_or bs 0 0) 0) (leb 10 (length bs)) (eq-eqb _ _ m) (le-leb _ _ (omega arith)) in
    (v, w.0, w.1, ap read w.1 ∙ begun-read bs s h f)
started_from bs cs p q s (Err Full) m h f w = absurd w
started_from bs cs p q s (Err Pruned) m h f w = w
started_from bs cs p q s (Err Off) m h f w =
    let v = and_from (eqb (get_or bs 0 0) 0) (leb 10 (length bs)) (eq-eqb _ _ m) (le-leb _ _ (omega arith)) in
    (v, w.0, w.1, free-read bs cs m w.1)

pub freed_from : (bs cs : List ℕ) (p q : Option ℕ) (r : Result (Unit {0}) Stop) → 0 < length bs → Stored 1 (length bs) bs (set bs 0 0) p r cs q → Freed bs p r cs q
freed_from bs cs p q (Ok x) h w =
    let l : min 1 (length bs) ≡ 1 = omega arith in
    simp l (w.0, w.1, ap read w.1 ∙ freed-read bs h)
freed_from bs cs p q (Err Full) h w = w
freed_from bs cs p q (Err Pruned) h w = w
freed_from bs cs p q (Err Off) h w =
    let l : min 1 (length bs) ≡ 1 = omega arith in
    simp l (w.0, ext_get_or 0 cs bs w.1.len (λ i u. w.1.same i (omega (arith, w.1.len))))
