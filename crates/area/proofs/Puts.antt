-- What is written at a place, and what it leaves. Assumes nothing.
use Rattle.std.proofs.Common.{◌≡◌, ℕ, ◌+◌, ◌-◌, ◌<◌, ◌≤◌, ◌≢◌, List, [], ◌∷◌, ◌++◌, length, get_or, take, drop, set, sym, refl, ap, ◌∙◌, subst, arith}
use Rattle.std.proofs.lemmas.List.{append_assoc, set-append_right, length-take-le, length-append, drop_more, length-drop, get_or-set_other, length-set, get_or_append_left, get_or-take, drop_at, take_at, drop-drop}
use Rattle.std.specs.Int.{w16, to_be_bytes}
use borrow.Rule.Slice.PartMut.{put_mid}
use Rattle.area.specs.Edits.{put, Kept, framed}

-- a copy over a part of the bytes
pub put_copied : (at k : ℕ) (bs out : List ℕ) → length bs ≡ k → put_mid at k out bs ≡ put at bs out
unfolding put
put_copied at k bs out l =
    sym (append_assoc (take at out) bs (drop k (drop at out))) ∙ ap (λ rest. take at out ++ bs ++ rest) (drop-drop k at out ∙ ap (λ n. drop (at + n) out) (sym l))

-- one more byte behind those that were put
put-more : (at : ℕ) (bs out : List ℕ) (b : ℕ) → at + length bs < length out → set (put at bs out) (at + length bs) b ≡ put at (bs ++ b ∷ []) out
unfolding put
put-more at bs out b h =
    let lt : length (take at out) ≡ at = length-take-le at out (omega arith) in
    let lf : length (take at out ++ bs) ≡ at + length bs = length-append (take at out) bs ∙ ap (λ n. n + length bs) lt in
    let d = drop_more out (at + length bs) 0 h in
    let s = set-append_right (take at out ++ bs) (drop (at + length bs) out) (at + length bs) (at + length bs) b lf (omega arith) in
    let z : at + length bs - (at + length bs) ≡ 0 = omega arith in
    let l : length (bs ++ b ∷ []) ≡ length bs + 1 = length-append bs (b ∷ []) in
    let k : at + (length bs + 1) ≡ at + length bs + 1 = omega arith in
    s ∙ simp (z, d, l, k, append_assoc)

-- a second part right behind the first
pub put-put : (at : ℕ) (f g out : List ℕ) → at + length f + length g ≤ length out → put (at + length f) g (put at f out) ≡ put at (f ++ g) out
unfolding put
put-put at f g out h =
    let lt : length (take at out) ≡ at = length-take-le at out (omega arith) in
    let lf : length (take at out ++ f) ≡ at + length f = length-append (take at out) f ∙ ap (λ n. n + length f) lt in
    let e1 = take_at (take at out ++ f) (drop (at + length f) out) (at + length f) lf in
    let e2 : drop (at + length f + length g) (put at f out) ≡ drop (at + length f + length g) out =
    sym (drop-drop (length g) (at + length f) (put at f out)) ∙ ap (drop (length g)) (drop_at (take at out ++ f) (drop (at + length f) out) (at + length f) lf) ∙ drop-drop (length g) (at + length f) out in
    let e3 : at + length (f ++ g) ≡ at + length f + length g = omega (arith, length-append f g) in
    simp (e1, e2) (simp (e3, append_assoc))

pub length-put : (at : ℕ) (bs out : List ℕ) → at + length bs ≤ length out → length (put at bs out) ≡ length out
unfolding put
length-put at bs out h =
    let lt : length (take at out) ≡ at = length-take-le at out (omega arith) in
    simp (length-append, length-drop, lt) (omega arith)

-- the bytes below a place stay

pub kept_refl : (e : ℕ) (old : List ℕ) → Kept e old old
kept_refl e old = record { len = refl; same = λ i h. refl }

pub kept_less : (e d : ℕ) (old new : List ℕ) → d ≤ e → Kept e old new → Kept d old new
kept_less e d old new h k = record { len = k.len; same = λ i l. k.same i (omega arith) }

pub kept_set : (e p b : ℕ) (old new : List ℕ) → e ≤ p → Kept e old new → Kept e old (set new p b)
kept_set e p b old new h k =
    record {
      len = length-set new p b ∙ k.len;
      same = λ i l. let ne : i ≢ p = (λ q. omega arith) in get_or-set_other new p i b 0 ne ∙ k.same i l;
    }

pub kept_put : (e p : ℕ) (bs old new : List ℕ) → e ≤ p → p + length bs ≤ length new → Kept e old new → Kept e old (put p bs new)
unfolding put
kept_put e p bs old new h l k =
    record {
      len = length-put p bs new l ∙ k.len;
      same = λ i j.
          let lt : length (take p new) ≡ p = length-take-le p new (omega arith) in
          let a : i < length (take p new) = omega arith in
          let q : i < p = omega arith in
          ap (λ x. get_or x i 0) (append_assoc (take p new) bs (drop (p + length bs) new)) ∙ get_or_append_left (take p new) (bs ++ drop (p + length bs) new) 0 i a ∙ get_or-take p new i 0 q ∙ k.same i j;
    }

-- what was put leaves the bytes below its place
pub kept_by : (e p : ℕ) (bs old mid : List ℕ) → mid ≡ put p bs old → e ≤ p → p + length bs ≤ length old → Kept e old mid
kept_by e p bs old mid w h l =
    subst (λ (a : List ℕ). Kept e old a) (sym w) (kept_put e p bs old old h l (kept_refl e old))

pub kept_then : (e : ℕ) (a b c : List ℕ) → Kept e a b → Kept e b c → Kept e a c
kept_then e a b c k l = record { len = l.len ∙ k.len; same = λ i h. l.same i h ∙ k.same i h }

pub length-framed : (body : List ℕ) → length (framed body) ≡ length body + 3
unfolding framed
length-framed body = simp length-append (omega arith)

-- a frame in three parts
module _ (old a1 : List ℕ) (e hi lo : ℕ) (room : e + 3 ≤ length old) (w1 : a1 ≡ put (e + 1) (hi ∷ lo ∷ []) old) where
  pub head-kept : Kept (e + 1) old a1
  head-kept = subst (λ (a : List ℕ). Kept (e + 1) old a) (sym w1) (kept_put (e + 1) (e + 1) (hi ∷ lo ∷ []) old old (omega arith) (omega arith) (kept_refl (e + 1) old))

  pub body_kept : (g a2 : List ℕ) → e + 3 + length g ≤ length old → a2 ≡ put (e + 3) g a1 → Kept (e + 1) old a2
  body_kept g a2 fits w2 = subst (λ (a : List ℕ). Kept (e + 1) old a) (sym w2) (kept_put (e + 1) (e + 3) g old a1 (omega arith) (omega (arith, head-kept.len)) head-kept)

pub frame_whole : (old a1 a2 body : List ℕ) (e : ℕ) → e + 3 + length body < length old → a1 ≡ put (e + 1) (to_be_bytes w16 (length body)) old → a2 ≡ put (e + 3) body a1 → set a2 (e + 3 + length body) 0 ≡ put (e + 1) (framed body) old
unfolding framed
frame_whole old a1 a2 body e fits w1 w2 =
    let hl = to_be_bytes w16 (length body) in
    let k : e + 3 ≡ e + 1 + 2 = omega arith in
    let x : a2 ≡ put (e + 1) (hl ++ body) old = w2 ∙ ap (λ a. put (e + 3) body a) w1 ∙ ap (λ i. put i body (put (e + 1) hl old)) k ∙ put-put (e + 1) hl body old (omega arith) in
    let n : e + 3 + length body ≡ e + 1 + length (hl ++ body) = omega arith in
    ap (λ a. set a (e + 3 + length body) 0) x ∙ ap (λ i. set (put (e + 1) (hl ++ body) old) i 0) n ∙ put-more (e + 1) (hl ++ body) old 0 (omega arith)

pub framed_kept : (old new body : List ℕ) (e : ℕ) → e + 3 + length body < length old → new ≡ put (e + 1) (framed body) old → Kept (e + 1) old new
framed_kept old new body e fits w =
    subst (λ (a : List ℕ). Kept (e + 1) old a) (sym w) (kept_put (e + 1) (e + 1) (framed body) old old (omega arith) (omega (arith, length-framed body)) (kept_refl (e + 1) old))
