-- A fault names the first byte with which nothing valid begins.
use Rattle.std.proofs.Common.{◌≡◌, ℕ, suc, ◌+◌, ◌<◌, ◌≤◌, List, [], ◌∷◌, ◌++◌, length, take, drop, Ok, Err, Result, sym, refl, ap, ◌∙◌, arith}
use lib.Seq.{take-append-add}
use Rattle.std.proofs.lemmas.Bool.{ne_eqb}
use Rattle.std.proofs.lemmas.List.{append_assoc, append-nil, length-append, take_at, take-append-drop}
use Rattle.std.proofs.lemmas.List.Elements.{All-nil}
use Rattle.forms.specs.declared.faults.Fault.{Fault}
use Rattle.forms.specs.declared.faults.Field.TheVariants.{End}
use Rattle.forms.specs.Reading.{Piece, Taken, Step, and_then, ended, whole, bytes_from as from}
use Rattle.forms_laws.specs.Laws.{Bytes, Valid, First}
use Rattle.forms_laws.proofs.Early.{found, Early, by_result, not_both, same_err}

-- the same of bytes that begin at a place: k is the index among them
pub record Firsts {A : Type 0} (reads : List ℕ → Result A Fault) (at : ℕ) (bs : List ℕ) (f : Fault) : Type 0 where
  pub k : ℕ
  pub is : f.at ≡ at + k
  pub within : k ≤ length bs
  pub more : List ℕ
  pub are : Bytes more
  pub goes : Valid reads (take k bs ++ more)
  pub stops : k < length bs → (q : List ℕ) → reads (take (k + 1) bs ++ q) ≡ Err f
  pub left : f.field ≡ End → Valid reads (take k bs) × (k < length bs)
  pub over : Valid reads (take k bs) → f.field ≡ End

-- a step that stops has not read what stands before
before_stop : {A : Type 0} (s : Step A) (bs : List ℕ) (at k : ℕ) (t : Taken A) (f : Fault) → Early s → s (from (take k bs) at) ≡ Ok t → s (from bs at) ≡ Err f → ⊥
before_stop s bs at k t f early ok bad =
    let i = early.used (take k bs) at t ok in
    let all : i.front ++ (t.left.bytes ++ drop k bs) ≡ bs = sym (append_assoc i.front t.left.bytes (drop k bs)) ∙ ap (λ z. z ++ drop k bs) (sym i.splits) ∙ take-append-drop k bs in
    not_both (ap (λ z. s (from z at)) (sym all) ∙ i.again (t.left.bytes ++ drop k bs)) bad

-- a step that may leave something
pub step_first : {A : Type 0} (s : Step A) (at : ℕ) (bs : List ℕ) (f : Fault) → Early s → s (from bs at) ≡ Err f → Firsts (λ xs. s (from xs at)) at bs f
step_first s at bs f early e =
    let i = early.stop bs at f e in
    record {
      k = i.k;
      is = i.is;
      within = i.within;
      more = i.more;
      are = i.are;
      goes = (record { value = i.goes.value; left = from [] i.goes.end }, ap (λ z. s (from z at)) (sym (append-nil (take i.k bs ++ i.more))) ∙ i.goes.reads []);
      stops = i.stops;
      left = λ z. absurd (i.inside z);
      over = λ v. absurd (before_stop s bs at i.k v.0 f early v.1 e);
    }

pub ended_some : {A : Type 0} (v : A) (b : ℕ) (rest : List ℕ) (end : ℕ) → ended v (from (b ∷ rest) end) ≡ Err (record { field = End; at = end })
ended_some v b rest end = let z = ne_eqb (suc (length rest)) 0 (λ e. omega arith) in simp z

module _ {A : Type 0} (s : Step A) where
  pub whole-ok : {p : Piece} {t : Taken A} → s p ≡ Ok t → whole s p ≡ ended t.value t.left
  whole-ok e = ap (λ r. and_then r (λ a. ended a.value a.left)) e

  pub whole_err : {p : Piece} {f : Fault} → s p ≡ Err f → whole s p ≡ Err f
  whole_err e = ap (λ r. and_then r (λ a. ended a.value a.left)) e

  -- the step itself stops
  whole_stop : (at : ℕ) (bs : List ℕ) (f : Fault) → Early s → s (from bs at) ≡ Err f → Firsts (λ xs. whole s (from xs at)) at bs f
  whole_stop at bs f early e =
      let i = early.stop bs at f e in
      let nil = append-nil (take i.k bs ++ i.more) in
      record {
        k = i.k;
        is = i.is;
        within = i.within;
        more = i.more;
        are = i.are;
        goes = (i.goes.value, ap (λ z. whole s (from z at)) (sym nil) ∙ whole-ok (i.goes.reads []));
        stops = λ h q. whole_err (i.stops h q);
        left = λ z. absurd (i.inside z);
        over = λ v.
            by_result (s (from (take i.k bs) at)) (f.field ≡ End)
            (λ t ok. absurd (before_stop s bs at i.k t f early ok e))
            (λ g bad. absurd (not_both v.1 (whole_err bad)));
      }

  -- something is left over
  left_over : (at : ℕ) (bs : List ℕ) (f : Fault) (v : A) (rest : List ℕ) (end : ℕ) (front : List ℕ) →
      bs ≡ front ++ rest → end ≡ at + length front → ((q : List ℕ) → s (from (front ++ q) at) ≡ found v q end) →
      ended v (from rest end) ≡ Err f → Firsts (λ xs. whole s (from xs at)) at bs f
  left_over at bs f v [] end front splits place again e = absurd (not_both refl e)
  left_over at bs f v (b ∷ rest) end front splits place again e =
      let n = length front in
      let cut : take n bs ≡ front = ap (take n) splits ∙ take_at front (b ∷ rest) n refl in
      let x : record { field = End; at = end } ≡ f = same_err (ended_some v b rest end) e in
      let here : whole s (from (take n bs) at) ≡ Ok v = ap (λ z. whole s (from z at)) (cut ∙ sym (append-nil front)) ∙ whole-ok (again []) in
      let len : length bs ≡ n + suc (length rest) = ap length splits ∙ length-append front (b ∷ rest) in
      let next : take (n + 1) bs ≡ front ++ (b ∷ []) = ap (take (n + 1)) splits ∙ take-append-add front (b ∷ rest) 1 in
      rw (← x)
      (record {
        k = n;
        is = place;
        within = omega arith;
        more = [];
        are = All-nil (λ (b : ℕ). b < 256);
        goes = (v, ap (λ z. whole s (from z at)) (append-nil (take n bs)) ∙ here);
        stops = λ h q. ap (λ z. whole s (from (z ++ q) at)) next ∙ ap (λ z. whole s (from z at)) (append_assoc front (b ∷ []) q) ∙ whole-ok (again (b ∷ q)) ∙ ended_some v b q end;
        left = λ _. ((v, here), omega arith);
        over = λ _. refl;
      })

  pub whole-first : (at : ℕ) (bs : List ℕ) (f : Fault) → Early s → whole s (from bs at) ≡ Err f → Firsts (λ xs. whole s (from xs at)) at bs f
  whole-first at bs f early e =
      by_result (s (from bs at)) (Firsts (λ xs. whole s (from xs at)) at bs f)
      (λ t ok.
      let i = early.used bs at t ok in
      left_over at bs f t.value t.left.bytes t.left.at i.front i.splits i.place i.again (sym (whole-ok ok) ∙ e))
      (λ g bad. whole_stop at bs f early (bad ∙ ap (λ z. Err z) (same_err (whole_err bad) e)))

-- what is made of a value does not change the fault
pub carried : {A B : Type 0} (reads : List ℕ → Result A Fault) (made : List ℕ → Result B Fault) (at : ℕ) (bs : List ℕ) (f : Fault) →
    ((xs : List ℕ) (a : A) → reads xs ≡ Ok a → Valid made xs) → ((xs : List ℕ) (g : Fault) → reads xs ≡ Err g → made xs ≡ Err g) →
    Firsts reads at bs f → Firsts made at bs f
carried reads made at bs f ok err i =
    record {
      k = i.k;
      is = i.is;
      within = i.within;
      more = i.more;
      are = i.are;
      goes = ok (take i.k bs ++ i.more) i.goes.0 i.goes.1;
      stops = λ h q. err (take (i.k + 1) bs ++ q) f (i.stops h q);
      left = λ z. let v = i.left z in (ok (take i.k bs) v.0.0 v.0.1, v.1);
      over = λ v.
          by_result (reads (take i.k bs)) (f.field ≡ End)
          (λ a e. i.over (a, e))
          (λ g e. absurd (not_both v.1 (err (take i.k bs) g e)));
    }

-- from the first byte on
pub from_start : {A : Type 0} (reads : List ℕ → Result A Fault) (bs : List ℕ) (f : Fault) → Firsts reads 0 bs f → First reads bs f
from_start reads bs f i =
    let e : i.k ≡ f.at = omega (arith, i.is) in
    record {
      within = omega (arith, i.within);
      more = i.more;
      bytes = i.are;
      goes = rw (← e) i.goes;
      stops = λ h q v. not_both v.1 (ap (λ n. reads (take (n + 1) bs ++ q)) (sym e) ∙ i.stops (omega arith) q);
      left = λ z. rw (← e) (i.left z);
      over = λ v. i.over (rw e v);
    }

-- behind the first byte
pub behind-one : {A : Type 0} (reads : List ℕ → Result A Fault) (b : ℕ) (bs : List ℕ) (f : Fault) → Firsts (λ xs. reads (b ∷ xs)) 1 bs f → First reads (b ∷ bs) f
behind-one reads b bs f i =
    let e : suc i.k ≡ f.at = omega (arith, i.is) in
    record {
      within = omega (arith, i.within);
      more = i.more;
      bytes = i.are;
      goes = rw (← e) i.goes;
      stops = λ h q v.
          let one : suc (i.k + 1) ≡ f.at + 1 = omega arith in
          not_both v.1 (ap (λ n. reads (take n (b ∷ bs) ++ q)) (sym one) ∙ i.stops (omega arith) q);
      left = λ z.
          let v = i.left z in
          (rw (← e) v.0, omega (arith, v.1));
      over = λ v. i.over (rw (← e) at v);
    }
