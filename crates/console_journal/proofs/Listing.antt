-- The records that are listed, one after the other.
use Rattle.std.proofs.Common.{◌≡◌, ℕ, ◌+◌, Bool, true, false, cond, inl, inr, List, [], ◌∷◌, ◌++◌, length, Option, Some, None, sym, refl, ap, ◌∙◌, subst, arith}
use Rattle.std.proofs.lemmas.Bool.{cases_Bool}
use Rattle.std.proofs.lemmas.List.{append_assoc, append-nil}
use Rattle.std.proofs.lemmas.List.Sums.{take_while-cons}
use Rattle.std.proofs.lemmas.List.Concat.{flat_map-cons}
use Rattle.journal.specs.Log.{Placed, Log, Formed, reading}
use Rattle.journal.specs.Places.{beyond, first_of}
use Rattle.journal.specs.declared.places.Overrun.{Overrun}
use Rattle.journal.specs.declared.places.Place.{Place}
use Rattle.journal.proofs.Onward.{place, step, done}
use Rattle.console_journal.specs.Listings.{precedes, up_to, record_line, lines}

-- the first record, if it stands before the overrun
abbrev kept : Option Overrun → Option Placed → Option Placed
kept o None = None
kept o (Some x) = cond (precedes o x.section x.number) (Some x) None

first_cond : (b : Bool) (x : Placed) (xs : List Placed) → first_of (cond b (x ∷ xs) []) ≡ cond b (Some x) None
unfolding first_of
first_cond true x xs = refl
first_cond false x xs = refl

first_kept : (o : Option Overrun) (l : List Placed) → first_of (up_to o l) ≡ kept o (first_of l)
unfolding first_of
first_kept o [] = refl
first_kept o (x ∷ xs) = ap first_of (take_while-cons (λ x. precedes o x.section x.number) x xs) ∙ first_cond (precedes o x.section x.number) x (up_to o xs)

-- no record is left, or the first stands before the overrun, or it does not
pub none_left : (o : Option Overrun) (l : List Placed) → None ≡ first_of l → None ≡ first_of (up_to o l)
none_left o l e = sym (first_kept o l ∙ ap (kept o) (sym e))

pub one_before : (o : Option Overrun) (x : Placed) (l : List Placed) → Some x ≡ first_of l → precedes o x.section x.number ≡ true → Some x ≡ first_of (up_to o l)
one_before o x l e p = sym (first_kept o l ∙ ap (kept o) (sym e) ∙ ap (λ (b : Bool). cond b (Some x) None) p)

pub one_past : (o : Option Overrun) (x : Placed) (l : List Placed) → Some x ≡ first_of l → precedes o x.section x.number ≡ false → None ≡ first_of (up_to o l)
one_past o x l e p = sym (first_kept o l ∙ ap (kept o) (sym e) ∙ ap (λ (b : Bool). cond b (Some x) None) p)

first_both : (o : Option Overrun) (l : List Placed) (x : Placed) → Some x ≡ first_of (up_to o l) → (Some x ≡ first_of l) × (precedes o x.section x.number ≡ true)
unfolding first_of
first_both o [] x e = let z : ◌≡◌ {A = ℕ} 0 1 = cc in absurd (omega arith)
first_both o (y ∷ ys) x e =
    let h : Some x ≡ cond (precedes o y.section y.number) (Some y) None = e ∙ first_kept o (y ∷ ys) in
    elim (cases_Bool (precedes o y.section y.number)) [
      | inl p ↦
          let q : Some x ≡ Some y = h ∙ ap (λ (b : Bool). cond b (Some y) None) p in
          let same : y ≡ x = cc in
          (q, subst (λ (z : Placed). precedes o z.section z.number ≡ true) same p)
      | inr p ↦
          let q : Some x ≡ None = h ∙ ap (λ (b : Bool). cond b (Some y) None) p in
          let z : ◌≡◌ {A = ℕ} 0 1 = cc in absurd (omega arith)
    ]

-- a record that was answered is the first of those that are left, and the rest is past its place
split : (o : Option Overrun) (a : Option Place) (x : Placed) (v : Log) → Formed v → Some x ≡ first_of (up_to o (beyond a (reading v.sections)))
    → up_to o (beyond a (reading v.sections)) ≡ x ∷ up_to o (beyond (Some (place x)) (reading v.sections))
split o a x v f e =
    let b = first_both o (beyond a (reading v.sections)) x e in
    let s = step a x v f b.0 in
    ap (up_to o) s.split ∙ take_while-cons (λ x. precedes o x.section x.number) x s.rest ∙ ap (λ (t : Bool). cond t (x ∷ up_to o s.rest) []) b.1
    ∙ ap (λ (l : List Placed). x ∷ up_to o l) (sym s.onward)

-- what was written and counted, with what is left, is all
pub record Listed (o : Option Overrun) (a : Option Place) (l : List Placed) (text : List ℕ) (n : ℕ) : Type 0 where
  pub lines : lines (up_to o l) ≡ text ++ lines (up_to o (beyond a l))
  pub count : length (up_to o l) ≡ n + length (up_to o (beyond a l))

pub listed_none : (o : Option Overrun) (l : List Placed) → Listed o None l [] 0
unfolding beyond
listed_none o l = record { lines = refl; count = omega arith }

pub listed_more : (o : Option Overrun) (a : Option Place) (x : Placed) (v : Log) (text more : List ℕ) (n : ℕ) → Formed v → Some x ≡ first_of (up_to o (beyond a (reading v.sections)))
    → Listed o a (reading v.sections) text n → more ≡ text ++ (record_line x ++ (10 ∷ [])) → Listed o (Some (place x)) (reading v.sections) more (n + 1)
listed_more o a x v text more n f e l m =
    let s = split o a x v f e in
    record {
      lines = l.lines ∙ ap (λ (ys : List Placed). text ++ lines ys) s ∙ ap (λ (ys : List ℕ). text ++ ys) (flat_map-cons (λ y. record_line y ++ (10 ∷ [])) x (up_to o (beyond (Some (place x)) (reading v.sections))))
          ∙ sym (append_assoc text _ _) ∙ ap (λ (ys : List ℕ). ys ++ lines (up_to o (beyond (Some (place x)) (reading v.sections)))) (sym m);
      count = omega (arith, l.count, ap (λ (ys : List Placed). length ys) s);
    }

-- nothing is left
pub listed_all : (o : Option Overrun) (a : Option Place) (l : List Placed) (text : List ℕ) (n : ℕ) → None ≡ first_of (up_to o (beyond a l)) → Listed o a l text n
    → (text ≡ lines (up_to o l)) × (n ≡ length (up_to o l))
listed_all o a l text n e h =
    let z = done (up_to o (beyond a l)) e in
    (sym (h.lines ∙ ap (λ (ys : List Placed). text ++ lines ys) z ∙ append-nil text), omega (arith, h.count, ap (λ (ys : List Placed). length ys) z))
