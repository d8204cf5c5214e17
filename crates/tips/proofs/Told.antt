-- What a told tip makes of the seats, and of the tables that count them. Assumes nothing.
use Rattle.std.proofs.Common.{◌≡◌, ℕ, ◌+◌, ◌<◌, ◌≤◌, Bool, true, false, cond, eqb, List, length, get_or, set, Some, None, count_by, Option, sym, refl, ap, ◌∙◌, subst, arith}
use Rattle.std.proofs.lemmas.List.{map-set, get_or-map, length-map}
use Rattle.std.proofs.lemmas.List.Sums.{sum_by-set}
use Rattle.std.proofs.lemmas.Bool.{lt-ltb, le-ltb, eq-eqb, ne_eqb}
use Rattle.table.specs.declared.Entry.{Entry}
use Rattle.table.specs.Order.{Total}
use Rattle.table.specs.Rows.{entry, place, at, put, Sorted}
use Rattle.table.proofs.Facts.{found, found_hit, at_none}
use Rattle.table.proofs.Keeping.{sorted_put}
use Rattle.types.specs.Numbers.{Height}
use Rattle.tips.specs.declared.safe_tip.SafeTip.{SafeTip}
use Rattle.tips.specs.Seats.{tip_of, tips_of, lower_than, seated_after}
use Rattle.tips.specs.Tips.{lowest, highest, counts, Holds, Moved, if_counted, replaced}
use Rattle.tips.proofs.Splits.{split, weighed}

module _ {K : Type 0} {less : K → K → Bool} (o : Total less) (k : K) (ss : List (Entry K Height)) (t : Height) (s : SafeTip) where
  -- a call that tells nothing
  pub record Untold : Type 0 where
    pub answer : None ≡ replaced less k t ss s
    pub counts : Holds ss s → None ≡ lower_than t (at less k ss)

  -- a call that tells, and what it leaves
  pub record Telling (r : Option Height) (seats' : List (Entry K Height)) (s' : SafeTip) : Type 0 where
    pub answer : r ≡ replaced less k t ss s
    pub seats : seats' ≡ seated_after less k t r ss
    pub counts : Holds ss s → r ≡ lower_than t (at less k ss)
    pub holds : Holds ss s → Holds seats' s'
    pub sorted : Sorted less ss → Sorted less seats'

  pub unknown : place less k ss ≡ None → Untold
  unknown h =
      let none = at_none less k ss h in
      record { answer = sym (ap (λ x. if_counted s (lower_than t x)) none); counts = λ _. sym (ap (lower_than t) none) }

  module _ (i : ℕ) (here : place less k ss ≡ Some i) (d : Entry K Height) where
    seen : at less k ss ≡ Some (get_or ss i d).value
    seen = (found_hit less k ss i d here).valued

    as_high : t.0 ≤ (get_or ss i d).value.0 → lower_than t (at less k ss) ≡ None
    as_high h = ap (lower_than t) seen ∙ ap (λ b. cond b (Some (get_or ss i d).value) None) (le-ltb (get_or ss i d).value.0 t.0 h)

    as_low : (get_or ss i d).value.0 < t.0 → lower_than t (at less k ss) ≡ Some (get_or ss i d).value
    as_low h = ap (lower_than t) seen ∙ ap (λ b. cond b (Some (get_or ss i d).value) None) (lt-ltb (get_or ss i d).value.0 t.0 h)

    pub too_low : t.0 ≤ (get_or ss i d).value.0 → Untold
    too_low h = record { answer = sym (ap (if_counted s) (as_high h)); counts = λ _. sym (as_high h) }

    -- the seats with the new tip
    seated_is : (z : Entry K Height) → set ss i (entry (get_or ss i z).key t) ≡ put less k t ss
    seated_is z =
        let f = found less k ss i here in
        let h = found_hit less k ss i z here in
        let same = o.tied (get_or ss i z).key k h.below (f.level z) in
        ap (λ x. set ss i (entry x t)) same ∙ ap (λ n. set ss n (entry k t)) f.ranked ∙ sym (h.putting t)

    raised : (x : K) (p : ℕ → Bool) → count_by p (tips_of (set ss i (entry x t))) + cond (p (get_or ss i d).value.0) 1 0 ≡ count_by p (tips_of ss) + cond (p t.0) 1 0
    raised x p =
        let in' = (found less k ss i here).within in
        let after : tips_of (set ss i (entry x t)) ≡ set (tips_of ss) i t.0 = map-set tip_of ss i (entry x t) in
        let l : i < length (tips_of ss) = simp length-map in' in
        let was : get_or (tips_of ss) i 0 ≡ (get_or ss i d).value.0 = get_or-map tip_of ss i d 0 in' in
        ap (λ xs. count_by p xs + cond (p (get_or ss i d).value.0) 1 0) after ∙ ap (λ n. count_by p (set (tips_of ss) i t.0) + cond (p n) 1 0) (sym was) ∙ sum_by-set (λ n. cond (p n) 1 0) (tips_of ss) i t.0 0 l

    -- a tip that a seat of the tables records is counted
    is_counted : (get_or ss i d).value.0 < t.0 → Holds ss s → counts s (get_or ss i d).value ≡ true
    is_counted up h =
        let v = (get_or ss i d).value.0 in
        let p : ℕ → Bool = λ x. eqb v x in
        let a : ◌≡◌ {A = ℕ} (cond (p v) 1 0) 1 = ap (λ (b : Bool). cond {A = ℕ} b 1 0) (eq-eqb v v refl) in
        let b : ◌≡◌ {A = ℕ} (cond (p t.0) 1 0) 0 = ap (λ (b : Bool). cond {A = ℕ} b 1 0) (ne_eqb v t.0 (λ z. omega (arith, up))) in
        weighed (get_or ss i d).value (lowest s) (highest s) s.lo.counted s.hi.counted (omega (arith, raised k p, h.all p, a, b))

    pub foreign : (get_or ss i d).value.0 < t.0 → counts s (get_or ss i d).value ≡ false → Untold
    foreign up un = record {
      answer = sym (ap (if_counted s) (as_low up) ∙ ap (λ b. cond b (Some (get_or ss i d).value) None) un);
      counts = λ h. absurd (let y = is_counted up h in let z : ◌≡◌ {A = ℕ} 0 1 = cc in omega arith);
    }

    pub told : (get_or ss i d).value.0 < t.0 → counts s (get_or ss i d).value ≡ true → (s' : SafeTip) → Moved (get_or ss i d).value t s s' → (z : Entry K Height) → Telling (Some (get_or ss i d).value) (set ss i (entry (get_or ss i z).key t)) s'
    told up yet s' m z = record {
      answer = sym (ap (if_counted s) (as_low up) ∙ ap (λ b. cond b (Some (get_or ss i d).value) None) yet);
      seats = seated_is z;
      counts = λ _. sym (as_low up);
      holds = λ h. split (tips_of (set ss i (entry (get_or ss i z).key t))) (lowest s') (highest s') s'.top (λ p. omega (arith, raised (get_or ss i z).key p, h.all p, m p));
      sorted = λ h. subst (Sorted less) (sym (seated_is z)) (sorted_put o k t ss h);
    }
