-- The tips of leavers, lowered one by one. Assumes nothing.
use Rattle.std.proofs.Common.{◌≡◌, ℕ, ◌+◌, ◌<◌, ◌≤◌, Bool, true, cond, eqb, List, length, get_or, take, drop, sum_by, sym, refl, ap, ◌∙◌, arith}
use Rattle.std.proofs.lemmas.List.{take_all, drop_all}
use Rattle.std.proofs.lemmas.List.Sums.{sum_by_more, sum_by-drop_more}
use Rattle.std.proofs.lemmas.Bool.{eq-eqb}
use Rattle.table.specs.declared.Entry.{Entry}
use Rattle.types.specs.Numbers.{Height}
use Rattle.tips.specs.declared.safe_tip.SafeTip.{SafeTip}
use Rattle.tips.specs.Seats.{tip_of, settled}
use Rattle.tips.specs.Tips.{lowest, highest, counted, counts, Moved, Recorded}
use Rattle.tips.proofs.Splits.{weighed}

module _ {K : Type 0} (less : K → K → Bool) (keys : List K) (seats : List (Entry K Height)) where
  -- one for each seat before or after its turn
  abbrev before : (ℕ → Bool) → Entry K Height → ℕ
  before p e = cond (p (tip_of e)) 1 0

  abbrev after : (ℕ → Bool) → Entry K Height → ℕ
  after p e = cond (p (settled less keys e).0) 1 0

  -- the tables count the first i seats settled, and the others as they were
  abbrev pub Halfway : ℕ → SafeTip → Type 0
  Halfway i s = (p : ℕ → Bool) → sum_by (after p) (take i seats) + sum_by (before p) (drop i seats) ≡ counted p s

  module _ (i : ℕ) (s : SafeTip) (h : Halfway i s) (e : Entry K Height) (in' : i < length seats) (is : e ≡ get_or seats i e) where
    pub is_there : counts s e.value ≡ true
    is_there =
        let p : ℕ → Bool = λ x. eqb (tip_of e) x in
        let one : ◌≡◌ {A = ℕ} (before p (get_or seats i e)) 1 = ap (before p) (sym is) ∙ ap (λ (b : Bool). cond {A = ℕ} b 1 0) (eq-eqb (tip_of e) (tip_of e) refl) in
        weighed e.value (lowest s) (highest s) s.lo.counted s.hi.counted (omega (arith, h p, sum_by-drop_more (before p) seats i e in', one))

    pub turned : (s' : SafeTip) → Moved e.value (settled less keys e) s s' → Halfway (i + 1) s'
    turned s' m p =
        omega (arith, m p, h p, sum_by_more (after p) seats i e in', sum_by-drop_more (before p) seats i e in', ap (after p) is, ap (before p) is)

  pub begun : (s : SafeTip) → Recorded tip_of seats s → Halfway 0 s
  begun s r p = omega (arith, r p)

  pub done : (s : SafeTip) (i : ℕ) → length seats ≤ i → Halfway i s → Recorded (λ e. (settled less keys e).0) seats s
  done s i past h p = omega (arith, h p, ap (sum_by (after p)) (take_all i seats past), ap (sum_by (before p)) (drop_all i seats past))
