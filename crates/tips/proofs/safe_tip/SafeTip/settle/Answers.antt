use Rattle.std.proofs.Common.{◌≡◌, ℕ, ◌+◌, Bool, true, false, cond, sym, refl, ap, ◌∙◌, arith}
use Rattle.std.proofs.lemmas.Bool.{eqb-true}
use Rattle.types.specs.Numbers.{Height, height}
use Rattle.tips.specs.Seats.{among}
use Rattle.tips.specs.Tips.{counted}
use Rattle.tips.proofs.safe_tip.SafeTip.settle.Goals as goal
use Rattle.tips.proofs.safe_tip.SafeTip.settle.Goals.{else-not-is_among-via-then-not-is_among+else-counts, else-not-is_among-via-else-not-is_among}

-- a tip of 0 is settled, whoever tells it
settled_zero : (b : Bool) (tip : Height) → tip.0 ≡ 0 → tip.0 ≡ (cond b tip (height 0)).0
settled_zero true tip zero = refl
settled_zero false tip zero = zero

pub returns-then-is_zero : goal.returns-then-is_zero
returns-then-is_zero g c =
    let tip = c.args.seat.now.value in
    let zero : tip.0 ≡ 0 = eqb-true tip.0 0 (sym c.is_zero.ensures ∙ c.if-is_zero.true) in
    λ has p. ap (λ (n : ℕ). counted p c.args.self.now + cond (p n) 1 0) (settled_zero (among g.K.Key.less c.args.seat.now.key c.args.keys.now) tip zero)

pub returns-then-counts : goal.returns-then-counts
returns-then-counts g c =
    let leaves : among g.K.Key.less c.args.seat.now.key c.args.keys.now ≡ false = sym c.is_among.ensures ∙ c.if-not-is_among.true in
    λ has p. rw leaves (c.shift.ensures p ∙ ap (λ (h : Height). counted p c.args.self.now + cond (p h.0) 1 0) c.zero.ensures)

pub returns-else-not-is_among : goal.returns-else-not-is_among
returns-else-not-is_among g c = elim c.else-not-is_among.branch [
  | else-not-is_among-via-then-not-is_among+else-counts w ↦ λ has. absurd (let y = w.if-counts.ensures in let z : ◌≡◌ {A = ℕ} 0 1 = cc in omega arith)
  | else-not-is_among-via-else-not-is_among w ↦
      let stays : among g.K.Key.less c.args.seat.now.key c.args.keys.now ≡ true = sym c.is_among.ensures ∙ w.if-not-is_among.false in
      λ has p. rw stays refl
]
