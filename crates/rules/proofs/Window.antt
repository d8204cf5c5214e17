-- The worked case of the window. Assumes nothing.
use Rattle.std.proofs.Common.{◌≡◌, ℕ, suc, ◌+◌, Bool, true, false, cond, not, eqb, ltb, leb, is_some, ap, ◌∙◌, arith}
use Rattle.std.proofs.lemmas.Bool.{lt-ltb, le-ltb, le-leb, lt-leb, ne_eqb, cond-false}
use Rattle.forms.specs.Values.{Ack}
use Rattle.provider.specs.Answers.{Answers}
use Rattle.provider.specs.Laws.{position}
use Rattle.rules.specs.State.{Bytes, Settings, Mem, low, is_pending}
use Rattle.rules.specs.Plans.{ok, refused}
use Rattle.rules.specs.Opening.{known, keys_of, outside}
use Rattle.rules.specs.Message.{is_at, checked}
use Rattle.rules.specs.Window.{before_height, after_window, Gets, WindowCases}

-- a check that passed does not stand in the way
skip : (b : Bool) (n x y z : ℕ) → cond b (suc n) x ≡ 0 → (x ≡ 0 → y ≡ z) → cond b (suc n) y ≡ z
skip true n x y z e f = absurd (omega arith)
skip false n x y z e f = f e

module _ (p : Answers) (s : Settings) (k : Bytes) (a : Ack) (m : Mem) where
  -- the checks from that of the height on
  from-height : ℕ
  from-height = cond (ltb a.height (low s m.tip)) 17 (cond (leb (m.tip + s.window) a.height) 18 (after_window p a m))

  onward : (z : ℕ) → before_height p s k a m ≡ 0 → from-height ≡ z → checked p s k a m ≡ z
  unfolding from-height
  onward z e f =
      skip (outside s m.epoch a.epoch) 13 _ _ z e (λ e.
      skip (not (known p a.epoch)) 4 _ _ z e (λ e.
      skip (not (is_some (position k (keys_of p a.epoch)))) 14 _ _ z e (λ e.
      skip (not (is_at (position k (keys_of p a.epoch)) a.signer)) 15 _ _ z e (λ _. f))))

  gets : (n : ℕ) → checked p s k a m ≡ suc n → Gets (suc n) p s k a m
  gets n e = (
    e,
    ap (λ r. cond (eqb r 0) (cond (is_pending m a.height) ok (refused 22)) (refused r)) e
        ∙ cond-false (eqb (suc n) 0) (cond (is_pending m a.height) ok (refused 22)) (refused (suc n)) (ne_eqb (suc n) 0 (λ z. omega arith)),
  )

  below : ltb a.height (low s m.tip) ≡ true → from-height ≡ 17
  unfolding from-height
  below e = ap (λ b. cond b 17 (cond (leb (m.tip + s.window) a.height) 18 (after_window p a m))) e

  above : ltb a.height (low s m.tip) ≡ false → leb (m.tip + s.window) a.height ≡ true → from-height ≡ 18
  unfolding from-height
  above e f = ap (λ b. cond b 17 (cond (leb (m.tip + s.window) a.height) 18 (after_window p a m))) e ∙ ap (λ b. cond b 18 (after_window p a m)) f

  within : ltb a.height (low s m.tip) ≡ false → leb (m.tip + s.window) a.height ≡ false → from-height ≡ after_window p a m
  unfolding from-height
  within e f = ap (λ b. cond b 17 (cond (leb (m.tip + s.window) a.height) 18 (after_window p a m))) e ∙ ap (λ b. cond b 18 (after_window p a m)) f

pub window-cases : WindowCases
window-cases p s k a m t w r e = (
  (λ h. gets p s k a m 16 (onward p s k a m 17 e (below p s k a m (lt-ltb a.height (low s m.tip) (omega arith))))),
  (λ h. gets p s k a m 17 (onward p s k a m 18 e (above p s k a m (le-ltb a.height (low s m.tip) (omega arith)) (le-leb (m.tip + s.window) a.height (omega arith))))),
  (λ h. onward p s k a m _ e (within p s k a m (le-ltb a.height (low s m.tip) (omega arith)) (lt-leb (m.tip + s.window) a.height (omega arith)))),
  (λ h. onward p s k a m _ e (within p s k a m (le-ltb a.height (low s m.tip) (omega arith)) (lt-leb (m.tip + s.window) a.height (omega arith)))),
)
