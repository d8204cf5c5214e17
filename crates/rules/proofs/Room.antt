-- Why 512 places are enough for the stored acks. Assumes nothing.
use Rattle.std.proofs.Common.{◌≡◌, ℕ, ◌+◌, ◌-◌, ◌*◌, ◌<◌, ◌≤◌, Bool, true, false, cond, not, ◌&&◌, eqb, leb, ◌⊎◌, List, length, None, sym, refl, ap, ◌∙◌, subst, inl, inr, arith, All}
use Rattle.std.proofs.lemmas.Bool.{leb-true, and_parts, eq-eqb}
use Rattle.std.proofs.lemmas.Bool.Decides.{nat_tests}
use Rattle.forms.specs.Values.{Ack}
use Rattle.journal.specs.Log.{Log}
use Rattle.provider.specs.Answers.{Answers}
use Rattle.provider.specs.Laws.{Lawful}
use Rattle.rules.specs.Lists.{placed}
use Rattle.rules.specs.State.{Settings, allowed, Mem, Desk, Engine, shut, running, halted, low, ack_below}
use Rattle.rules.specs.Rules.{with_acks}
use Rattle.rules.specs.Acts.{Ended, whole, full, below_bound, failed, off}
use Rattle.rules.specs.Plans.{Event, opening, epoch_change, message, taking, fetching, handing_back, cancelling, lodging, due, closing, Answer, After, stays, runs, closes, refuse}
use Rattle.rules.specs.Opening.{is_of}
use Rattle.rules.specs.Calls.{plan}
use Rattle.rules.specs.Runs.{Sys, Run, start, call, power_cut, Deed, settle, Ends, Sized}
use Rattle.rules.specs.Room.{count, Ascends, InWindow, Formed, Neat, Storable, AcksFit}
use Rattle.rules.proofs.Pigeons.{spread, count_split, count-all}
use Rattle.rules.proofs.Tables.{once}
use Rattle.rules.proofs.Tidy.{out, more, n_placed, in_window}
use Rattle.rules.proofs.Neat.{Good, neat, y_plan, y_opening, y_fetching}
use Rattle.rules.proofs.Calm.{by_cond}

abbrev Near : Settings → ℕ → Ack → Type 0
Near s t a = InWindow s t a.height × Formed a

abbrev at_both : ℕ → ℕ → Ack → Bool
at_both h e a = eqb a.height h && eqb a.epoch e

abbrev inside_at : Settings → ℕ → ℕ → Ack → Bool
inside_at s e h a = eqb a.height h && not (out s e a)

module _ (s : Settings) (e t : ℕ) (xs : List Ack) (near : All (Near s t) xs) (order : Ascends xs) where
  sixteen : (h f : ℕ) → count (at_both h f) xs ≤ 16 * 1
  sixteen h f = spread (Near s t) xs near (λ a. a.signer) (is_of h f) 1 0 (λ i. once h f i xs order) 16 (at_both h f) by_signer
    where
      by_signer : (a : Ack) → Near s t a → at_both h f a ≡ true → (0 ≤ a.signer) × (a.signer < 0 + 16) × (is_of h f a.signer a ≡ true)
      by_signer a n q = (omega arith, omega (arith, n.1.signer), grind (arith, nat_tests))

  module _ (allow : s.older + s.newer ≤ 2) where
    three : (h : ℕ) → count (inside_at s e h) xs ≤ 3 * (16 * 1)
    three h = spread (Near s t) xs near (λ a. a.epoch) (at_both h) (16 * 1) (e - s.older) (sixteen h) 3 (inside_at s e h) by_epoch
      where
        by_epoch : (a : Ack) → Near s t a → inside_at s e h a ≡ true → (e - s.older ≤ a.epoch) × (a.epoch < e - s.older + 3) × (at_both h a.epoch a ≡ true)
        by_epoch a n q = (grind (arith, nat_tests), grind (arith, nat_tests), grind (arith, nat_tests))

    eight : s.window + s.activity ≤ 8 → count (λ a. not (out s e a)) xs ≤ 8 * (3 * (16 * 1))
    eight l = spread (Near s t) xs near (λ a. a.height) (inside_at s e) (3 * (16 * 1)) (low s t) three 8 (λ a. not (out s e a)) by_height
      where
        by_height : (a : Ack) → Near s t a → not (out s e a) ≡ true → (low s t ≤ a.height) × (a.height < low s t + 8) × (inside_at s e a.height a ≡ true)
        by_height a n q = (n.0.0, omega (arith, n.0.1, l), ap (λ b. b && not (out s e a)) (eq-eqb a.height a.height refl) ∙ q)

either : (b : Bool) → (not b ≡ true) ⊎ (b ≡ true)
either true = inr refl
either false = inl refl

-- what allowed settings are
pub bounds : (s : Settings) → allowed s ≡ true → (s.window + s.activity ≤ 8) × (s.older + s.newer ≤ 2)
bounds s q =
    let a = and_parts (leb 1 s.window) _ q in
    let b = and_parts (leb (s.window + s.activity) 8) _ a.1 in
    let c = and_parts (leb 1 s.per_section) _ b.1 in
    let d = and_parts (leb s.per_section 4294967296) _ c.1 in
    let e = and_parts (leb (s.older + s.newer) 2) _ d.1 in
    (leb-true (s.window + s.activity) 8 b.0, leb-true (s.older + s.newer) 2 e.0)

at_most : (s : Settings) (m : Mem) → allowed s ≡ true → Neat s m → length m.acks ≤ 512
at_most s m q y =
    let b = bounds s q in
    omega (
      arith,
      y.few,
      count-all m.acks,
      eight s m.epoch m.tip m.acks y.near y.ordered b.1 b.0,
      count_split (Near s m.tip) (λ _. true) (λ a. not (out s m.epoch a)) (out s m.epoch) (λ a _ _. either (out s m.epoch a)) m.acks y.near,
    )

one_more : (s : Settings) (m : Mem) (a : Ack) → Neat s m → Storable s m a → Neat s (with_acks (placed ack_below a m.acks) m)
one_more s m a y (i, g, q) =
    let x = neat s m y in
    let w : ◌≡◌ {A = ℕ} (cond (out s m.epoch a) 1 0) 0 = ap (λ b. cond b 1 0) q in
    (more s m.epoch _ 128 _ (omega arith) (n_placed s m.epoch 128 a m (in_window s m.epoch 128 a.height m x i) g x)).tidy

-- over runs
abbrev Inv : Settings → Engine → Type 0
Inv s shut = Unit {0}
Inv s (running m k) = (allowed s ≡ true) × Neat s m
Inv s (halted k) = Unit {0}

settled : (s : Settings) (f : After) (x : Engine) (k : Desk) → Inv s x → Good s f → Inv s (settle f x k)
settled s stays shut k i g = tt
settled s stays (running m j) k i g = i
settled s stays (halted j) k i g = tt
settled s (runs m) x k i g = g
settled s closes x k i g = tt

planned : (p : Answers) → Lawful p → (s : Settings) (x : Engine) (v : Log) (e : Event) → Inv s x → Sized e → Good s (plan p s x v None e).after
planned p l s (running m k) v e (a, n) z = (y_plan p l s m k v e a n z).good
planned p l s shut v (opening e now room) i z = (y_opening p s shut v None e now room z).good
planned p l s shut v (epoch_change e now) i z = tt
planned p l s shut v (message k b room) i z = tt
planned p l s shut v taking i z = tt
planned p l s shut v fetching i z = tt
planned p l s shut v (handing_back h d now room) i z = tt
planned p l s shut v (cancelling h) i z = tt
planned p l s shut v (lodging h) i z = tt
planned p l s shut v (due now room) i z = tt
planned p l s shut v closing i z = tt
planned p l s (halted k) v (opening e now room) i z = (y_opening p s (halted k) v None e now room z).good
planned p l s (halted k) v (epoch_change e now) i z = tt
planned p l s (halted k) v (message c b room) i z = tt
planned p l s (halted k) v taking i z = tt
planned p l s (halted k) v fetching i z = (y_fetching s k.lodged).good
planned p l s (halted k) v (handing_back h d now room) i z = by_cond (λ pl. Good s pl.after) (eqb k.out 0) (refuse 24) _ tt tt
planned p l s (halted k) v (cancelling h) i z = by_cond (λ pl. Good s pl.after) (eqb k.out 0) (refuse 24) _ tt tt
planned p l s (halted k) v (lodging h) i z = by_cond (λ pl. Good s pl.after) (eqb k.out 0) (refuse 24) _ tt tt
planned p l s (halted k) v (due now room) i z = tt
planned p l s (halted k) v closing i z = by_cond (λ pl. Good s pl.after) (eqb k.out 0) _ (refuse 26) tt tt

left : (p : Answers) → Lawful p → (s : Settings) (x : Engine) (v : Log) (e : Event) (r : Ended) (k : Desk) (a : Answer) (y : Engine) →
    Inv s x → Sized e → Ends r (plan p s x v None e) x k a y → Inv s y
left p l s x v e whole k a y i z (_, u) = subst (Inv s) (sym u) (settled s (plan p s x v None e).after x k i (planned p l s x v e i z))
left p l s x v e full k a y i z (_, u) = subst (Inv s) (sym u) tt
left p l s x v e below_bound k a y i z (_, u) = subst (Inv s) (sym u) tt
left p l s x v e failed k a y i z (_, u) = subst (Inv s) (sym u) tt
left p l s x v e off k a y i z (_, u) = subst (Inv s) (sym u) tt

pub always : {p : Answers} {s : Settings} {x : Sys} {past : List Deed} → Lawful p → Run p s x past → Inv s x.engine
always l start = tt
always {p} {s} l (call {x} {y} {past} run fits e a done z m c) = left p l s x.engine x.log e c.ended c.desk a y.engine (always l run) z c.left
always l (power_cut run w c) = tt

pub acks_fit : AcksFit
acks_fit = (
  (λ p s x past l run m k q. let i = subst (Inv s) q (always l run) in (i.0, i.1, at_most s m i.0 i.1)),
  at_most,
  one_more,
)
