-- One tip of a table of counts at another height. Assumes nothing.
use Rattle.std.proofs.Common.{◌≡◌, ℕ, ◌+◌, ◌-◌, Bool, true, false, cond, ltb, [], ◌∷◌, is_some, Some, None, Option, refl, arith}
use Rattle.std.specs.List.{AllByRecursion as All}
use Rattle.std.proofs.lemmas.Bool.Decides.{nat_tests}
use Rattle.table.specs.Keys.{shorter}
use Rattle.table.specs.Rows.{at, put, without}
use Rattle.table.proofs.Keeping.{all-put, all_without}
use Rattle.types.specs.Numbers.{Height}
use Rattle.tips.specs.Counting.{Rows, weigh, total, fewer, shifted}
use Rattle.tips.proofs.Weights.{weigh-more, weigh-fewer, at_some}
use Rattle.tips.proofs.Tidy.{Counted}

pub some_of : {X : Type 0} (o : Option X) → is_some o ≡ true → (c : X) × (o ≡ Some c)
some_of None h = absurd (let z : ◌≡◌ {A = ℕ} 0 1 = cc in omega arith)
some_of (Some c) h = (c, refl)

-- what holds of each height holds of one that is there
pub all-at : (Q : ℕ → Type 0) (h : Height) (es : Rows) (c : ℕ) → at shorter h es ≡ Some c → All (λ e. Q e.key.0) es → Q h.0
all-at Q h [] c is hs = absurd (let z : ◌≡◌ {A = ℕ} 0 1 = cc in omega arith)
all-at Q h (e ∷ es) c is hs = go (shorter e.key h) refl (shorter h e.key) refl is (λ j. all-at Q h es c j hs.1)
  where
    go : (a : Bool) → shorter e.key h ≡ a → (b : Bool) → shorter h e.key ≡ b → cond a (at shorter h es) (cond b None (Some e.value)) ≡ Some c → (at shorter h es ≡ Some c → Q h.0) → Q h.0
    go true x b y is' rest = rest is'
    go false x true y is' rest = absurd (let z : ◌≡◌ {A = ℕ} 0 1 = cc in omega arith)
    go false x false y is' rest = let k : e.key.0 ≡ h.0 = grind (arith, nat_tests) in rw (← k) hs.0

module _ (old new : Height) (es : Rows) (k : Counted es) (there : is_some (at shorter old es) ≡ true) where
  pub room : total (fewer old es) + 1 ≡ total es
  room =
      let f = some_of (at shorter old es) there in
      weigh-fewer (λ _. true) old es f.0 f.1 (at_some old es f.0 k.some f.1)

  pub weigh-shifted : (p : ℕ → Bool) → weigh p (shifted old new es) + cond (p old.0) 1 0 ≡ weigh p es + cond (p new.0) 1 0
  weigh-shifted p =
      let f = some_of (at shorter old es) there in
      omega (arith, weigh-more p new (fewer old es), weigh-fewer p old es f.0 f.1 (at_some old es f.0 k.some f.1))

  pub total-shifted : total (shifted old new es) ≡ total es
  total-shifted = omega (arith, weigh-shifted (λ _. true))

  pub all-shifted : (Q : ℕ → Type 0) → Q new.0 → All (λ e. Q e.key.0) es → All (λ e. Q e.key.0) (shifted old new es)
  all-shifted Q q hs = all-put shorter (λ e. Q e.key.0) new _ (fewer old es) q (go (some_of (at shorter old es) there))
    where
      cut : (c : ℕ) (b : Bool) → at shorter old es ≡ Some c → All (λ e. Q e.key.0) (cond b (put shorter old (c - 1) es) (without shorter old es))
      cut c true is = all-put shorter (λ e. Q e.key.0) old _ es (all-at Q old es c is hs) hs
      cut c false is = all_without shorter (λ e. Q e.key.0) old es hs

      go : ((c : ℕ) × (at shorter old es ≡ Some c)) → All (λ e. Q e.key.0) (fewer old es)
      go f = rw f.1 (cut f.0 (ltb 1 f.0) f.1)
