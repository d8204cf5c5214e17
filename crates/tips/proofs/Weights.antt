-- What one tip more or one fewer makes of a table of counts. Assumes nothing.
use Rattle.std.proofs.Common.{◌≡◌, ℕ, ◌+◌, ◌-◌, ◌<◌, ◌≤◌, Bool, true, false, cond, ltb, List, [], ◌∷◌, length, Some, None, Option, unwrap_or, refl, ap, ◌∙◌, arith}
use Rattle.std.specs.List.{AllByRecursion as All}
use Rattle.std.proofs.lemmas.Bool.Decides.{nat_tests}
use Rattle.types.specs.Numbers.{Height}
use Rattle.table.specs.Keys.{shorter}
use Rattle.table.specs.Rows.{entry, at, put, without}
use Rattle.tips.specs.Counting.{Rows, weigh, more, fewer}

pub All-weaker : {X : Type 0} (P Q : X → Type 0) → ((x : X) → P x → Q x) → (xs : List X) → All P xs → All Q xs
All-weaker P Q f [] hs = tt
All-weaker P Q f (x ∷ xs) hs = (f x hs.0, All-weaker P Q f xs hs.1)

pub at-le : (h : Height) (es : Rows) → unwrap_or (at shorter h es) 0 ≤ weigh (λ _. true) es
at-le h [] = omega arith
at-le h (e ∷ es) = go (shorter e.key h) (shorter h e.key) (at-le h es)
  where
    go : (a b : Bool) → unwrap_or (at shorter h es) 0 ≤ weigh (λ _. true) es → unwrap_or (cond a (at shorter h es) (cond b None (Some e.value))) 0 ≤ e.value + weigh (λ _. true) es
    go true b rest = omega arith
    go false true rest = omega arith
    go false false rest = omega arith

module _ (p : ℕ → Bool) (h : Height) where
  put_some : (v c : ℕ) (es : Rows) → at shorter h es ≡ Some c → weigh p (put shorter h v es) + cond (p h.0) c 0 ≡ weigh p es + cond (p h.0) v 0
  put_some v c [] is = absurd (let z : ◌≡◌ {A = ℕ} 0 1 = cc in omega arith)
  put_some v c (e ∷ es) is = go (shorter e.key h) refl (shorter h e.key) refl is (put_some v c es)
    where
      go : (a : Bool) → shorter e.key h ≡ a → (b : Bool) → shorter h e.key ≡ b → cond a (at shorter h es) (cond b None (Some e.value)) ≡ Some c → (at shorter h es ≡ Some c → weigh p (put shorter h v es) + cond (p h.0) c 0 ≡ weigh p es + cond (p h.0) v 0) → weigh p (cond a (e ∷ put shorter h v es) (cond b (entry h v ∷ e ∷ es) (entry h v ∷ es))) + cond (p h.0) c 0 ≡ (cond (p e.key.0) e.value 0 + weigh p es) + cond (p h.0) v 0
      go true x b y is' rest = omega (arith, rest is')
      go false x true y is' rest = absurd (let z : ◌≡◌ {A = ℕ} 0 1 = cc in omega arith)
      go false x false y is' rest =
          let k : e.key.0 ≡ h.0 = grind (arith, nat_tests) in
          let w : e.value ≡ c = cc in
          let f : cond (p e.key.0) e.value 0 ≡ cond (p h.0) c 0 = ap (λ n. cond (p n) e.value 0) k ∙ ap (λ n. cond (p h.0) n 0) w in
          omega (arith, f)

  put_none : (v : ℕ) (es : Rows) → at shorter h es ≡ None → weigh p (put shorter h v es) ≡ weigh p es + cond (p h.0) v 0
  put_none v [] is = omega arith
  put_none v (e ∷ es) is = go (shorter e.key h) (shorter h e.key) is (put_none v es)
    where
      go : (a b : Bool) → cond a (at shorter h es) (cond b None (Some e.value)) ≡ None → (at shorter h es ≡ None → weigh p (put shorter h v es) ≡ weigh p es + cond (p h.0) v 0) → weigh p (cond a (e ∷ put shorter h v es) (cond b (entry h v ∷ e ∷ es) (entry h v ∷ es))) ≡ (cond (p e.key.0) e.value 0 + weigh p es) + cond (p h.0) v 0
      go true b is' rest = omega (arith, rest is')
      go false true is' rest = omega arith
      go false false is' rest = absurd (let z : ◌≡◌ {A = ℕ} 0 1 = cc in omega arith)

  without-some : (c : ℕ) (es : Rows) → at shorter h es ≡ Some c → weigh p (without shorter h es) + cond (p h.0) c 0 ≡ weigh p es
  without-some c [] is = absurd (let z : ◌≡◌ {A = ℕ} 0 1 = cc in omega arith)
  without-some c (e ∷ es) is = go (shorter e.key h) refl (shorter h e.key) refl is (without-some c es)
    where
      go : (a : Bool) → shorter e.key h ≡ a → (b : Bool) → shorter h e.key ≡ b → cond a (at shorter h es) (cond b None (Some e.value)) ≡ Some c → (at shorter h es ≡ Some c → weigh p (without shorter h es) + cond (p h.0) c 0 ≡ weigh p es) → weigh p (cond a (e ∷ without shorter h es) (cond b (e ∷ es) es)) + cond (p h.0) c 0 ≡ cond (p e.key.0) e.value 0 + weigh p es
      go true x b y is' rest = omega (arith, rest is')
      go false x true y is' rest = absurd (let z : ◌≡◌ {A = ℕ} 0 1 = cc in omega arith)
      go false x false y is' rest =
          let k : e.key.0 ≡ h.0 = grind (arith, nat_tests) in
          let w : e.value ≡ c = cc in
          let f : cond (p e.key.0) e.value 0 ≡ cond (p h.0) c 0 = ap (λ n. cond (p n) e.value 0) k ∙ ap (λ n. cond (p h.0) n 0) w in
          omega (arith, f)

  one : (b : Bool) (c : ℕ) → cond b (c + 1) 0 ≡ cond b c 0 + cond b 1 0
  one true c = refl
  one false c = omega arith

  -- one tip more at h
  pub weigh-more : (es : Rows) → weigh p (more h es) ≡ weigh p es + cond (p h.0) 1 0
  weigh-more es = go (at shorter h es) refl
    where
      go : (o : Option ℕ) → at shorter h es ≡ o → weigh p (put shorter h (unwrap_or (at shorter h es) 0 + 1) es) ≡ weigh p es + cond (p h.0) 1 0
      go None is = ap (λ o. weigh p (put shorter h (unwrap_or o 0 + 1) es)) is ∙ put_none 1 es is
      go (Some c) is = ap (λ o. weigh p (put shorter h (unwrap_or o 0 + 1) es)) is ∙ omega (arith, put_some (c + 1) c es is, one (p h.0) c)

  -- one tip fewer at h, where there is one
  pub weigh-fewer : (es : Rows) (c : ℕ) → at shorter h es ≡ Some c → 0 < c → weigh p (fewer h es) + cond (p h.0) 1 0 ≡ weigh p es
  weigh-fewer es c is pos = rw is (go (ltb 1 c) refl)
    where
      go : (b : Bool) → ltb 1 c ≡ b → weigh p (cond b (put shorter h (c - 1) es) (without shorter h es)) + cond (p h.0) 1 0 ≡ weigh p es
      go true x = let d : c ≡ c - 1 + 1 = grind (arith, nat_tests) in omega (arith, put_some (c - 1) c es is, one (p h.0) (c - 1), ap (λ n. cond (p h.0) n 0) d)
      go false x = let d : c ≡ 1 = grind (arith, nat_tests) in omega (arith, without-some c es is, ap (λ n. cond (p h.0) n 0) d)

-- what a test that all pass, or none, weighs
pub weigh-all : (p : ℕ → Bool) (es : Rows) → All (λ e. p e.key.0 ≡ true) es → weigh p es ≡ weigh (λ _. true) es
weigh-all p [] hs = refl
weigh-all p (e ∷ es) hs = rw hs.0 (ap (λ n. e.value + n) (weigh-all p es hs.1))

pub weigh_none : (p : ℕ → Bool) (es : Rows) → All (λ e. p e.key.0 ≡ false) es → weigh p es ≡ 0
weigh_none p [] hs = refl
weigh_none p (e ∷ es) hs = rw hs.0 (omega (arith, weigh_none p es hs.1))

pub weigh-le : (p : ℕ → Bool) (es : Rows) → weigh p es ≤ weigh (λ _. true) es
weigh-le p [] = omega arith
weigh-le p (e ∷ es) = go (p e.key.0) (weigh-le p es)
  where
    go : (b : Bool) → weigh p es ≤ weigh (λ _. true) es → cond b e.value 0 + weigh p es ≤ e.value + weigh (λ _. true) es
    go true rest = omega arith
    go false rest = omega arith

-- each height is counted, so there are no more heights than tips
pub length-le : (es : Rows) → All (λ e. 0 < e.value) es → length es ≤ weigh (λ _. true) es
length-le [] hs = omega arith
length-le (e ∷ es) hs = omega (arith, hs.0, length-le es hs.1)

-- a height that is there is counted
pub at_some : (h : Height) (es : Rows) (c : ℕ) → All (λ e. 0 < e.value) es → at shorter h es ≡ Some c → 0 < c
at_some h [] c hs is = absurd (let z : ◌≡◌ {A = ℕ} 0 1 = cc in omega arith)
at_some h (e ∷ es) c hs is = go (shorter e.key h) (shorter h e.key) is (at_some h es c hs.1)
  where
    go : (a b : Bool) → cond a (at shorter h es) (cond b None (Some e.value)) ≡ Some c → (at shorter h es ≡ Some c → 0 < c) → 0 < c
    go true b is' rest = rest is'
    go false true is' rest = absurd (let z : ◌≡◌ {A = ℕ} 0 1 = cc in omega arith)
    go false false is' rest = let w : e.value ≡ c = cc in omega (arith, hs.0)
