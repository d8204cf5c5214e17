-- The tables of a set whose tips are all 0. Assumes nothing.
use Rattle.std.proofs.Common.{◌≡◌, ℕ, suc, ◌+◌, ◌-◌, ◌<◌, ◌≤◌, min, Bool, true, false, cond, ◌&&◌, eqb, ltb, leb, List, [], ◌∷◌, map, length, take, replicate, count_by, sym, refl, ap, ◌∙◌, arith}
use Rattle.std.proofs.lemmas.List.{take-replicate}
use Rattle.std.proofs.lemmas.Simd.{splat_is_map}
use Rattle.std.proofs.lemmas.List.Sums.{sum_by-cons}
use Rattle.std.proofs.lemmas.Bool.Decides.{nat_tests}
use Rattle.types.specs.Numbers.{Height, height, number}
use Rattle.tips.specs.Counting.{Rows, weigh, total, zeros, Topmost}
use Rattle.tips.specs.Faults.{faults}
use Rattle.tips.specs.Ranks.{Split}
use Rattle.tips.specs.Seats.{tips_of, opened}
use Rattle.tips.proofs.Splits.{split}

weigh-zeros : (p : ℕ → Bool) (n : ℕ) → weigh p (zeros n) ≡ cond (p 0) n 0
weigh-zeros p n = go (ltb 0 n) refl (p 0) refl
  where
    go : (a : Bool) → ltb 0 n ≡ a → (b : Bool) → p 0 ≡ b → weigh p (cond a (record { key = number 0; value = n } ∷ []) []) ≡ cond b n 0
    go true x true y = rw y (omega arith)
    go true x false y = rw y (omega arith)
    go false x true y = let z : n ≡ 0 = grind (arith, nat_tests) in omega arith
    go false x false y = refl

count-opened : {K : Type 0} (p : ℕ → Bool) (keys : List K) → count_by p (tips_of (opened keys)) ≡ cond (p 0) (length keys) 0
count-opened p [] = go (p 0)
  where
    go : (b : Bool) → ◌≡◌ {A = ℕ} 0 (cond b 0 0)
    go true = refl
    go false = refl
count-opened p (k ∷ ks) = sum_by-cons (λ x. cond (p x) 1 0) 0 (tips_of (opened ks)) ∙ go (p 0) (count-opened p ks)
  where
    go : (b : Bool) → count_by p (tips_of (opened ks)) ≡ cond b (length ks) 0 → cond b 1 0 + count_by p (tips_of (opened ks)) ≡ cond b (suc (length ks)) 0
    go true rest = omega arith
    go false rest = omega arith

parted : (b : Bool) (n f : ℕ) → f ≤ n → cond b n 0 ≡ cond b (n - f) 0 + cond b f 0
parted true n f le = omega arith
parted false n f le = omega arith

-- n - f of them in lo, and f in hi
pub opened_split : {K : Type 0} (keys : List K) (n f : ℕ) (lo hi : Rows) → n ≡ length keys → f ≡ faults n → lo ≡ zeros (n - f) → hi ≡ zeros f → Split (tips_of (opened keys)) lo hi
opened_split keys n f lo hi len is isl ish =
    split (tips_of (opened keys)) lo hi highest (λ p.
    count-opened p keys
    ∙ ap (λ m. cond (p 0) m 0) (sym len)
    ∙ parted (p 0) n f (omega (arith, is))
    ∙ ap (λ m. m + cond (p 0) f 0) (sym (low p))
    ∙ ap (λ m. weigh p lo + m) (sym (high p)))
  where
    low : (p : ℕ → Bool) → weigh p lo ≡ cond (p 0) (n - f) 0
    low p = ap (weigh p) isl ∙ weigh-zeros p (n - f)

    high : (p : ℕ → Bool) → weigh p hi ≡ cond (p 0) f 0
    high p = ap (weigh p) ish ∙ weigh-zeros p f

    top : (b : Bool) (h : ℕ) → weigh (λ x. leb h x) lo ≡ cond b (n - f) 0 → weigh (λ x. leb h x) hi ≡ cond b f 0 → weigh (λ x. leb h x) hi ≡ min (faults (total lo + total hi)) (weigh (λ x. leb h x) lo + weigh (λ x. leb h x) hi)
    top true h l g = omega (arith, l, g, low (λ _. true), high (λ _. true), is)
    top false h l g = omega (arith, l, g)

    highest : Topmost lo hi
    highest h = top (leb h 0) h (low (λ x. leb h x)) (high (λ x. leb h x))

-- as many zeros as keys
pub zero_tips : {K : Type 0} (keys : List K) (n : ℕ) (z : Height) → z ≡ height 0 → length keys ≤ n → take (length keys) (replicate n z) ≡ map (λ _. height 0) keys
zero_tips keys n z is le = rw is (take-replicate (length keys) n (height 0) le ∙ splat_is_map keys (length keys) (height 0) refl)

-- the tests of the two calls
pub passes : (n m : ℕ) → m ≤ 16 → m ≡ n → (eqb m n && leb m 16) ≡ true
passes n m few same = grind (arith, nat_tests)

pub passes-some : (n m : ℕ) → 0 < m → m ≤ 16 → m ≡ n → (ltb 0 m && (eqb m n && leb m 16)) ≡ true
passes-some n m some few same = grind (arith, nat_tests)
