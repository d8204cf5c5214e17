-- Two tables with a height between them, the mark: hi has the highest tips, and lo the others. Assumes nothing.
use Rattle.std.proofs.Common.{◌≡◌, ℕ, ◌+◌, ◌<◌, ◌≤◌, min, max, Bool, true, false, cond, leb, ◌⊎◌, [], ◌∷◌, is_some, ap, inl, inr, arith}
use Rattle.std.specs.List.{AllByRecursion as All}
use Rattle.std.proofs.lemmas.Bool.{le-leb, lt-leb, cases_lt}
use Rattle.std.proofs.lemmas.Bool.Decides.{nat_tests}
use Rattle.table.specs.declared.Entry.{Entry}
use Rattle.table.specs.Keys.{shorter}
use Rattle.table.specs.Rows.{at, Above}
use Rattle.types.specs.Numbers.{Height}
use Rattle.tips.specs.Counting.{Rows, weigh, total, shifted, Topmost}
use Rattle.tips.specs.Faults.{faults}
use Rattle.tips.proofs.Weights.{All-weaker, weigh-all, weigh_none, weigh-le}
use Rattle.tips.proofs.Tidy.{Counted}
use Rattle.tips.proofs.Shifts.{total-shifted, all-shifted}

pub record Marked (lo hi : Rows) : Type 0 where
  pub top : total hi ≡ faults (total lo + total hi)
  pub mark : ℕ
  pub under : All (λ e. e.key.0 ≤ mark) lo
  pub over : All (λ e. mark ≤ e.key.0) hi

-- with a mark, hi has the f highest
pub topmost : (lo hi : Rows) → Marked lo hi → Topmost lo hi
topmost lo hi m h = go (cases_lt m.mark h)
  where
    go : (m.mark < h) ⊎ (h ≤ m.mark) → weigh (λ x. leb h x) hi ≡ min (faults (total lo + total hi)) (weigh (λ x. leb h x) lo + weigh (λ x. leb h x) hi)
    go (inl l) =
        let none = weigh_none (λ x. leb h x) lo (All-weaker (λ e. e.key.0 ≤ m.mark) (λ e. leb h e.key.0 ≡ false) (λ e k. lt-leb h e.key.0 (omega arith)) lo m.under) in
        omega (arith, none, weigh-le (λ x. leb h x) hi, m.top)
    go (inr l) =
        let every = weigh-all (λ x. leb h x) hi (All-weaker (λ e. m.mark ≤ e.key.0) (λ e. leb h e.key.0 ≡ true) (λ e k. le-leb h e.key.0 (omega arith)) hi m.over) in
        omega (arith, every, m.top)

-- the heights past the first are above it
pub above-all : (k : Height) (es : Rows) → Above shorter k es → All (λ e. k.0 < e.key.0) es
above-all k [] hs = tt
above-all k (e ∷ es) hs = (let h = hs.0 in grind (arith, nat_tests), above-all k es hs.1)

peak : Rows → ℕ
peak [] = 0
peak (e ∷ es) = max e.key.0 (peak es)

below_peak : (es : Rows) (n : ℕ) → peak es ≤ n → All (λ e. e.key.0 ≤ n) es
unfolding peak
below_peak [] n h = tt
below_peak (e ∷ es) n h = (omega arith, below_peak es n (omega arith))

pub all_zero : (es : Rows) → weigh (λ x. leb 0 x) es ≡ total es
all_zero es = weigh-all (λ x. leb 0 x) es (every es)
  where
    every : (ds : Rows) → All (λ e. leb 0 e.key.0 ≡ true) ds
    every [] = tt
    every (d ∷ ds) = (le-leb 0 d.key.0 (omega arith), every ds)

-- and where it has them, there is a mark
pub marked : (lo hi : Rows) → Counted lo → Counted hi → Topmost lo hi → Marked lo hi
marked lo [] kl kh t = record {
  top = omega (arith, t 0, all_zero lo);
  mark = peak lo;
  under = below_peak lo (peak lo) (omega arith);
  over = tt;
}
marked lo (e ∷ es) kl kh t = record {
  top = topped;
  mark = e.key.0;
  under = below lo (λ p. omega arith) kl.some;
  over = (omega arith, All-weaker (λ d. e.key.0 < d.key.0) (λ d. e.key.0 ≤ d.key.0) (λ d l. omega arith) es (above-all e.key es kh.sorted.0));
}
  where
    topped : total (e ∷ es) ≡ faults (total lo + total (e ∷ es))
    topped = omega (arith, t 0, all_zero lo, all_zero (e ∷ es))

    not_above : (d : Entry Height ℕ) (ds : Rows) → ((p : ℕ → Bool) → weigh p (d ∷ ds) ≤ weigh p lo) → 0 < d.value → (e.key.0 < d.key.0) ⊎ (d.key.0 ≤ e.key.0) → d.key.0 ≤ e.key.0
    not_above d ds sub pos (inr l) = l
    not_above d ds sub pos (inl l) =
        let h = d.key.0 in
        let self : leb h h ≡ true = le-leb h h (omega arith) in
        let less : leb h e.key.0 ≡ false = lt-leb h e.key.0 (omega arith) in
        let has : ◌≡◌ {A = ℕ} (cond (leb h h) d.value 0) d.value = ap (λ (b : Bool). cond {A = ℕ} b d.value 0) self in
        let lacks : ◌≡◌ {A = ℕ} (cond (leb h e.key.0) e.value 0) 0 = ap (λ (b : Bool). cond {A = ℕ} b e.value 0) less in
        absurd (omega (arith, sub (λ x. leb h x), t h, topped, weigh-le (λ x. leb h x) es, kh.some.0, has, lacks))

    below : (ds : Rows) → ((p : ℕ → Bool) → weigh p ds ≤ weigh p lo) → All (λ d. 0 < d.value) ds → All (λ d. d.key.0 ≤ e.key.0) ds
    below [] sub pos = tt
    below (d ∷ ds) sub pos = (not_above d ds sub pos.0 (cases_lt e.key.0 d.key.0), below ds (λ p. omega (arith, sub p)) pos.1)

-- a tip at another height, in hi, in lo, or in both
module _ (lo hi : Rows) (kl : Counted lo) (kh : Counted hi) (m : Marked lo hi) (n : ℕ) where
  pub in_hi : (old new : Height) → is_some (at shorter old hi) ≡ true → All (λ e. e.key.0 ≤ n) lo → All (λ e. n ≤ e.key.0) hi → n ≤ new.0 → Marked lo (shifted old new hi)
  in_hi old new there us os up = record {
    top = omega (arith, m.top, total-shifted old new hi kh there);
    mark = n;
    under = us;
    over = all-shifted old new hi kh there (λ x. n ≤ x) up os;
  }

  pub in_lo : (old new : Height) → is_some (at shorter old lo) ≡ true → All (λ e. e.key.0 ≤ n) lo → All (λ e. n ≤ e.key.0) hi → new.0 ≤ n → Marked (shifted old new lo) hi
  in_lo old new there us os up = record {
    top = omega (arith, m.top, total-shifted old new lo kl there);
    mark = n;
    under = all-shifted old new lo kl there (λ x. x ≤ n) up us;
    over = os;
  }

  pub in_both : (a b c d : Height) → is_some (at shorter a lo) ≡ true → is_some (at shorter c hi) ≡ true → All (λ e. e.key.0 ≤ n) lo → All (λ e. n ≤ e.key.0) hi → b.0 ≤ n → n ≤ d.0 → Marked (shifted a b lo) (shifted c d hi)
  in_both a b c d ta tc us os low high = record {
    top = omega (arith, m.top, total-shifted a b lo kl ta, total-shifted c d hi kh tc);
    mark = n;
    under = all-shifted a b lo kl ta (λ x. x ≤ n) low us;
    over = all-shifted c d hi kh tc (λ x. n ≤ x) high os;
  }
