-- The (f + 1)-th largest of a list, and the two tables of counts that find it. Assumes nothing.
use Rattle.std.specs.Prelude.{◌≡◌, ℕ, ◌+◌, ◌<◌, ◌≤◌, min, Bool, List, length, count_by, nat_le, nat_lt}
use Rattle.tips.specs.Counting.{Rows, weigh}
use Rattle.tips.specs.Faults.{faults}

-- t is the (f + 1)-th largest of the tips, equal ones each counted: more than f of them are t or above, and at most f are above t
pub record Largest (f : ℕ) (tips : List ℕ) (t : ℕ) : Type 0 where
  pub enough : f < count_by (λ x. nat_le t x) tips
  pub few : count_by (λ x. nat_lt t x) tips ≤ f

-- t is the safe tip of the signers with these tips: the (f + 1)-th largest, so that at least one signer that is not faulty has told t or a higher tip
abbrev pub Safe : List ℕ → ℕ → Type 0
Safe tips t = Largest (faults (length tips)) tips t

-- there is at most one such t
abbrev pub One : Type 0
One = (f : ℕ) (tips : List ℕ) (t u : ℕ) → Largest f tips t → Largest f tips u → t ≡ u

-- hi counts exactly the f highest of the n tips, and lo exactly the n - f lowest
pub record Split (tips : List ℕ) (lo hi : Rows) : Type 0 where
  -- the tips of the list are those of the two tables, whichever test they are counted by
  pub all : (p : ℕ → Bool) → count_by p tips ≡ weigh p lo + weigh p hi
  -- of the tips that are h or above hi has all, or f
  pub top : (h : ℕ) → weigh (λ x. nat_le h x) hi ≡ min (faults (length tips)) (count_by (λ x. nat_le h x) tips)
