-- UInt: a number in groups of seven bits, low group first, the top bit set while more follow. Assumes nothing.
use Rattle.std.specs.Prelude.{ℕ, zero, suc, ◌+◌, ◌-◌, ◌*◌, ◌/◌, ◌%◌, Bool, true, false, cond, ◌&&◌, ◌||◌, List, [], ◌∷◌, Ok, Err, Result, ◌==◌, nat_lt}

-- a number, and how many bytes spell it
pub record Number : Type 0 where
  pub value : ℕ
  pub len : ℕ

-- the spelling of n in at most f + 1 groups
unfoldable pub spell_by : ℕ → ℕ → List ℕ
spell_by zero n = n ∷ []
spell_by (suc f) n = cond (nat_lt n 128) (n ∷ []) ((n % 128 + 128) ∷ spell_by f (n / 128))

-- the shortest spelling of n
unfoldable pub spell : ℕ → List ℕ
unfolding spell_by
spell n = spell_by n n

-- no number up to `most` is spelled with b first; where groups came before, a group 0 at the end would be one too many
abbrev pub wrong : Bool → ℕ → ℕ → Bool
wrong inner most b = (inner && b == 0) || nat_lt most b

-- a byte from 128 on gives the low seven bits of a number, and what was found behind it the others
abbrev pub behind : ℕ → Result Number ℕ → Result Number ℕ
behind b (Ok n) = Ok (record { value = (b - 128) + 128 * n.value; len = 1 + n.len })
behind b (Err k) = Err (1 + k)

-- the number up to `most` that the bytes begin with, or the index of the first byte with which they begin none;
-- `inner` where groups of the number came before
unfoldable pub groups : Bool → ℕ → List ℕ → Result Number ℕ
groups inner most [] = Err 0
groups inner most (b ∷ bs) =
    cond (wrong inner most b) (Err 0)
    (cond (nat_lt b 128) (Ok (record { value = b; len = 1 })) (behind b (groups true ((most - (b - 128)) / 128) bs)))

-- the number up to `most` that the bytes begin with, or the index of the first byte with which they begin none
abbrev pub uint : ℕ → List ℕ → Result Number ℕ
uint most bs = groups false most bs
