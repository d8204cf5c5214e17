-- Numbers spelled in decimal. Assumes nothing.
use Rattle.std.specs.Prelude.{◌≡◌, ℕ, ◌+◌, ◌-◌, ◌*◌, ◌^◌, ◌<◌, cond, ◌&&◌, List, [], ◌∷◌, length, Some, None, decimal, Option, nat_lt}
use Rattle.std.specs.Char.{is_ascii_digit}
use Rattle.std.specs.Str.{all_ascii_digits}

-- the number that digits spell, after those of n
abbrev pub spelt : ℕ → List ℕ → ℕ
spelt n [] = n
spelt n (c ∷ cs) = spelt (n * 10 + (c - 48)) cs

-- a word after the digits of n: its number, where it has digits alone and the number has at most 64 bits
unfoldable pub number_after : ℕ → List ℕ → Option ℕ
number_after n ds = cond (all_ascii_digits ds && nat_lt (spelt n ds) (2 ^ 64)) (Some (spelt n ds)) None

-- the number of a word: one digit or more, zeros in front allowed, below 2 ^ 64
abbrev pub number_of : List ℕ → Option ℕ
number_of ds = cond (nat_lt 0 (length ds)) (number_after 0 ds) None

-- one digit more
abbrev pub pushed : ℕ → ℕ → Option ℕ
pushed n c = cond (is_ascii_digit c && nat_lt (n * 10 + (c - 48)) (2 ^ 64)) (Some (n * 10 + (c - 48))) None

-- what is printed of a number is read as that number
abbrev pub NumberReadsBack : Type 0
NumberReadsBack = (n : ℕ) → n < 2 ^ 64 → number_of (decimal n) ≡ Some n
