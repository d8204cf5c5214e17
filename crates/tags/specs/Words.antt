-- Numbers as bytes, the highest first. Assumes nothing.
use Rattle.std.specs.Prelude.{ℕ, ◌+◌, ◌*◌, ◌/◌, ◌%◌, ◌^◌, List, [], ◌∷◌, slice_index}

-- the 64-bit number that the first eight bytes spell; bytes that are missing count as 0
unfoldable pub word : List ℕ → ℕ
word bs =
    slice_index bs 0 * 2 ^ 56 + slice_index bs 1 * 2 ^ 48 + slice_index bs 2 * 2 ^ 40 + slice_index bs 3 * 2 ^ 32
    + slice_index bs 4 * 2 ^ 24 + slice_index bs 5 * 2 ^ 16 + slice_index bs 6 * 2 ^ 8 + slice_index bs 7

-- the eight bytes of a 64-bit number
unfoldable pub eight_bytes : ℕ → List ℕ
eight_bytes n =
    (n / 2 ^ 56 % 256) ∷ (n / 2 ^ 48 % 256) ∷ (n / 2 ^ 40 % 256) ∷ (n / 2 ^ 32 % 256)
    ∷ (n / 2 ^ 24 % 256) ∷ (n / 2 ^ 16 % 256) ∷ (n / 2 ^ 8 % 256) ∷ (n % 256) ∷ []
