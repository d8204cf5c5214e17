-- Signers as a map of sixteen bits, bit i for signer i. Assumes nothing.
use Rattle.std.specs.Prelude.{◌≡◌, ℕ, zero, suc, ◌+◌, ◌*◌, ◌/◌, ◌%◌, ◌^◌, ◌≤◌, Bool, true, cond, ◌&&◌, List, [], ◌∷◌, ◌++◌, length, Some, None, Option, ◌==◌, nat_le, nat_lt, slice_index}
use Rattle.std.specs.List.{list_all}
use Rattle.tips.specs.Faults.{quorum}

-- whether bit i of m stands
abbrev pub bit : ℕ → ℕ → Bool
bit i m = m / 2 ^ i % 2 == 1

-- of the k numbers from i on, those whose bit stands
unfoldable pub standing_from : ℕ → ℕ → ℕ → List ℕ
standing_from zero i m = []
standing_from (suc k) i m = cond (bit i m) (i ∷ []) [] ++ standing_from k (suc i) m

-- the signers of a map, in ascending order
unfoldable pub standing : ℕ → List ℕ
standing m = standing_from 16 0 m

-- the map of some signers: the sum of their bits
abbrev pub map_of : List ℕ → ℕ
map_of [] = 0
map_of (i ∷ is) = 2 ^ i + map_of is

-- the two bytes of a map, the higher first
abbrev pub two_bytes : ℕ → List ℕ
two_bytes m = (m / 256 % 256) ∷ (m % 256) ∷ []

-- the map that two bytes spell
abbrev pub map_in : List ℕ → ℕ
map_in bs = slice_index bs 0 * 256 + slice_index bs 1

-- in ascending order from `next` on, and below n
abbrev pub rising : ℕ → ℕ → List ℕ → Bool
rising next n [] = true
rising next n (i ∷ is) = nat_le next i && (nat_lt i n && rising (suc i) n is)

-- n − f or more signers below n, in ascending order
abbrev pub enough : ℕ → List ℕ → Bool
enough n is = nat_le (quorum n) (length is) && rising 0 n is

-- the map of enough signers of at most 16
abbrev pub map_for : ℕ → List ℕ → Option ℕ
map_for n is = cond (nat_le n 16 && enough n is) (Some (map_of is)) None

-- whether every signer is below n
abbrev pub all_below : ℕ → List ℕ → Bool
all_below n is = list_all (λ i. nat_lt i n) is

-- a map gives its signers back, and so do its two bytes
abbrev pub MapsReturn : Type 0
MapsReturn = (n : ℕ) (is : List ℕ) → n ≤ 16 → rising 0 n is ≡ true → (standing (map_of is) ≡ is) × (map_in (two_bytes (map_of is)) ≡ map_of is)
