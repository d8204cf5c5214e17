-- How many of n signers may be faulty, and how many are a quorum. Assumes nothing.
use Rattle.std.specs.Prelude.{◌≡◌, ℕ, ◌-◌, ◌/◌, [], ◌∷◌, map}

-- f: fewer than a third of n signers may be faulty
abbrev pub faults : ℕ → ℕ
faults n = (n - 1) / 3

-- n - f: so many can be heard, whichever f are silent
abbrev pub quorum : ℕ → ℕ
quorum n = n - faults n

-- the worked cases
abbrev pub QuorumCases : Type 0
QuorumCases =
    (map faults (2 ∷ 3 ∷ 4 ∷ 6 ∷ 7 ∷ 16 ∷ []) ≡ 0 ∷ 0 ∷ 1 ∷ 1 ∷ 2 ∷ 5 ∷ []) × (map quorum (2 ∷ 3 ∷ 4 ∷ 6 ∷ 7 ∷ 16 ∷ []) ≡ 2 ∷ 3 ∷ 3 ∷ 5 ∷ 5 ∷ 11 ∷ [])
