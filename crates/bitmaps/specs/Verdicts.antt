-- What is common to certificates that begin with the map of their signers. Assumes nothing.
use Rattle.std.specs.Prelude.{◌≡◌, ℕ, ◌+◌, ◌*◌, ◌<◌, Bool, false, cond, not, ◌&&◌, List, [], ◌∷◌, length, Some, None, Option, nat_le, nat_lt}
use Rattle.tips.specs.Faults.{quorum}
use Rattle.bitmaps.specs.declared.rejection.Rejection.{Rejection}
use Rattle.bitmaps.specs.declared.rejection.Rejection.TheVariants.{UnknownEpoch, NoMap, SignerOutside, TooFew, WrongLength, BadSignature}
use Rattle.bitmaps.specs.Maps.{all_below}

-- a certificate by its map, the higher byte first, and what follows it; or nothing, where it has no whole map
abbrev pub with_map {ℓ} : {A : Type ℓ} → A → (ℕ → List ℕ → A) → List ℕ → A
with_map none f [] = none
with_map none f (a ∷ []) = none
with_map none f (a ∷ b ∷ body) = f (a * 256 + b) body

-- of n signers, those that stand pass with what follows the map: no bit is n or above, n − f or more stand, the length fits, and what is signed is good
abbrev pub passes : ℕ → List ℕ → Bool → Bool → Bool
passes n is fits good = all_below n is && (nat_le (quorum n) (length is) && (fits && good))

-- the first of the four that fails
abbrev pub verdict : ℕ → List ℕ → Bool → Bool → Option Rejection
verdict n is fits good =
    cond (not (all_below n is)) (Some SignerOutside)
    (cond (nat_lt (length is) (quorum n)) (Some TooFew) (cond (not fits) (Some WrongLength) (cond (not good) (Some BadSignature) None)))

-- what each reason says
abbrev pub Says : ℕ → List ℕ → Bool → Bool → Rejection → Type 0
Says n is fits good UnknownEpoch = ⊥
Says n is fits good NoMap = ⊥
Says n is fits good SignerOutside = all_below n is ≡ false
Says n is fits good TooFew = length is < quorum n
Says n is fits good WrongLength = fits ≡ false
Says n is fits good BadSignature = good ≡ false
