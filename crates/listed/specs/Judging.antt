-- Which listed certificates are accepted, and why another is not. Assumes nothing.
use Rattle.std.specs.Prelude.{ℕ, ◌*◌, Bool, true, ◌&&◌, List, [], ◌∷◌, take, drop}
use Rattle.provider.specs.Answers.{Bytes}
use Rattle.mapped.specs.Judging as mapped

-- 64 bytes for each signer
abbrev pub size_of : ℕ → ℕ
size_of k = 64 * k

-- whether each signer's 64 bytes, one after the other, are a signature that `ok` accepts of it
abbrev pub each_accepted : (ℕ → Bytes → Bool) → List ℕ → Bytes → Bool
each_accepted ok [] body = true
each_accepted ok (i ∷ is) body = ok i (take 64 body) && each_accepted ok is (drop 64 body)

-- of n signers, those that stand in the map and their signatures
abbrev pub valid_for : ℕ → (ℕ → Bytes → Bool) → Bytes → Bool
valid_for n ok = mapped.valid_for size_of (each_accepted ok) n
