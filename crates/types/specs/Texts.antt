-- Keys, digests and signatures by their bytes. Assumes nothing.
use Rattle.std.specs.Prelude.{◌≡◌, ℕ, List, length}
use Rattle.std.proofs.Common.{ap, subst}
use Rattle.std.proofs.Math.Nat.{ℕ_set}
use Rattle.types.specs.declared.kinds.PublicKeys.{PublicKeys}
use Rattle.types.specs.declared.kinds.Digests.{Digests}
use Rattle.types.specs.declared.kinds.Signatures.{Signatures}
use Rattle.types.specs.declared.bytes.Bytes.{Bytes}

abbrev pub PublicKey : Type 0
PublicKey = Bytes PublicKeys 32

abbrev pub Digest : Type 0
Digest = Bytes Digests 32

abbrev pub Signature : Type 0
Signature = Bytes Signatures 64

-- the string of these bytes
abbrev pub of_bytes : {K : Type 0} → {N : ℕ} → (l : List ℕ) → length l ≡ N → Bytes K N
of_bytes l sized = record { bytes = l; of = record {}; sized = sized }

-- strings of the same bytes are one
pub of_same_bytes : {K : Type 0} {N : ℕ} (x y : Bytes K N) → x.bytes ≡ y.bytes → x ≡ y
of_same_bytes {K} {N} x y same =
    subst (λ (bs : List ℕ). (sized : length bs ≡ N) → x ≡ of_bytes bs sized) same (λ sized. ap (of_bytes x.bytes) (ℕ_set _ _ x.sized sized)) y.sized
