-- What a map that was answered says of its signers. Assumes nothing.
use Rattle.std.proofs.Common.{◌≡◌, ℕ, ◌≤◌, Bool, true, false, cond, ◌&&◌, leb, List, length, Some, None, sym, refl, arith}
use Rattle.std.proofs.lemmas.Bool.{and_parts, leb-true}
use Rattle.provider.specs.declared.attestation.Attestation.{Attestation}
use Rattle.tips.specs.Faults.{quorum}
use Rattle.bitmaps.specs.Attested.{signers_in}
use Rattle.bitmaps.specs.Maps.{enough, map_for, map_of, rising}
use Rattle.bitmaps.proofs.Returns.{room}
use Rattle.bitmaps.proofs.Turns.{signers_length}

some_none : {A : Type 0} (x : A) → Some x ≡ None → ⊥
some_none x e = let z : ◌≡◌ {A = ℕ} 0 1 = cc in omega arith

-- what was answered under a test
pub made : {A : Type 0} (b : Bool) (x y : A) → cond b (Some x) None ≡ Some y → (b ≡ true) × (x ≡ y)
made true x y e = (refl, cc)
made false x y e = absurd (some_none y (sym e))

pub record Mapped (n m : ℕ) (qs : List Attestation) : Type 0 where
  pub good : (leb n 16 && enough n (signers_in qs)) ≡ true
  pub few : length qs ≤ 16
  pub is : map_of (signers_in qs) ≡ m

pub mapped : (n m : ℕ) (qs : List Attestation) → Some m ≡ map_for n (signers_in qs) → Mapped n m qs
mapped n m qs e =
    let by = made (leb n 16 && enough n (signers_in qs)) (map_of (signers_in qs)) m (sym e) in
    let parts = and_parts (leb n 16) (enough n (signers_in qs)) by.0 in
    let more = and_parts (leb (quorum n) (length (signers_in qs))) (rising 0 n (signers_in qs)) parts.1 in
    let small = leb-true n 16 parts.0 in
    record {
      good = by.0;
      few = omega (arith, room 0 n (signers_in qs) (omega arith) more.1, signers_length qs);
      is = by.1;
    }
