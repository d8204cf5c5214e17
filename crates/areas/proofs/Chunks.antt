-- The areas of a medium, one after the other. Assumes nothing.
use Rattle.std.proofs.Common.{◌≡◌, ℕ, zero, suc, ◌/◌, List, [], ◌∷◌, map, length, take, drop, refl, ap}
use Rattle.std.proofs.lemmas.Iterator.{YieldsList}
use Rattle.std.proofs.iter.Yields.{fronts}
use Rattle.std.specs.Iterator.{AlwaysYields}
use Rattle.std.specs.Slice.Iter.{iter_rest}
use Rattle.std.specs.Simd.{first_chunks}
use Rattle.area.specs.Area.{read}
use Rattle.areas.specs.Plan.{parts, areas_in, plan}

chunks_are : (n : ℕ) (bs : List ℕ) → first_chunks 4096 n bs ≡ parts n bs
unfolding parts
chunks_are zero bs = refl
chunks_are (suc n) bs = ap (λ rest. take 4096 bs ∷ rest) (chunks_are n (drop 4096 bs))

-- the parts of 4,096 bytes are the areas
pub areas_are : (bs : List ℕ) → first_chunks 4096 (length bs / 4096) bs ≡ areas_in bs
unfolding areas_in
areas_are bs = chunks_are (length bs / 4096) bs

gives : (xs : List (List ℕ)) (s : _) → iter_rest s ≡ xs → AlwaysYields fronts (λ x. read x.now) s (map read xs)
gives [] s e = λ x j p. cc
gives (y ∷ ys) s e = ((λ j p. cc), λ x j p. (ap read cc, gives ys j cc))

-- each as it reads
pub YieldsList-areas : (bs : List ℕ) {s : _} → iter_rest s ≡ areas_in bs → YieldsList fronts (λ x. read x.now) s (plan bs)
unfolding plan
YieldsList-areas bs {s} e = record { runs = gives (areas_in bs) s e }
