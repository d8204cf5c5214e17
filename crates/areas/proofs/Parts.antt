-- The areas of a medium as parts of its bytes. Assumes nothing.
use Rattle.std.proofs.Common.{◌≡◌, ℕ, zero, suc, ◌+◌, ◌*◌, ◌/◌, ◌<◌, ◌≤◌, List, [], length, get_or, take, drop, None, refl, ap, ◌∙◌, arith}
use Rattle.std.proofs.lemmas.List.{length-take-le, length-drop, length-map, get_or-map, drop-drop}
use Rattle.area.specs.Area.{read}
use Rattle.areas.specs.Plan.{parts, areas_in, area_at, plan}

length-parts : (n : ℕ) (bs : List ℕ) → length (parts n bs) ≡ n
unfolding parts
length-parts zero bs = refl
length-parts (suc n) bs = ap suc (length-parts n (drop 4096 bs))

get_d_parts : (n i : ℕ) (bs : List ℕ) → i < n → get_or (parts n bs) i [] ≡ take 4096 (drop (i * 4096) bs)
unfolding parts
get_d_parts zero i bs h = absurd (omega arith)
get_d_parts (suc n) zero bs h = refl
get_d_parts (suc n) (suc i) bs h =
    let e : 4096 + i * 4096 ≡ suc i * 4096 = omega arith in
    get_d_parts n i (drop 4096 bs) (omega arith) ∙ ap (take 4096) (drop-drop (i * 4096) 4096 bs) ∙ ap (λ k. take 4096 (drop k bs)) e

pub length-plan : (bs : List ℕ) → length (plan bs) ≡ length bs / 4096
unfolding plan areas_in
length-plan bs = length-map (areas_in bs) read ∙ length-parts (length bs / 4096) bs

pub inside : (bs : List ℕ) (i : ℕ) → i < length (plan bs) → i * 4096 + 4096 ≤ length bs
inside bs i h = let l = length-plan bs in omega arith

pub length-area : (bs : List ℕ) (i : ℕ) → i < length (plan bs) → length (area_at i bs) ≡ 4096
unfolding area_at
length-area bs i h =
    let l = inside bs i h in
    length-take-le 4096 (drop (i * 4096) bs) (simp length-drop (omega arith))

pub get_d_plan : (bs : List ℕ) (i : ℕ) → i < length (plan bs) → get_or (plan bs) i None ≡ read (area_at i bs)
unfolding plan areas_in area_at
get_d_plan bs i h =
    let l = length-parts (length bs / 4096) bs in
    let h' : i < length (parts (length bs / 4096) bs) = omega (arith, length-plan bs) in
    get_or-map read (parts (length bs / 4096) bs) i [] None h' ∙ ap read (get_d_parts (length bs / 4096) i bs (omega arith))
