use Rattle.std.proofs.Common.{◌≡◌, ℕ, ◌+◌, ◌-◌, ◌*◌, ◌<◌, ◌≤◌, [], length, take, drop, None, sym, refl, ap, ◌∙◌, arith, rules}
use Rattle.std.proofs.lemmas.List.{get_or_past}
use Rattle.area.specs.Area.{read}
use Rattle.area.proofs.Marks.{read-free}
use Rattle.areas.specs.Plan.{area_at, plan}
use Rattle.areas.proofs.Parts.{inside, get_d_plan}
use Rattle.areas.proofs.finds.part.Goals as goal

pub overflow_mul-result : goal.overflow_mul-result
overflow_mul-result c = let h = inside c.args.medium.now c.args.i (omega (arith, c.count.ensures)) in search rules

pub overflow_mul-result-2 : goal.overflow_mul-result-2
overflow_mul-result-2 c = let h = inside c.args.medium.now c.args.i (omega (arith, c.count.ensures)) in search rules

pub overflow_add-result : goal.overflow_add-result
overflow_add-result c = let h = inside c.args.medium.now c.args.i (omega (arith, c.count.ensures)) in search rules

pub slice_bounds-result-end-2 : goal.slice_bounds-result-end-2
slice_bounds-result-end-2 c = let h = inside c.args.medium.now c.args.i (omega (arith, c.count.ensures)) in search rules

pub returns-then-i-count : goal.returns-then-i-count
returns-then-i-count c =
    let n : length (plan c.args.medium.now) ≤ c.args.i = omega (arith, c.count.ensures) in
    record { reads = read-free [] refl ∙ sym (get_or_past (plan c.args.medium.now) c.args.i None n); value = λ h. absurd (omega arith) }

pub returns : goal.returns
unfolding area_at
returns c =
    let i = c.args.i in
    let h : i < length (plan c.args.medium.now) = omega (arith, c.count.ensures) in
    let k : i * 4096 + 4096 - i * 4096 ≡ 4096 = omega arith in
    let v = ap (λ (n : ℕ). take n (drop (i * 4096) c.args.medium.now)) k in
    record { reads = ap read v ∙ sym (get_d_plan c.args.medium.now i h); value = λ _. v }
