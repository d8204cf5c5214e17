use Rattle.std.proofs.Common.{ℕ, List, sym, ap, ◌∙◌}
use Rattle.std.specs.Option.{option_map}
use Rattle.std.specs.List.{slice_get}
use Rattle.areas_reading.specs.Next.{placed_at, leading}
use Rattle.areas_reading.proofs.Shows.{records_is}
use Rattle.areas_reading.proofs.nexts.first_above.Goals as goal

pub returns : goal.returns
returns c =
    let p = c.in_ok-section.ensures in
    let r = records_is c.part.result.now p.0 (c.part.ensures.reads ∙ p.3) in
    c.record_in.ensures
    ∙ ap (λ (rs : List (List ℕ)). option_map (placed_at c.in_ok-section.section 0) (slice_get rs 0)) (sym r)
    ∙ ap (λ (s : ℕ). option_map (placed_at s 0) (slice_get p.0.records 0)) p.2
    ∙ sym (ap leading p.1)
