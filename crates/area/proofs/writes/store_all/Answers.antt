use Rattle.std.proofs.Common.{◌≡◌, ◌+◌, ◌-◌, length, ap, ◌∙◌, arith}
use Rattle.std.proofs.lemmas.List.{take_all}
use Rattle.power.proofs.Power.{lasts_made}
use Rattle.area.specs.Edits.{put}
use Rattle.area.proofs.Puts.{put_copied}
use Rattle.area.proofs.writes.store_all.Goals as goal

pub returns : goal.returns
returns c =
    let n = length c.args.part.now in
    let bytes = c.copy_from_slice.new.self in
    let all = lasts_made n c.args.power.now (omega arith) in
    let same : bytes ≡ c.args.part.now = c.copy_from_slice.ensures.after ∙ take_all _ _ (omega arith) in
    ((all, c.draw-made.ensures.left), put_copied c.args.at (c.args.at + c.draw-made.result - c.args.at) bytes c.args.area.now (omega arith) ∙ ap (λ bs. put c.args.at bs c.args.area.now) same)
