use Rattle.std.proofs.Common.{◌+◌, ◌≤◌, sym, ap, ◌∙◌, arith}
use Rattle.std.specs.Option.{option_map}
use Rattle.std.proofs.lemmas.Option.{slice_get_past}
use Rattle.areas.specs.Plan.{records_in, plan}
use Rattle.journal.specs.Places.{placed}
use Rattle.areas_reading.specs.Next.{placed_at}
use Rattle.areas_reading.proofs.Shows.{in_few}
use Rattle.areas_reading.proofs.nexts.record_past.Goals as goal

pub returns-in_err-number : goal.returns-in_err-number
returns-in_err-number c =
    let few = in_few c.args.place.section c.args.medium.now in
    let big : 4096 ≤ c.args.place.number + 1 = omega (arith, c.in_err-number.ensures) in
    let past = slice_get_past (records_in c.args.place.section (plan c.args.medium.now)) (c.args.place.number + 1) (omega arith) in
    ap (option_map placed) c.from_residual.ensures ∙ sym (ap (option_map (placed_at c.args.place.section (c.args.place.number + 1))) past)
