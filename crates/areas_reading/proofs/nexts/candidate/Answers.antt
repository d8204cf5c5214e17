use Rattle.std.proofs.Common.{◌≡◌, None, sym, ap, ◌∙◌, rules}
use Rattle.std.proofs.lemmas.Bool.{cond-false, and_left}
use Rattle.std.specs.Bool.{then_some}
use Rattle.areas.specs.Plan.{above, some}
use Rattle.area.specs.Area.{read, records_of}
use Rattle.areas_reading.proofs.Lows.{candidate-free, candidate_used, candidate-above}
use Rattle.areas_reading.proofs.nexts.candidate.Goals as goal

pub returns-in_err-section : goal.returns-in_err-section
returns-in_err-section c =
    let told : c.from_residual.result ≡ None = search rules in
    told ∙ sym (candidate-free c.args.low (read c.args.area.now) (sym c.in_err-section.ensures))

pub returns-then-not-is_above : goal.returns-then-not-is_above
returns-then-not-is_above c =
    let u = candidate_used c.args.low c.args.area.now c.in_ok-section.section (sym c.in_ok-section.ensures) in
    let a = and_left (above c.args.low c.in_ok-section.section) (some (records_of c.args.area.now)) (sym c.if-not-is_above.ensures) in
    sym (u ∙ cond-false _ _ _ a)

pub returns : goal.returns
returns c =
    c.then_some.ensures
    ∙ ap (λ b. then_some b c.in_ok-section.section) c.has_record.ensures
    ∙ candidate-above c.args.low c.args.area.now c.in_ok-section.section (sym c.in_ok-section.ensures) (sym c.if-not-is_above.ensures)
