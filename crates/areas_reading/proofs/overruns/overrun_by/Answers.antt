use Rattle.std.proofs.Common.{sym, ◌∙◌}
use Rattle.area.specs.Area.{read}
use Rattle.areas.specs.Plan.{plan}
use Rattle.areas_reading.proofs.Beyond.{by_none, by_some}
use Rattle.areas_reading.proofs.overruns.overrun_by.Goals as goal

pub returns-in_err-section : goal.returns-in_err-section
returns-in_err-section c =
    c.from_residual.ensures ∙ by_none (plan c.args.medium.now) (read c.args.area.now) (sym c.in_err-section.ensures)

pub returns : goal.returns
returns c =
    c.overrun_of.ensures ∙ by_some (plan c.args.medium.now) (read c.args.area.now) c.in_ok-section.field-0 (sym c.in_ok-section.ensures)
