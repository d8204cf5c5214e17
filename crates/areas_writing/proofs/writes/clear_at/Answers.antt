use Rattle.std.proofs.Common.{sym, ap, ◌∙◌}
use Rattle.areas_writing.specs.Steps.{under}
use Rattle.areas_writing.proofs.Clears.{clear_under, clear_other}
use Rattle.areas_writing.proofs.writes.clear_at.Goals as goal

pub returns-then-is_under-clause-step : goal.returns-then-is_under-clause-step
returns-then-is_under-clause-step c =
    let u = ap (under c.args.bound) (sym c.part.ensures.reads) ∙ sym c.if-is_under.ensures in
    clear_under c.args.medium.now c.free_at.new.medium c.args.power.now c.free_at.new.power c.args.at c.args.bound c.free_at.result c.requires u c.free_at.ensures.step c.free_at.ensures.others

pub returns-clause-step : goal.returns-clause-step
returns-clause-step c =
    clear_other c.args.medium.now c.args.power.now c.args.at c.args.bound (ap (under c.args.bound) (sym c.part.ensures.reads) ∙ sym c.if-is_under.ensures)
