use Rattle.std.proofs.Common.{arith}
use Rattle.std.proofs.lemmas.Grind.{common_steps}
use Rattle.trial.specs.Faults.{list_fault}
use Rattle.trial.proofs.list_faults.check.Goals as goal

pub returns-in_err-map_err : goal.returns-in_err-map_err
unfolding list_fault
returns-in_err-map_err c = grind (arith, common_steps, c.in_err-map_err.was, c.in_err-map_err.ensures)

pub returns : goal.returns
unfolding list_fault
returns c = grind (arith, common_steps)
