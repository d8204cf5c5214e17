use Rattle.std.proofs.Common.{rules}
use Rattle.console.proofs.summaries.Counts.with.Goals as goal

pub returns-then-is_err : goal.returns-then-is_err
returns-then-is_err c = search rules

pub returns-else-is_err : goal.returns-else-is_err
returns-else-is_err c = search rules
