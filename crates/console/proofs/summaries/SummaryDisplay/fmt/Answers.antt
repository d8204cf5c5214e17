use Rattle.std.proofs.Common.{rules}
use Rattle.console.proofs.summaries.SummaryDisplay.fmt.Goals as goal

pub returns-in-Some-clause-writes : goal.returns-in-Some-clause-writes
returns-in-Some-clause-writes g c = search rules
