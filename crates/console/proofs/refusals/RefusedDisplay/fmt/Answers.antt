use Rattle.std.proofs.Common.{rules}
use Rattle.console.proofs.refusals.RefusedDisplay.fmt.Goals as goal

pub returns-in-Tips-clause-writes : goal.returns-in-Tips-clause-writes
returns-in-Tips-clause-writes g c = search rules
