use Rattle.std.proofs.Common.{rules}
use Rattle.console.proofs.consoles.Console.load.Goals as goal

pub returns-clause-counts : goal.returns-clause-counts
returns-clause-counts c = search rules
