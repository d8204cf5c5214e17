use Rattle.std.proofs.Common.{rules}
use Rattle.console_tips.proofs.answers.RefusalDisplay.fmt.Goals as goal

pub returns-in-Size-clause-writes : goal.returns-in-Size-clause-writes
returns-in-Size-clause-writes g c = search rules
