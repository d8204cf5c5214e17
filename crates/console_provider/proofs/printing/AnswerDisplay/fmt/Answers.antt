use Rattle.std.proofs.Common.{rules}
use Rattle.console_provider.proofs.printing.AnswerDisplay.fmt.Goals as goal

pub returns-in-Accepted-clause-writes : goal.returns-in-Accepted-clause-writes
returns-in-Accepted-clause-writes g c = search rules
