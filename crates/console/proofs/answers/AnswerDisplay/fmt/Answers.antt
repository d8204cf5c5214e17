use Rattle.std.proofs.Common.{rules}
use Rattle.console.proofs.answers.AnswerDisplay.fmt.Goals as goal

pub returns-in-Forms-clause-writes : goal.returns-in-Forms-clause-writes
returns-in-Forms-clause-writes g c = search rules
