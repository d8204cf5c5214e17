use Rattle.std.proofs.Common.{rules}
use Rattle.console_tips.proofs.answers.AnswerDisplay.fmt.Goals as goal

pub returns-in-Counted-clause-writes : goal.returns-in-Counted-clause-writes
returns-in-Counted-clause-writes g c = search rules
