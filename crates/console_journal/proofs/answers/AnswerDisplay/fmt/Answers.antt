use Rattle.std.proofs.Common.{rules}
use Rattle.console_journal.proofs.answers.AnswerDisplay.fmt.Goals as goal

pub returns-in-Damaged-clause-writes : goal.returns-in-Damaged-clause-writes
returns-in-Damaged-clause-writes g c = search rules
