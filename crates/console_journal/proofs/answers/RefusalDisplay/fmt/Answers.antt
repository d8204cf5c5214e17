use Rattle.std.proofs.Common.{rules}
use Rattle.console_journal.proofs.answers.RefusalDisplay.fmt.Goals as goal

pub returns-in-Full-clause-writes : goal.returns-in-Full-clause-writes
returns-in-Full-clause-writes g c = search rules
