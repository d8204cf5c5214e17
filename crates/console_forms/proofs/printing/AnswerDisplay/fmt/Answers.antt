use Rattle.std.proofs.Common.{rules}
use Rattle.console_forms.proofs.printing.AnswerDisplay.fmt.Goals as goal

pub returns-in-Record-clause-writes : goal.returns-in-Record-clause-writes
returns-in-Record-clause-writes g c = search rules
