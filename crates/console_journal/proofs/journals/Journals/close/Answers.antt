use Rattle.std.proofs.Common.{rules}
use Rattle.console_journal.proofs.journals.Journals.close.Goals as goal

pub returns : goal.returns
returns c = search rules
