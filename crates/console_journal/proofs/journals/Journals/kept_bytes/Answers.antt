use Rattle.std.proofs.Common.{rules}
use Rattle.console_journal.proofs.journals.Journals.kept_bytes.Goals as goal

pub returns-in-Some : goal.returns-in-Some
returns-in-Some c = search rules

pub returns-in_default : goal.returns-in_default
returns-in_default c = search rules
