use Rattle.std.proofs.Common.{rules}
use Rattle.journal_commands.proofs.reading.read_by.Goals as goal

pub returns : goal.returns
returns c = search rules
