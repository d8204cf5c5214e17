use Rattle.std.proofs.Common.{rules}
use Rattle.journal_commands.proofs.faults.FaultDisplay.fmt.Goals as goal

pub returns-in-NoAreas-clause-writes : goal.returns-in-NoAreas-clause-writes
returns-in-NoAreas-clause-writes g c = search rules
