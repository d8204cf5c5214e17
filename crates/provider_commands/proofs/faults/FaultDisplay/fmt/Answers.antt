use Rattle.std.proofs.Common.{rules}
use Rattle.provider_commands.proofs.faults.FaultDisplay.fmt.Goals as goal

pub returns-in-NoOwn-clause-writes : goal.returns-in-NoOwn-clause-writes
returns-in-NoOwn-clause-writes g c = search rules
