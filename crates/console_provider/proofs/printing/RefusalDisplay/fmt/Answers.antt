use Rattle.std.proofs.Common.{rules}
use Rattle.console_provider.proofs.printing.RefusalDisplay.fmt.Goals as goal

pub returns-in-UnknownEpoch-clause-writes : goal.returns-in-UnknownEpoch-clause-writes
returns-in-UnknownEpoch-clause-writes g c = search rules
