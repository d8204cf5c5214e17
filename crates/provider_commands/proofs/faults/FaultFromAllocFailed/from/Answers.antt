use Rattle.std.proofs.Common.{rules}
use Rattle.provider_commands.proofs.faults.FaultFromAllocFailed.from.Goals as goal

pub returns : goal.returns
returns g c = search rules
