use Rattle.std.proofs.Common.{rules}
use Rattle.provider_commands.proofs.faults.FaultFromFieldsFault.from.Goals as goal

pub returns : goal.returns
returns c = search rules
