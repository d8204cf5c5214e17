use Rattle.std.proofs.Common.{rules}
use Rattle.console_provider.proofs.answers.RefusalFromFault.from.Goals as goal

pub returns : goal.returns
returns c = search rules
