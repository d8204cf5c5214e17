use Rattle.std.proofs.Common.{rules}
use Rattle.console_provider.proofs.answers.RefusalFromListFault.from.Goals as goal

pub returns : goal.returns
returns c = search rules
