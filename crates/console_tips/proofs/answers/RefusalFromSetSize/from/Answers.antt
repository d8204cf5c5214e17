use Rattle.std.proofs.Common.{rules}
use Rattle.console_tips.proofs.answers.RefusalFromSetSize.from.Goals as goal

pub returns : goal.returns
returns c = search rules
