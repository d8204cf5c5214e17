use Rattle.std.proofs.Common.{rules}
use Rattle.console_forms.proofs.refusals.RefusalDisplay.fmt.Goals as goal

pub returns-in-Decode-clause-writes : goal.returns-in-Decode-clause-writes
returns-in-Decode-clause-writes g c = search rules
