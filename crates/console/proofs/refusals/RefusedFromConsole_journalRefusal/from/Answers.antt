use Rattle.std.proofs.Common.{rules}
use Rattle.console.proofs.refusals.RefusedFromConsole_journalRefusal.from.Goals as goal

pub returns : goal.returns
returns c = search rules
