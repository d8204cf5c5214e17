use Rattle.std.proofs.Common.{rules}
use Rattle.console.proofs.refusals.RefusedFromRefusal.from.Goals as goal

pub returns : goal.returns
returns c = search rules
