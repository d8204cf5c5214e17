use Rattle.std.proofs.Common.{rules}
use Rattle.console.proofs.consoles.Console.kept_bytes.Goals as goal

pub returns : goal.returns
returns c = search rules
