use Rattle.std.proofs.Common.{rules}
use Rattle.fields.proofs.lines.Line.next.Goals as goal

pub returns-clause-left : goal.returns-clause-left
returns-clause-left c = search rules
