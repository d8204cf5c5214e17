use Rattle.std.proofs.Common.{rules}
use Rattle.fields.proofs.lines.Line.number.Goals as goal

pub returns-clause-number : goal.returns-clause-number
returns-clause-number c = search rules
