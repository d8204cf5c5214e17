use Rattle.std.proofs.Common.{rules}
use Rattle.fields.proofs.lines.Line.array.Goals as goal

pub returns-clause-bytes : goal.returns-clause-bytes
returns-clause-bytes g c = search rules
