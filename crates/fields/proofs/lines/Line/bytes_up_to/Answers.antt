use Rattle.std.proofs.Common.{rules}
use Rattle.fields.proofs.lines.Line.bytes_up_to.Goals as goal

pub returns-clause-bytes : goal.returns-clause-bytes
returns-clause-bytes c = search rules
