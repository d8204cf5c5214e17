use Rattle.std.proofs.Common.{rules}
use Rattle.fields.proofs.lines.Line.end.Goals as goal

pub returns-in-Err-clause-answer : goal.returns-in-Err-clause-answer
returns-in-Err-clause-answer c = search rules
