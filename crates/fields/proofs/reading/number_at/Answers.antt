use Rattle.std.proofs.Common.{rules}
use Rattle.fields.proofs.reading.number_at.Goals as goal

pub returns-in_default : goal.returns-in_default
returns-in_default c = search rules
