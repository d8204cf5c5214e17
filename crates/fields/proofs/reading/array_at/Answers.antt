use Rattle.std.proofs.Common.{rules}
use Rattle.fields.proofs.reading.array_at.Goals as goal

pub returns-in-None : goal.returns-in-None
returns-in-None g c = search rules
