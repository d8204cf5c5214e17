use Rattle.std.proofs.Common.{rules}
use Rattle.fields.proofs.reading.bytes_at.Goals as goal

pub returns : goal.returns
returns c = search rules
