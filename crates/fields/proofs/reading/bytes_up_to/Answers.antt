use Rattle.std.proofs.Common.{rules}
use Rattle.fields.proofs.reading.bytes_up_to.Goals as goal

pub returns-then-bytes-most : goal.returns-then-bytes-most
returns-then-bytes-most c = search rules
