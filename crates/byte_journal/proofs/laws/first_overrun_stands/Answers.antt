use Rattle.byte_journal.proofs.Wholes.{first_overrun}
use Rattle.byte_journal.proofs.laws.first_overrun_stands.Goals as goal

pub returns : goal.returns
returns c = first_overrun
