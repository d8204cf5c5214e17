use Rattle.byte_journal.proofs.Wholes.{append_whole}
use Rattle.byte_journal.proofs.laws.appends_whole.Goals as goal

pub returns : goal.returns
returns c = append_whole
