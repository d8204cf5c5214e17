use Rattle.byte_journal.proofs.Wholes.{prune_whole}
use Rattle.byte_journal.proofs.laws.prunes_whole.Goals as goal

pub returns : goal.returns
returns c = prune_whole
