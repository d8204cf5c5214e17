use Rattle.byte_journal.proofs.Wholes.{prune_frees}
use Rattle.byte_journal.proofs.laws.prune_frees.Goals as goal

pub returns : goal.returns
returns c = prune_frees
