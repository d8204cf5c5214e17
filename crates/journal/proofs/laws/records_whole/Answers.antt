use Rattle.journal.proofs.Whole.{ran_whole}
use Rattle.journal.proofs.laws.records_whole.Goals as goal

pub returns : goal.returns
returns c = ran_whole
