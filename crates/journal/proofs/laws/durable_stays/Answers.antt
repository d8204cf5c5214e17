use Rattle.journal.proofs.Stays.{ran_keeps}
use Rattle.journal.proofs.laws.durable_stays.Goals as goal

pub returns : goal.returns
returns c = λ os d e f r s sp. (ran_keeps os d e f.ascends r s sp).begins
