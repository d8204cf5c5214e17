use Rattle.journal.proofs.Twice.{read_twice}
use Rattle.journal.proofs.laws.read_twice.Goals as goal

pub returns : goal.returns
returns c = read_twice
