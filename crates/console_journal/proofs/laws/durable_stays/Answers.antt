use Rattle.journal.proofs.Stays.{ran_keeps}
use Rattle.console_journal.proofs.Ran.{lines_ran, formed_held}
use Rattle.console_journal.specs.Laws.{disk_of}
use Rattle.console_journal.proofs.laws.durable_stays.Goals as goal

pub returns : goal.returns
returns c = λ os h k ls s sp. (ran_keeps os (disk_of h) (disk_of k) (formed_held h).ascends (lines_ran os h k ls) s sp).begins
