use Rattle.journal.proofs.Whole.{ran_whole}
use Rattle.console_journal.proofs.Ran.{lines_ran}
use Rattle.console_journal.specs.Laws.{disk_of}
use Rattle.console_journal.proofs.laws.records_whole.Goals as goal

pub returns : goal.returns
returns c = λ os h k ls s b a. ran_whole os (disk_of h) (disk_of k) (lines_ran os h k ls) s b a
