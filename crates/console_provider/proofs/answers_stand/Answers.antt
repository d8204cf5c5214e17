use Rattle.std.proofs.Common.{map}
use Rattle.console_provider.proofs.Alike.{lent_shown, same_answer}
use Rattle.console_provider.proofs.answers_stand.Goals as goal
use Rattle.console_provider.specs.Lending.{lent}

pub returns-clause-lists : goal.returns-clause-lists
returns-clause-lists c = λ sets. (map lent sets, lent_shown sets)

pub returns-clause-agree : goal.returns-clause-agree
returns-clause-agree c = same_answer
