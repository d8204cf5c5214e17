use Rattle.std.proofs.Common.{rules}
use Rattle.console_tips.proofs.boards.Board.obey.Goals as goal

pub returns-in-Tip-clause-seats : goal.returns-in-Tip-clause-seats
returns-in-Tip-clause-seats c = search rules
