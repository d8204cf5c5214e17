use Rattle.std.proofs.Common.{rules}
use Rattle.console_tips.proofs.boards.Board.new.Goals as goal

pub invariant_of-result : goal.invariant_of-result
invariant_of-result c = search rules
