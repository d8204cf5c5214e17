use Rattle.std.proofs.Common.{◌≡◌, length}
use Rattle.console_tips.proofs.boards.Board.open.Given as goal

abbrev pub invariant-loop-key : goal.invariant-loop-key
invariant-loop-key l = length l.seats.items ≡ l.key-index
