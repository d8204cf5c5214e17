-- The seats that are taken. Assumes nothing.
use Rattle.tip_commands.specs.Order.{Seats}
use Rattle.console_tips.specs.declared.boards.Board.{Board}

abbrev pub sitting : Board → Seats
sitting b = b.seats.items
