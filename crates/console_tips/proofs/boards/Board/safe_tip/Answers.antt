use Rattle.console_tips.proofs.Seating.{safe}
use Rattle.console_tips.proofs.boards.Board.safe_tip.Goals as goal

pub returns : goal.returns
returns c = safe c.args.self.now.seats.items c.args.self.now.tables c.get.result c.args.self.now.holds c.get.ensures
