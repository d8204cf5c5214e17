use Rattle.rules.proofs.Window.{window-cases}
use Rattle.rules.proofs.window_stands.Goals as goal

pub returns : goal.returns
returns c = window-cases
