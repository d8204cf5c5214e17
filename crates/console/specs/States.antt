-- What the parts of a console hold. Assumes nothing.
use Rattle.std.specs.Prelude.{[]}
use Rattle.console_provider.specs.Trials.{Held, held, none}
use Rattle.console_tips.specs.Boards.{sitting}
use Rattle.tip_commands.specs.Order.{Seats}
use Rattle.console.specs.declared.parts.Parts.{Parts}

-- the seats of the signers, and the epochs of a provider
pub record State : Type 0 where
  pub seats : Seats
  pub trial : Held

abbrev pub state_of : Parts → State
state_of p = record { seats = sitting p.board; trial = held p.trial }

-- before the first command
abbrev pub first : State
first = record { seats = []; trial = none }
