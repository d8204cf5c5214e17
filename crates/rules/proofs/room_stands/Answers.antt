use Rattle.rules.proofs.Room.{acks_fit}
use Rattle.rules.proofs.room_stands.Goals as goal

pub returns : goal.returns
returns c = acks_fit
