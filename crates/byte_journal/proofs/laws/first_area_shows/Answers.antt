use Rattle.byte_journal.proofs.Wholes.{first_area}
use Rattle.byte_journal.proofs.laws.first_area_shows.Goals as goal

pub returns : goal.returns
returns c = first_area
