use Rattle.forms_laws.proofs.RoundTrip.{reads_back}
use Rattle.forms_laws.proofs.reads_back_stands.Goals as goal

pub returns : goal.returns
returns c = reads_back
