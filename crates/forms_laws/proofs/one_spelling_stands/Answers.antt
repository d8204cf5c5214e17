use Rattle.forms_laws.proofs.RoundTrip.{one_spelling}
use Rattle.forms_laws.proofs.one_spelling_stands.Goals as goal

pub returns : goal.returns
returns c = one_spelling
