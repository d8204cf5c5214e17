use Rattle.rules.proofs.Limits.{records_fit}
use Rattle.rules.proofs.records_stand.Goals as goal

pub returns : goal.returns
returns c = records_fit
