use Rattle.worked.proofs.Cases.{worked_case}
use Rattle.worked.proofs.worked_case_stands.Goals as goal

pub returns : goal.returns
returns c = worked_case
