use Rattle.forms_laws.proofs.FirstBytes.{first-fault}
use Rattle.forms_laws.proofs.first_fault_stands.Goals as goal

pub returns : goal.returns
returns c = first-fault
