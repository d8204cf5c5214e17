use Rattle.rules.proofs.Durable.{told-durable}
use Rattle.rules.proofs.durable_stands.Goals as goal

pub returns : goal.returns
returns c = told-durable
