use Rattle.rules.proofs.Written.{output-fits}
use Rattle.rules.proofs.output_stands.Goals as goal

pub returns : goal.returns
returns c = output-fits
