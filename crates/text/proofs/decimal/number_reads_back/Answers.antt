use Rattle.text.proofs.Numbers.{reads_back}
use Rattle.text.proofs.decimal.number_reads_back.Goals as goal

pub returns : goal.returns
returns c = reads_back
