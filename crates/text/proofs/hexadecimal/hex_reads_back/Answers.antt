use Rattle.text.proofs.Hexes.{reads_back}
use Rattle.text.proofs.hexadecimal.hex_reads_back.Goals as goal

pub returns : goal.returns
returns c = reads_back
