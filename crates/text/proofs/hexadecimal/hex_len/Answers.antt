use Rattle.std.proofs.Common.{arith}
use Rattle.std.proofs.lemmas.Grind.{common_steps}
use Rattle.text.proofs.Hexes.{octets-len}
use Rattle.text.proofs.hexadecimal.hex_len.Goals as goal

pub returns : goal.returns
returns c = grind (arith, common_steps, octets-len c.args.word.now)
