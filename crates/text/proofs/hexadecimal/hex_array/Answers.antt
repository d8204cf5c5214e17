use Rattle.std.proofs.Common.{arith}
use Rattle.std.proofs.lemmas.Grind.{common_steps}
use Rattle.text.proofs.Hexes.{octets-sized}
use Rattle.text.proofs.hexadecimal.hex_array.Goals as goal

pub returns : goal.returns
returns g c = grind (arith, common_steps, octets-sized g.row.N c.args.word.now)
