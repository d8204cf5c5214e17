use Rattle.std.proofs.Common.{arith}
use Rattle.std.proofs.lemmas.Grind.{common_steps}
use Rattle.text.proofs.Hexes.{octets-decode}
use Rattle.text.proofs.hexadecimal.read_hex.Goals as goal

pub returns : goal.returns
returns c = grind (arith, common_steps, octets-decode c.args.word.now)
