use Rattle.std.proofs.Common.{arith}
use Rattle.std.proofs.lemmas.Grind.{common_steps}
use Rattle.provider_commands.proofs.reading.attestation_at.Goals as goal

pub returns-in_err-signature : goal.returns-in_err-signature
returns-in_err-signature c = grind (arith, common_steps)
