use Rattle.bitmaps.proofs.Mapped.{mapped}
use Rattle.mapped.proofs.certificates.certificate.Goals as goal

pub write-requires-clause-few : goal.write-requires-clause-few
write-requires-clause-few g c = (mapped c.args.n _ c.args.attestations.now c.in_ok-signers.ensures).few
