-- The signers of attestations. Assumes nothing.
use Rattle.std.specs.Prelude.{ℕ, List, map}
use Rattle.provider.specs.declared.attestation.Attestation.{Attestation}
use Rattle.provider.specs.Laws.{signers_of}
use Rattle.provider.specs.Values.{attested}

abbrev pub signers_in : List Attestation → List ℕ
signers_in qs = signers_of (map attested qs)
