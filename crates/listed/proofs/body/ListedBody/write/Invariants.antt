use Rattle.std.proofs.Common.{◌≡◌, ◌+◌, ◌*◌, ◌≤◌, ◌++◌, map, length, take}
use Rattle.provider.specs.Values.{attested, certified}
use Rattle.listed.specs.Certificates.{signatures}
use Rattle.listed.proofs.body.ListedBody.write.Given as goal

-- the signatures so far stand behind the map, and there is room for the others
abbrev pub invariant-loop-attestation : goal.invariant-loop-attestation
invariant-loop-attestation l =
    (certified l.certificate ≡ certified l.initial.certificate ++ signatures (map attested (take l.attestation-index l.attestations)))
    × (length (certified l.certificate) ≤ 2 + 64 * l.attestation-index)
