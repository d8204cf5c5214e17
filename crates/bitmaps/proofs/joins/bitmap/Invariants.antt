use Rattle.std.proofs.Common.{◌≡◌, ◌+◌, ◌^◌, ◌<◌, ◌≤◌, drop}
use Rattle.bitmaps.specs.Attested.{signers_in}
use Rattle.bitmaps.specs.Maps.{rising, map_of}
use Rattle.bitmaps.proofs.joins.bitmap.Given as goal

-- the map so far, below the bit that may come next, and what is left make the map of all
abbrev pub invariant-loop-attestation : goal.invariant-loop-attestation
invariant-loop-attestation l =
    (rising l.next l.n (signers_in (drop l.attestation-index l.attestations)) ≡ rising 0 l.n (signers_in l.attestations))
    × (l.map + map_of (signers_in (drop l.attestation-index l.attestations)) ≡ map_of (signers_in l.attestations))
    × (l.map < 2 ^ l.next)
    × (l.next ≤ l.n)
