use Rattle.std.proofs.Common.{sym, arith}
use Rattle.bitmaps.proofs.Turns.{rising-more, map_more, turn}
use Rattle.bitmaps.proofs.joins.bitmap.Goals as goal

pub with_signer-map-requires : goal.with_signer-map-requires
with_signer-map-requires c =
    let t = turn c.loop-attestation.next c.args.n _ c.loop-attestation.map (sym c.if-not-in_turn.ensures) c.loop-attestation.invariant.2 in
    (omega (arith, t.small), t.before)

pub loop-attestation-preserved : goal.loop-attestation-preserved
loop-attestation-preserved c =
    let qs = c.args.attestations.now in
    let i = c.loop-attestation.attestation-index in
    let q = c.attestation-item.result in
    let within = c.loop-attestation-test.true in
    let at = sym c.if-not-in_turn.ensures in
    let t = turn c.loop-attestation.next c.args.n _ c.loop-attestation.map at c.loop-attestation.invariant.2 in (
      rising-more qs i q within c.attestation-item.is c.loop-attestation.next c.args.n _ at c.loop-attestation.invariant.0,
      map_more qs i q within c.attestation-item.is c.loop-attestation.map _ _ c.with_signer-map.ensures c.loop-attestation.invariant.1,
      t.after _ c.with_signer-map.ensures,
      omega (arith, t.small),
    )
