use Rattle.std.proofs.Common.{◌++◌, map, length, take, List, ℕ, sym, ap, ◌∙◌, arith, append_assoc, length-append}
use Rattle.provider.specs.Values.{attested, certified}
use Rattle.bitmaps.proofs.Appended.{appended-room}
use Rattle.listed.specs.Certificates.{signatures}
use Rattle.listed.proofs.Writing.{signatures_more}
use Rattle.listed.proofs.body.ListedBody.write.Goals as goal

pub loop-attestation-preserved : goal.loop-attestation-preserved
loop-attestation-preserved c =
    let qs = c.args.attestations.now in
    let i = c.loop-attestation.attestation-index in
    let q = c.attestation-item.result in
    let before = certified c.loop-attestation.certificate in
    let map_bytes = certified c.args.certificate.now in
    let so_far = c.loop-attestation.invariant in
    let sized = q.signature.sized in
    let written = c.append.ensures.held ∙ appended-room q.signature.bytes before (omega (arith, so_far.1, c.requires.few)) in (
      written
          ∙ ap (λ (front : List ℕ). front ++ q.signature.bytes) so_far.0
          ∙ append_assoc map_bytes (signatures (map attested (take i qs))) q.signature.bytes
          ∙ ap (λ (back : List ℕ). map_bytes ++ back) (sym (signatures_more qs i q c.loop-attestation-test.true c.attestation-item.is)),
      omega (arith, ap length written, length-append before q.signature.bytes, so_far.1),
    )
