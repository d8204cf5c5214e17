use Rattle.std.proofs.Common.{◌≡◌, ℕ, ◌+◌, ◌%◌, ◌^◌, List, map, refl, rules, ap, ◌∙◌}
use Rattle.std.proofs.lemmas.Fn.{fold_over, fronts, slice_gives}
use Rattle.provider.specs.declared.attestation.Attestation.{Attestation}
use Rattle.provider.specs.Values.{attested}
use Rattle.tags.specs.Words.{word}
use Rattle.pooled.specs.Certificates.{carried}
use Rattle.pooled.proofs.Pushes.{carried_more}
use Rattle.pooled.proofs.sums.carried.Goals as goal

pub returns : goal.returns
returns c =
    fold_over fronts (λ q. q.now) _ (λ (qs : List Attestation) (sum : ℕ). sum ≡ carried (map attested qs) % 2 ^ 64) _
    (λ qs a q b f' was called. let step : b ≡ (a + word q.now.signature.bytes) % 2 ^ 64 = search rules in (carried_more qs q.now a b was step, refl))
    c.iter.result c.iter.result.rest.now 0 c.fold.result (slice_gives c.iter.result) refl c.fold.ensures.ran
    ∙ ap (λ (qs : List Attestation). carried (map attested qs) % 2 ^ 64) c.iter.ensures.rest
