-- A certificate, one signature at a time. Assumes nothing.
use Rattle.std.proofs.Common.{◌≡◌, ℕ, ◌+◌, ◌<◌, List, [], ◌∷◌, ◌++◌, map, length, get_or, take, sym, ap, ◌∙◌, arith, append_assoc}
use Rattle.std.proofs.lemmas.List.{append-nil, map_more, take_all}
use Rattle.provider.specs.Answers.{Attested, Bytes}
use Rattle.provider.specs.declared.attestation.Attestation.{Attestation}
use Rattle.provider.specs.Values.{attested}
use Rattle.listed.specs.Certificates.{signatures}

signatures-push : (qs : List Attested) (q : Attested) → signatures (qs ++ (q ∷ [])) ≡ signatures qs ++ take 64 q.signature
signatures-push [] q = append-nil (take 64 q.signature)
signatures-push (p ∷ qs) q =
    ap (λ (rest : Bytes). take 64 p.signature ++ rest) (signatures-push qs q)
    ∙ sym (append_assoc (take 64 p.signature) (signatures qs) (take 64 q.signature))

-- one signature more
pub signatures_more : (qs : List Attestation) (i : ℕ) (q : Attestation) → i < length qs → q ≡ get_or qs i q
    → signatures (map attested (take (i + 1) qs)) ≡ signatures (map attested (take i qs)) ++ q.signature.bytes
signatures_more qs i q within here =
    ap signatures (map_more attested qs i q within)
    ∙ signatures-push (map attested (take i qs)) (attested (get_or qs i q))
    ∙ ap (λ (p : Attestation). signatures (map attested (take i qs)) ++ take 64 p.signature.bytes) (sym here)
    ∙ ap (λ (rest : Bytes). signatures (map attested (take i qs)) ++ rest) (take_all 64 q.signature.bytes (omega (arith, q.signature.sized)))
