-- Sums of tags, one more at a time. Assumes nothing.
use Rattle.std.proofs.Common.{◌≡◌, ℕ, ◌+◌, ◌%◌, ◌^◌, List, [], ◌∷◌, ◌++◌, map, arith}
use Rattle.provider.specs.Answers.{Bytes}
use Rattle.provider.specs.declared.attestation.Attestation.{Attestation}
use Rattle.provider.specs.Values.{attested}
use Rattle.tags.specs.Tags.{tag_of}
use Rattle.tags.specs.Words.{word}
use Rattle.pooled.specs.Certificates.{carried}
use Rattle.pooled.specs.Judging.{tag_sum}

carried-push : (qs : List Attestation) (q : Attestation) → carried (map attested (qs ++ (q ∷ []))) ≡ carried (map attested qs) + word q.signature.bytes
carried-push [] q = omega arith
carried-push (p ∷ qs) q = omega (arith, carried-push qs q)

tag_sum-push : (h : ℕ) (d : Bytes) (is : List ℕ) (i : ℕ) → tag_sum h d (is ++ (i ∷ [])) ≡ tag_sum h d is + tag_of i h d
tag_sum-push h d [] i = omega arith
tag_sum-push h d (j ∷ is) i = omega (arith, tag_sum-push h d is i)

-- a wrapped sum with one more number, wrapped again
wrapped : (a b s t x : ℕ) → a ≡ s % 2 ^ 64 → b ≡ (a + x) % 2 ^ 64 → t ≡ s + x → b ≡ t % 2 ^ 64
wrapped a b s t x was is all = omega arith

pub carried_more : (qs : List Attestation) (q : Attestation) (a b : ℕ) → a ≡ carried (map attested qs) % 2 ^ 64 → b ≡ (a + word q.signature.bytes) % 2 ^ 64
    → b ≡ carried (map attested (qs ++ (q ∷ []))) % 2 ^ 64
carried_more qs q a b was is = wrapped a b (carried (map attested qs)) _ (word q.signature.bytes) was is (carried-push qs q)

pub tag_sum_more : (h : ℕ) (d : Bytes) (is : List ℕ) (i a b : ℕ) → a ≡ tag_sum h d is % 2 ^ 64 → b ≡ (a + tag_of i h d) % 2 ^ 64 → b ≡ tag_sum h d (is ++ (i ∷ [])) % 2 ^ 64
tag_sum_more h d is i a b was is' = wrapped a b (tag_sum h d is) _ (tag_of i h d) was is' (tag_sum-push h d is i)
