-- The map of signers, one signer at a time. Assumes nothing.
use Rattle.std.proofs.Common.{◌≡◌, ℕ, suc, ◌+◌, ◌^◌, ◌<◌, Bool, true, ◌&&◌, ltb, leb, List, map, length, get_or, drop, sym, ap, ◌∙◌, add-one, arith}
use Rattle.std.proofs.lemmas.List.{at_drop_more, length-map}
use Rattle.std.proofs.lemmas.Bool.{and_parts, leb-true, ltb-true}
use Rattle.provider.specs.declared.attestation.Attestation.{Attestation}
use Rattle.provider.specs.Answers.{Attested}
use Rattle.provider.specs.Values.{attested}
use Rattle.bitmaps.specs.Attested.{signers_in}
use Rattle.bitmaps.proofs.Powers.{double, pow-le}
use Rattle.bitmaps.specs.Maps.{rising, map_of}

module _ (qs : List Attestation) (i : ℕ) (q : Attestation) (within : i < length qs) (here : q ≡ get_or qs i q) where
  split_rising : (next n : ℕ) → rising next n (signers_in (drop i qs)) ≡ (leb next q.signer.0 && (ltb q.signer.0 n && rising (q.signer.0 + 1) n (signers_in (drop (i + 1) qs))))
  split_rising next n =
      at_drop_more (λ (ps : List Attestation). rising next n (signers_in ps)) qs i q within
      ∙ ap (λ (p : Attestation). leb next p.signer.0 && (ltb p.signer.0 n && rising (suc p.signer.0) n (signers_in (drop (i + 1) qs)))) (sym here)
      ∙ ap (λ (k : ℕ). leb next q.signer.0 && (ltb q.signer.0 n && rising k n (signers_in (drop (i + 1) qs)))) (sym (add-one q.signer.0))

  pub rising-more : (next n : ℕ) (w : Bool) → (leb next q.signer.0 && ltb q.signer.0 n) ≡ true
      → rising next n (signers_in (drop i qs)) ≡ w → rising (q.signer.0 + 1) n (signers_in (drop (i + 1) qs)) ≡ w
  rising-more next n w turn whole =
      let s = q.signer.0 in
      let both = and_parts (leb next s) (ltb s n) turn in
      let rest : Bool = rising (s + 1) n (signers_in (drop (i + 1) qs)) in
      sym (ap (λ (b : Bool). b && (ltb s n && rest)) both.0 ∙ ap (λ (b : Bool). b && rest) both.1) ∙ sym (split_rising next n) ∙ whole

  pub map_more : (m r w : ℕ) → r ≡ m + 2 ^ q.signer.0 → m + map_of (signers_in (drop i qs)) ≡ w → r + map_of (signers_in (drop (i + 1) qs)) ≡ w
  map_more m r w joined whole =
      let split = at_drop_more (λ (ps : List Attestation). map_of (signers_in ps)) qs i q within in
      let same = ap (λ (p : Attestation). 2 ^ p.signer.0) here in
      omega (arith, split, same)

pub signers_length : (qs : List Attestation) → length (signers_in qs) ≡ length qs
signers_length qs = length-map (map attested qs) (λ (q : Attested). q.signer) ∙ length-map qs attested

-- a signer in its turn: where it lies, and what the map may hold before and after it
pub record Turn (n s m : ℕ) : Type 0 where
  pub small : s < n
  pub before : m < 2 ^ s
  pub after : (r : ℕ) → r ≡ m + 2 ^ s → r < 2 ^ (s + 1)

pub turn : (next n s m : ℕ) → (leb next s && ltb s n) ≡ true → m < 2 ^ next → Turn n s m
turn next n s m at held =
    let both = and_parts (leb next s) (ltb s n) at in
    let above = pow-le next s (leb-true next s both.0) in
    record { small = ltb-true s n both.1; before = omega (arith, above); after = λ r joined. omega (arith, above, double s) }
