-- A certificate determines its signers and their signatures. Assumes nothing.
use Rattle.std.proofs.Common.{◌≡◌, ℕ, ◌≤◌, leb, List, [], ◌∷◌, ◌++◌, length, get_or, take, drop, sym, refl, ap, ◌∙◌, arith}
use Rattle.std.proofs.lemmas.List.{take_at, drop_at, take_all}
use Rattle.std.proofs.lemmas.List.Elements.{All-head, All-tail}
use Rattle.std.proofs.lemmas.Bool.{and_parts}
use Rattle.tips.specs.Faults.{quorum}
use Rattle.bitmaps.proofs.Enoughs.{tells-enough}
use Rattle.bitmaps.proofs.Returns.{returned, sixteen, two_back}
use Rattle.bitmaps.specs.Maps.{map_in, map_of, rising, standing}
use Rattle.provider.specs.Answers.{Attested, Bytes}
use Rattle.provider.specs.Laws.{Enough, signers_of}
use Rattle.listed.specs.Certificates.{signatures, certificate_of}
use Rattle.listed.specs.Theorems.{Sized}

-- the signers that a certificate's map gives back
named : (n : ℕ) (qs : List Attested) → n ≤ 16 → Enough n (signers_of qs) → standing (map_in (certificate_of qs)) ≡ signers_of qs
named n qs small many =
    let is = signers_of qs in
    let up = (and_parts (leb (quorum n) (length is)) (rising 0 n is) (tells-enough n is many)).1 in
    ap standing (two_back (map_of is) (sixteen n is small up)) ∙ returned n is small up

pub same-signers : (n : ℕ) (ps qs : List Attested) → n ≤ 16 → Enough n (signers_of ps) → Enough n (signers_of qs) → certificate_of ps ≡ certificate_of qs → signers_of ps ≡ signers_of qs
same-signers n ps qs small one two same =
    sym (named n ps small one) ∙ ap (λ (c : Bytes). standing (map_in c)) same ∙ named n qs small two

-- the first signature and those after it
front : (s rest : Bytes) → length s ≡ 64 → take 64 (take 64 s ++ rest) ≡ s
front s rest sized =
    let whole : take 64 s ≡ s = take_all 64 s (omega arith) in take_at (take 64 s) rest 64 (ap length whole ∙ sized) ∙ whole

back : (s rest : Bytes) → length s ≡ 64 → drop 64 (take 64 s ++ rest) ≡ rest
back s rest sized = let whole : take 64 s ≡ s = take_all 64 s (omega arith) in drop_at (take 64 s) rest 64 (ap length whole ∙ sized)

same_each : (ps qs : List Attested) → Sized ps → Sized qs → signers_of ps ≡ signers_of qs → signatures ps ≡ signatures qs → ps ≡ qs
same_each [] [] one two signers bodies = refl
same_each [] (q ∷ qs) one two signers bodies = let z : ◌≡◌ {A = ℕ} 0 1 = cc in absurd (omega arith)
same_each (p ∷ ps) [] one two signers bodies = let z : ◌≡◌ {A = ℕ} 0 1 = cc in absurd (omega arith)
same_each (p ∷ ps) (q ∷ qs) one two signers bodies =
    let long-one : length p.signature ≡ 64 = All-head (λ (r : Attested). length r.signature ≡ 64) p ps one in
    let long-two : length q.signature ≡ 64 = All-head (λ (r : Attested). length r.signature ≡ 64) q qs two in
    let rest-one : Sized ps = All-tail (λ (r : Attested). length r.signature ≡ 64) p ps one in
    let rest-two : Sized qs = All-tail (λ (r : Attested). length r.signature ≡ 64) q qs two in
    let signer : p.signer ≡ q.signer = ap (λ (is : List ℕ). get_or is 0 0) signers in
    let signature : p.signature ≡ q.signature =
    sym (front p.signature (signatures ps) long-one) ∙ ap (take 64) bodies ∙ front q.signature (signatures qs) long-two in
    let later : signatures ps ≡ signatures qs =
    sym (back p.signature (signatures ps) long-one) ∙ ap (drop 64) bodies ∙ back q.signature (signatures qs) long-two in
    let rest : ps ≡ qs = same_each ps qs rest-one rest-two (ap (drop 1) signers) later in
    ap (λ (i : ℕ). record { signer = i; signature = p.signature } ∷ ps) signer
    ∙ ap (λ (s : Bytes). record { signer = q.signer; signature = s } ∷ ps) signature
    ∙ ap (λ (rs : List Attested). q ∷ rs) rest

pub same-all : (n : ℕ) (ps qs : List Attested) → n ≤ 16 → Enough n (signers_of ps) → Enough n (signers_of qs) → Sized ps → Sized qs → certificate_of ps ≡ certificate_of qs → ps ≡ qs
same-all n ps qs small one two sized-one sized-two same =
    same_each ps qs sized-one sized-two (same-signers n ps qs small one two same) (ap (drop 2) same)
