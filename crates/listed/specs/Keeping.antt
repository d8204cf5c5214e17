-- The listed provider keeps the laws of every provider: the proof that its trait asks for. Assumes nothing.
use Rattle.std.specs.Prelude.{◌≡◌, ℕ, ◌*◌, ◌≤◌, Bool, true, List, [], ◌∷◌, ◌++◌, length, take, drop, All, Option, refl}
use Rattle.std.proofs.Common.{ap, ◌∙◌, arith}
use Rattle.std.proofs.lemmas.List.{length-append, length-take, take_at, drop_at, take_all}
use Rattle.std.proofs.lemmas.List.Elements.{All-nil, All-cons, All-head, All-tail}
use Rattle.std.proofs.lemmas.Bool.{and_from}
use Rattle.provider.specs.Answers.{Attested, Bytes}
use Rattle.provider.specs.Laws.{Lawful, signers_of}
use Rattle.trial.proofs.Kept.{size-kept}
use Rattle.trial.specs.declared.epoch_set.EpochSet.{EpochSet}
use Rattle.trial.specs.Faults.{sound}
use Rattle.trial.specs.Trials.{accepted_among}
use Rattle.mapped.specs.Bodies.{Fitting}
use Rattle.mapped.specs.Keeping as mapped
use Rattle.listed.specs.Certificates.{signatures}
use Rattle.listed.specs.Judging.{each_accepted}
use Rattle.listed.specs.Listing.{listing, listed}

-- no signature gives more than 64 bytes
at_most : (qs : List Attested) → length (signatures qs) ≤ 64 * length qs
at_most [] = omega arith
at_most (q ∷ qs) = omega (arith, length-append (take 64 q.signature) (signatures qs), length-take 64 q.signature, at_most qs)

-- signatures of 64 bytes that are accepted one by one are accepted one after the other
pub accepted_each : (ok : ℕ → Bytes → Bool) (qs : List Attested) → All (λ (q : Attested). ok q.signer q.signature ≡ true) qs → All (λ (q : Attested). length q.signature ≡ 64) qs
    → each_accepted ok (signers_of qs) (signatures qs) ≡ true
accepted_each ok [] good sized = refl
accepted_each ok (q ∷ qs) good sized =
    let long : length q.signature ≡ 64 = All-head (λ (p : Attested). length p.signature ≡ 64) q qs sized in
    let whole : take 64 q.signature ≡ q.signature = take_all 64 q.signature (omega arith) in
    let front : take 64 (take 64 q.signature ++ signatures qs) ≡ q.signature =
    take_at (take 64 q.signature) (signatures qs) 64 (ap length whole ∙ long) ∙ whole in
    let back : drop 64 (take 64 q.signature ++ signatures qs) ≡ signatures qs =
    drop_at (take 64 q.signature) (signatures qs) 64 (ap length whole ∙ long) in
    and_from (ok q.signer (take 64 (take 64 q.signature ++ signatures qs))) (each_accepted ok (signers_of qs) (drop 64 (take 64 q.signature ++ signatures qs)))
    (ap (ok q.signer) front ∙ All-head (λ (p : Attested). ok p.signer p.signature ≡ true) q qs good)
    (ap (each_accepted ok (signers_of qs)) back ∙ accepted_each ok qs (All-tail (λ (p : Attested). ok p.signer p.signature ≡ true) q qs good) (All-tail (λ (p : Attested). length p.signature ≡ 64) q qs sized))

pub exactly : (qs : List Attested) → All (λ (q : Attested). length q.signature ≡ 64) qs → length (signatures qs) ≡ 64 * length qs
exactly [] sized = omega arith
exactly (q ∷ qs) sized =
    let long : length q.signature ≡ 64 = All-head (λ (p : Attested). length p.signature ≡ 64) q qs sized in
    let rest = exactly qs (All-tail (λ (p : Attested). length p.signature ≡ 64) q qs sized) in
    omega (arith, length-append (take 64 q.signature) (signatures qs), length-take 64 q.signature, long, rest)

sizes : (o : Option EpochSet) (h : ℕ) (d : Bytes) (qs : List Attested) → All (λ (q : Attested). accepted_among o q.signer h d q.signature ≡ true) qs → All (λ (q : Attested). length q.signature ≡ 64) qs
sizes o h d [] good = All-nil (λ (q : Attested). length q.signature ≡ 64)
sizes o h d (q ∷ qs) good =
    All-cons (λ (p : Attested). length p.signature ≡ 64) q qs
    (size-kept o q.signer h d q.signature (All-head (λ (p : Attested). accepted_among o p.signer h d p.signature ≡ true) q qs good))
    (sizes o h d qs (All-tail (λ (p : Attested). accepted_among o p.signer h d p.signature ≡ true) q qs good))

pub listing_fits : Fitting listing
listing_fits = record {
  room = λ qs few. omega (arith, at_most qs);
  most = λ k few. omega arith;
  made = λ o h d qs good. let sized = sizes o h d qs good in (exactly qs sized, accepted_each (λ i s. accepted_among o i h d s) qs good sized);
}

pub keeps : (ss : List EpochSet) → sound ss ≡ true → Lawful (listed ss)
keeps = mapped.keeps listing listing_fits
