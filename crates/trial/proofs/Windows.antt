-- The first fault of keys, two neighbours at a time. Assumes nothing.
use Rattle.std.proofs.Common.{◌≡◌, ℕ, ◌+◌, ◌<◌, ◌≤◌, List, [], ◌∷◌, length, get_or, take, drop, None, Some, Ok, Err, Option, sym, refl, ap, ◌∙◌, add-one, arith}
use Rattle.std.proofs.lemmas.List.{get_or-take}
use Rattle.types.specs.Texts.{PublicKey}
use Rattle.provider.specs.Values.{key_bytes}
use Rattle.trial.specs.declared.fault.Fault.{Fault}
use Rattle.trial.specs.Faults.{checked, or_else, neighbour_fault, key_faults, keys_fault}

-- the fault of the keys that are left, the first of them at place i
abbrev pub faults_at : ℕ → List PublicKey → Option Fault
faults_at i [] = None
faults_at i (k ∷ ks) = key_faults (i + 1) k.bytes (key_bytes ks)

-- all keys are left at first
pub faults_at-all : (ks : List PublicKey) → faults_at 0 ks ≡ keys_fault (key_bytes ks)
faults_at-all [] = refl
faults_at-all (k ∷ ks) = refl

-- fewer than two keys have no fault
pub faults_at-few : (i : ℕ) (ks : List PublicKey) → length ks < 2 → faults_at i ks ≡ None
faults_at-few i [] few = refl
faults_at-few i (k ∷ []) few = refl
faults_at-few i (k ∷ l ∷ ks) few = absurd (omega arith)

-- two neighbours and the keys after the first
pub faults_at-more : (i : ℕ) (ks : List PublicKey) (d e : PublicKey) → 2 ≤ length ks
    → faults_at i ks ≡ or_else (neighbour_fault (i + 1) (get_or ks 0 d).bytes (get_or ks 1 e).bytes) (faults_at (i + 1) (drop 1 ks))
faults_at-more i [] d e two = absurd (omega arith)
faults_at-more i (k ∷ []) d e two = absurd (omega arith)
faults_at-more i (k ∷ l ∷ ks) d e two = ap (λ (n : ℕ). or_else (neighbour_fault (i + 1) k.bytes l.bytes) (key_faults n l.bytes (key_bytes ks))) (sym (add-one (i + 1)))

-- one window: its two keys, and the keys that are left behind it
pub turn : (n i m : ℕ) (ks left pair : List PublicKey) (p q : PublicKey) → n ≡ 2 → n ≤ length ks → pair ≡ take n ks → left ≡ drop 1 ks → m ≡ i + 1
    → p ≡ get_or pair 0 p → q ≡ get_or pair 1 q → faults_at i ks ≡ or_else (neighbour_fault (i + 1) p.bytes q.bytes) (faults_at m left)
turn n i m ks left pair p q two long window rest next first second =
    let front : get_or ks 0 p ≡ p = sym (get_or-take n ks 0 p (omega arith)) ∙ ap (λ (ws : List PublicKey). get_or ws 0 p) (sym window) ∙ sym first in
    let back : get_or ks 1 q ≡ q = sym (get_or-take n ks 1 q (omega arith)) ∙ ap (λ (ws : List PublicKey). get_or ws 1 q) (sym window) ∙ sym second in
    faults_at-more i ks p q (omega arith)
    ∙ ap (λ (x : PublicKey). or_else (neighbour_fault (i + 1) x.bytes (get_or ks 1 q).bytes) (faults_at (i + 1) (drop 1 ks))) front
    ∙ ap (λ (x : PublicKey). or_else (neighbour_fault (i + 1) p.bytes x.bytes) (faults_at (i + 1) (drop 1 ks))) back
    ∙ ap (λ (ls : List PublicKey). or_else (neighbour_fault (i + 1) p.bytes q.bytes) (faults_at (i + 1) ls)) (sym rest)
    ∙ ap (λ (k : ℕ). or_else (neighbour_fault (i + 1) p.bytes q.bytes) (faults_at k left)) (sym next)

-- what a check that passed says, and one that failed
pub none_passed : (o : Option Fault) (x : Unit {0}) → checked o ≡ Ok x → o ≡ None
none_passed None x e = refl
none_passed (Some f) x e = absurd (let z : ◌≡◌ {A = ℕ} 0 1 = cc in omega arith)

pub some_failed : (o : Option Fault) (f : Fault) → checked o ≡ Err f → o ≡ Some f
some_failed None f e = absurd (let z : ◌≡◌ {A = ℕ} 0 1 = cc in omega arith)
some_failed (Some g) f e = cc
