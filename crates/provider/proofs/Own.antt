-- What the laws give of the own signer. Assumes nothing.
use Rattle.std.proofs.Common.{◌≡◌, ℕ, true, Some, None, sym, subst, arith}
use Rattle.provider.specs.Answers.{Answers, Bytes}
use Rattle.provider.specs.Laws.{Lawful}

-- what is signed is accepted
pub own-accepted : (a : Answers) → Lawful a → (e i h : ℕ) (d s : Bytes) → Some i ≡ a.signing.own e → Some s ≡ a.signing.sign e h d → a.verifying.accepts e i h d s ≡ true
own-accepted a law e i h d s own signed =
    let by = law.signs e i h d (sym own) in
    let same : by.0 ≡ s = cc (by.1, signed) in
    subst (λ (t : Bytes). a.verifying.accepts e i h d t ≡ true) same by.3

-- and with an own signer there is a signature
pub own-signs : (a : Answers) → Lawful a → (e i h : ℕ) (d : Bytes) → Some i ≡ a.signing.own e → None ≡ a.signing.sign e h d → ⊥
own-signs a law e i h d own none =
    let by = law.signs e i h d (sym own) in
    let z : ◌≡◌ {A = ℕ} 0 1 = cc (by.1, none) in omega arith
