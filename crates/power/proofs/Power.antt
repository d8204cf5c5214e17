-- What the power lasts, one part of the stores after another. Assumes nothing.
use Rattle.std.proofs.Common.{◌≡◌, ℕ, ◌+◌, ◌-◌, ◌≤◌, true, false, Some, None, Option, refl, ap, ◌∙◌, subst, arith}
use Rattle.std.proofs.lemmas.Bool.{leb-true, leb-false, le-leb, lt-leb}
use Rattle.power.specs.Power.{lasts, made, spent, Took}

-- no store takes nothing
pub took_none : (p : Option ℕ) → Took 0 true p p
took_none None = (refl, refl)
took_none (Some k) = let z : k ≡ k - 0 = omega arith in (le-leb 0 k (omega arith), ap Some z)

-- where it lasts for no fewer than n stores, it lasts for n
pub lasts_made : (n : ℕ) (p : Option ℕ) → n ≤ made n p → lasts n p ≡ true
lasts_made n None h = refl
lasts_made n (Some k) h = le-leb n k (omega arith)

-- one part and then another
lasts_both : (p : Option ℕ) (m n t : ℕ) → t ≡ m + n → lasts m p ≡ true → lasts n (spent m p) ≡ true → lasts t p ≡ true
lasts_both None m n t e a b = refl
lasts_both (Some k) m n t e a b = le-leb t k (omega (arith, leb-true m k a, leb-true n (k - m) b))

spent_both : (p : Option ℕ) (m n t : ℕ) → t ≡ m + n → spent n (spent m p) ≡ spent t p
spent_both None m n t e = refl
spent_both (Some k) m n t e = let z : k - m - n ≡ k - t = omega arith in ap Some z

pub took_both : (m n t : ℕ) (p q r : Option ℕ) → t ≡ m + n → Took m true p q → Took n true q r → Took t true p r
took_both m n t p q r e a b =
    (lasts_both p m n t e a.0 (subst (λ (o : Option ℕ). lasts n o ≡ true) a.1 b.0), b.1 ∙ ap (spent n) a.1 ∙ spent_both p m n t e)

-- where it does not last the first part, it does not last them all
pub took-first : (m t : ℕ) (p q : Option ℕ) → m ≤ t → Took m false p q → Took t false p q
took-first m t None q e a = a
took-first m t (Some k) q e a =
    let z : k - m ≡ k - t = omega (arith, leb-false m k a.0) in
    (lt-leb t k (omega (arith, leb-false m k a.0)), a.1 ∙ ap Some z)

-- nor where it does not last the second
lasts-second : (p : Option ℕ) (m n t : ℕ) → m + n ≤ t → lasts m p ≡ true → lasts n (spent m p) ≡ false → lasts t p ≡ false
lasts-second None m n t e a b = b
lasts-second (Some k) m n t e a b = lt-leb t k (omega (arith, leb-true m k a, leb-false n (k - m) b))

spent-second : (p : Option ℕ) (m n t : ℕ) → m + n ≤ t → lasts n (spent m p) ≡ false → spent n (spent m p) ≡ spent t p
spent-second None m n t e b = refl
spent-second (Some k) m n t e b = let z : k - m - n ≡ k - t = omega (arith, leb-false n (k - m) b) in ap Some z

pub took-second : (m n t : ℕ) (p q r : Option ℕ) → m + n ≤ t → Took m true p q → Took n false q r → Took t false p r
took-second m n t p q r e a b =
    let l : lasts n (spent m p) ≡ false = subst (λ (o : Option ℕ). lasts n o ≡ false) a.1 b.0 in
    (lasts-second p m n t e a.0 l, b.1 ∙ ap (spent n) a.1 ∙ spent-second p m n t e l)
