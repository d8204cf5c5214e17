-- The shortest spelling of a number, group by group, and its length.
use Rattle.std.proofs.Common.{◌≡◌, ℕ, zero, suc, max, ◌+◌, ◌*◌, ◌/◌, ◌%◌, ◌^◌, ◌<◌, ◌≤◌, [], ◌∷◌, length, sym, refl, ap, ◌∙◌, ⊎_elim, arith, pow_mono}
use native.Mathlib.Nat.{pow-succ'}
use Rattle.std.proofs.lemmas.Bool.{lt-ltb, le-ltb, cases_lt}
use Rattle.std.proofs.lemmas.Nat.{pow-add}
use Rattle.forms.specs.Uint.{spell, spell_by}

-- any bound that is enough gives the same spelling
enough : (f g n : ℕ) → n ≤ f → n ≤ g → spell_by f n ≡ spell_by g n
unfolding spell_by
enough zero zero n h i = refl
enough zero (suc g) n h i = let t = lt-ltb n 128 (omega arith) in simp t
enough (suc f) zero n h i = let t = lt-ltb n 128 (omega arith) in simp t
enough (suc f) (suc g) n h i =
    ⊎_elim
    (λ l. let t = lt-ltb n 128 l in simp t)
    (λ l. let t = le-ltb n 128 l in let r = enough f g (n / 128) (omega arith) (omega arith) in simp (t, r))
    (cases_lt n 128)

pub spell_last : (n : ℕ) → n < 128 → spell n ≡ n ∷ []
unfolding spell spell_by
spell_last zero h = refl
spell_last (suc n) h = let t = lt-ltb (suc n) 128 h in simp t

pub spell-more : (n : ℕ) → 128 ≤ n → spell n ≡ (n % 128 + 128) ∷ spell (n / 128)
unfolding spell spell_by
spell-more zero h = absurd (omega arith)
spell-more (suc n) h =
    let t = le-ltb (suc n) 128 h in
    let r = enough n (suc n / 128) (suc n / 128) (omega arith) (omega arith) in simp (t, r)

-- a number below 128 ^ (k + 1) has at most k + 1 groups
pub length-spell : (k n : ℕ) → n < 128 ^ (k + 1) → length (spell n) ≤ k + 1
length-spell zero n h = let l : n < 128 = omega arith in omega (arith, ap length (spell_last n l))
length-spell (suc k) n h =
    ⊎_elim
    (λ l. omega (arith, ap length (spell_last n l)))
    (λ l.
    let p : 128 ^ (suc k + 1) ≡ 128 ^ (k + 1) * 128 ^ 1 = ap (λ x. 128 ^ x) (omega arith) ∙ pow-add 128 (k + 1) 1 in
    let d : n / 128 < 128 ^ (k + 1) = omega arith in
    omega (arith, ap length (spell-more n l), length-spell k (n / 128) d))
    (cases_lt n 128)

pub spell-few : (n : ℕ) → n < 2 ^ 64 → length (spell n) ≤ 10
spell-few n h = length-spell 9 n (omega arith)

pub spell-some : (n : ℕ) → 1 ≤ length (spell n)
spell-some n =
    ⊎_elim
    (λ l. omega (arith, ap length (spell_last n l)))
    (λ l. omega (arith, ap length (spell-more n l)))
    (cases_lt n 128)

pow-some : (k : ℕ) → 1 ≤ 128 ^ k
pow-some zero = omega arith
pow-some (suc k) =
    let p : 128 ^ suc k ≡ 128 ^ k * 128 ^ 1 = ap (λ x. 128 ^ x) (omega arith) ∙ pow-add 128 k 1 in
    omega (arith, pow-some k)

-- a number from 128 ^ k on has more than k groups
pub spell-least : (k n : ℕ) → 128 ^ k ≤ n → k + 1 ≤ length (spell n)
spell-least zero n h = omega (arith, spell-some n)
spell-least (suc k) n h =
    let p : 128 ^ suc k ≡ 128 ^ k * 128 ^ 1 = ap (λ x. 128 ^ x) (omega arith) ∙ pow-add 128 k 1 in
    let q : 1 ≤ 128 ^ k = pow-some k in
    let l : 128 ≤ n = omega arith in
    let d : 128 ^ k ≤ n / 128 = omega arith in
    omega (arith, ap length (spell-more n l), spell-least k (n / 128) d)

groups-pow : (k : ℕ) → 128 ^ k ≡ 2 ^ (7 * k)
groups-pow zero = refl
groups-pow (suc k) =
    let e : 7 * suc k ≡ 7 + 7 * k = omega arith in
    pow-succ' 128 k ∙ ap (λ x. 128 * x) (groups-pow k) ∙ sym (ap (λ x. 2 ^ x) e ∙ pow-add 2 7 (7 * k))

-- a number of j + 1 bits has j / 7 + 1 groups
pub spell_bits : (n j : ℕ) → 2 ^ j ≤ n → n < 2 ^ suc j → length (spell n) ≡ j / 7 + 1
spell_bits n j low high =
    let k = j / 7 in
    let p : 2 ^ (7 * k) ≤ 2 ^ j = pow_mono {i = 7 * k} {j = j} (omega arith) in
    let q : 2 ^ suc j ≤ 2 ^ (7 * (k + 1)) = pow_mono {i = suc j} {j = 7 * (k + 1)} (omega arith) in
    omega (arith, spell-least k n (omega (arith, groups-pow k)), length-spell k n (omega (arith, groups-pow (k + 1))))

-- 0 has as many groups as 1
pub spell_max : (n : ℕ) → length (spell n) ≡ length (spell (max n 1))
unfolding spell
spell_max zero = refl
spell_max (suc n) = let e : suc n ≡ max (suc n) 1 = omega arith in ap (λ x. length (spell x)) e
