-- A map gives its signers back. Assumes nothing.
use Rattle.std.proofs.Common.{◌≡◌, ℕ, zero, suc, ◌+◌, ◌-◌, ◌*◌, ◌/◌, ◌%◌, ◌^◌, ◌<◌, ◌≤◌, Bool, true, false, cond, ◌&&◌, eqb, ltb, leb, List, [], ◌∷◌, ◌++◌, length, sym, refl, ap, ◌∙◌, subst, ⊎_elim, mul_assoc, add-mul, mul-add, arith, length-append, pow-add}
use native.Mathlib.Nat.{two-pow-succ}
use Rattle.std.proofs.lemmas.Nat.{div-mul-add}
use Rattle.std.proofs.lemmas.Bool.{and_parts, and_from, cases_order, leb-true, ltb-true, le-leb, lt-ltb, cond-true, cond-false}
use Rattle.bitmaps.proofs.Powers.{pow-le}
use Rattle.bitmaps.specs.Maps.{bit, standing_from, standing, map_of, rising}

-- the bit at i of a number, by what stands above i and below it
even : (i q r : ℕ) → r < 2 ^ i → bit i (r + q * 2 ^ suc i) ≡ false
even i q r below =
    let whole : r + q * 2 ^ suc i ≡ (q + q) * 2 ^ i + r =
    let a = ap (λ (p : ℕ). q * p) (two-pow-succ i) in
    let b = mul-add q (2 ^ i) (2 ^ i) in
    let c = add-mul q q (2 ^ i) in
    omega (arith, a, b, c) in
    let quotient = ap (λ (m : ℕ). m / 2 ^ i) whole ∙ div-mul-add (q + q) (2 ^ i) r below in
    ap (λ (m : ℕ). eqb (m % 2) 1) quotient ∙ ap (λ (m : ℕ). eqb m 1) (let h : (q + q) % 2 ≡ 0 = omega arith in h)

odd : (i q r : ℕ) → r < 2 ^ i → bit i (r + (2 ^ i + q * 2 ^ suc i)) ≡ true
odd i q r below =
    let whole : r + (2 ^ i + q * 2 ^ suc i) ≡ (1 + (q + q)) * 2 ^ i + r =
    let a = ap (λ (p : ℕ). q * p) (two-pow-succ i) in
    let b = mul-add q (2 ^ i) (2 ^ i) in
    let c = add-mul q q (2 ^ i) in
    let d = add-mul 1 (q + q) (2 ^ i) in
    omega (arith, a, b, c, d) in
    let quotient = ap (λ (m : ℕ). m / 2 ^ i) whole ∙ div-mul-add (1 + (q + q)) (2 ^ i) r below in
    ap (λ (m : ℕ). eqb (m % 2) 1) quotient ∙ ap (λ (m : ℕ). eqb m 1) (let h : (1 + (q + q)) % 2 ≡ 1 = omega arith in h)

-- the map of signers from i on has no bit below i
pub multiple : (i n : ℕ) (is : List ℕ) → rising i n is ≡ true → (q : ℕ) × (map_of is ≡ q * 2 ^ i)
multiple i n [] up = (0, omega arith)
multiple i n (j ∷ js) up =
    let parts = and_parts (leb i j) (ltb j n && rising (suc j) n js) up in
    let more = and_parts (ltb j n) (rising (suc j) n js) parts.1 in
    let rest = multiple (suc j) n js more.1 in
    let e = j - i in
    let high : 2 ^ j ≡ 2 ^ e * 2 ^ i = ap (λ (k : ℕ). 2 ^ k) (let h : j ≡ (j - i) + i = omega (arith, leb-true i j parts.0) in h) ∙ pow-add 2 e i in
    let q = rest.0 in
    let a = ap (λ (p : ℕ). q * p) (two-pow-succ j) in
    let b = mul-add q (2 ^ j) (2 ^ j) in
    let c = ap (λ (p : ℕ). q * p) high in
    let d = mul_assoc q (2 ^ e) (2 ^ i) in
    let f = add-mul (2 ^ e) (q * 2 ^ e + q * 2 ^ e) (2 ^ i) in
    let g = add-mul (q * 2 ^ e) (q * 2 ^ e) (2 ^ i) in
    (2 ^ e + (q * 2 ^ e + q * 2 ^ e), omega (arith, rest.1, high, a, b, c, d, f, g))

later : (i n : ℕ) (is : List ℕ) (j : ℕ) → i < j → rising i n (j ∷ is) ≡ true → rising (suc i) n (j ∷ is) ≡ true
later i n is j above up =
    let parts = and_parts (leb i j) (ltb j n && rising (suc j) n is) up in
    and_from (leb (suc i) j) (ltb j n && rising (suc j) n is) (le-leb (suc i) j (omega arith)) parts.1

-- bit i does not stand, or it does, over anything below it: what the bits above it give back is `rest`
module _ (k i n r : ℕ) (below : r < 2 ^ i)
    (rest : (js : List ℕ) (s : ℕ) → s < 2 ^ suc i → rising (suc i) n js ≡ true → standing_from k (suc i) (s + map_of js) ≡ js) where
  absent : (is : List ℕ) → rising (suc i) n is ≡ true → standing_from (suc k) i (r + map_of is) ≡ is
  unfolding standing_from
  absent is up =
      let q = multiple (suc i) n is up in
      let falls : bit i (r + map_of is) ≡ false = ap (λ (m : ℕ). bit i (r + m)) q.1 ∙ even i q.0 r below in
      ap (λ (front : List ℕ). front ++ standing_from k (suc i) (r + map_of is)) (cond-false (bit i (r + map_of is)) (i ∷ []) [] falls)
      ∙ rest is r (let h = two-pow-succ i in omega (arith, h)) up

  present : (is : List ℕ) → rising (suc i) n is ≡ true → standing_from (suc k) i (r + map_of (i ∷ is)) ≡ i ∷ is
  unfolding standing_from
  present is up =
      let q = multiple (suc i) n is up in
      let m = r + (2 ^ i + map_of is) in
      let stands : bit i m ≡ true = ap (λ (x : ℕ). bit i (r + (2 ^ i + x))) q.1 ∙ odd i q.0 r below in
      let regroup : m ≡ (r + 2 ^ i) + map_of is = omega arith in
      let up_to : r + 2 ^ i < 2 ^ suc i = (let h = two-pow-succ i in omega (arith, h)) in
      ap (λ (front : List ℕ). front ++ standing_from k (suc i) m) (cond-true (bit i m) (i ∷ []) [] stands)
      ∙ ap (λ (x : ℕ). i ∷ standing_from k (suc i) x) regroup
      ∙ ap (λ (js : List ℕ). i ∷ js) (rest is (r + 2 ^ i) up_to up)

-- of k bits from i on, over anything below them
back : (k i n : ℕ) (is : List ℕ) (r : ℕ) → n ≡ i + k → r < 2 ^ i → rising i n is ≡ true → standing_from k i (r + map_of is) ≡ is
unfolding standing_from
back zero i n [] r size below up = refl
back (suc k) i n [] r size below up = absent k i n r below (λ js s lt ok. back k (suc i) n js s (omega arith) lt ok) [] refl
back zero i n (j ∷ js) r size below up =
    let parts = and_parts (leb i j) (ltb j n && rising (suc j) n js) up in
    let more = and_parts (ltb j n) (rising (suc j) n js) parts.1 in
    absurd (omega (arith, leb-true i j parts.0, ltb-true j n more.0))
back (suc k) i n (j ∷ js) r size below up =
    let parts = and_parts (leb i j) (ltb j n && rising (suc j) n js) up in
    let more = and_parts (ltb j n) (rising (suc j) n js) parts.1 in
    let rest : (ls : List ℕ) (s : ℕ) → s < 2 ^ suc i → rising (suc i) n ls ≡ true → standing_from k (suc i) (s + map_of ls) ≡ ls =
    λ ls s lt ok. back k (suc i) n ls s (omega arith) lt ok in
    ⊎_elim
    (λ same. subst (λ (x : ℕ). standing_from (suc k) i (r + map_of (x ∷ js)) ≡ x ∷ js) same
    (present k i n r below rest js (subst (λ (x : ℕ). rising (suc x) n js ≡ true) (sym same) more.1)))
    (λ apart. ⊎_elim (λ above. absent k i n r below rest (j ∷ js) (later i n js j above up)) (λ under. absurd (omega (arith, leb-true i j parts.0))) apart)
    (cases_order i j)

-- fewer signers may be asked for
wider : (next n m : ℕ) (is : List ℕ) → n ≤ m → rising next n is ≡ true → rising next m is ≡ true
wider next n m [] le up = refl
wider next n m (j ∷ js) le up =
    let parts = and_parts (leb next j) (ltb j n && rising (suc j) n js) up in
    let more = and_parts (ltb j n) (rising (suc j) n js) parts.1 in
    and_from (leb next j) (ltb j m && rising (suc j) m js) parts.0
    (and_from (ltb j m) (rising (suc j) m js) (lt-ltb j m (omega (arith, ltb-true j n more.0))) (wider (suc j) n m js le more.1))

-- the map of signers below 16 gives them back
pub returned : (n : ℕ) (is : List ℕ) → n ≤ 16 → rising 0 n is ≡ true → standing (map_of is) ≡ is
unfolding standing
returned n is small up =
    ap (λ (m : ℕ). standing_from 16 0 m) (let h : map_of is ≡ 0 + map_of is = omega arith in h) ∙ back 16 0 16 is 0 refl (omega arith) (wider 0 n 16 is small up)

-- and it has sixteen bits
under : (next n : ℕ) (is : List ℕ) → next ≤ n → rising next n is ≡ true → map_of is + 2 ^ next ≤ 2 ^ n
under next n [] le up = let h = pow-le next n le in omega (arith, h)
under next n (j ∷ js) le up =
    let parts = and_parts (leb next j) (ltb j n && rising (suc j) n js) up in
    let more = and_parts (ltb j n) (rising (suc j) n js) parts.1 in
    let low = pow-le next j (leb-true next j parts.0) in
    let rest = under (suc j) n js (omega (arith, ltb-true j n more.0)) more.1 in
    let h = two-pow-succ j in omega (arith, low, rest, h)

pub sixteen : (n : ℕ) (is : List ℕ) → n ≤ 16 → rising 0 n is ≡ true → map_of is < 2 ^ 16
sixteen n is small up = let h = under 0 n is (omega arith) up in let p = pow-le n 16 small in omega (arith, h, p)

-- two bytes give a map back
pub two_back : (m : ℕ) → m < 2 ^ 16 → (m / 256 % 256) * 256 + m % 256 ≡ m
two_back m small = omega arith

-- there are at most as many signers as there is room for
pub room : (next n : ℕ) (is : List ℕ) → next ≤ n → rising next n is ≡ true → next + length is ≤ n
room next n [] le up = omega arith
room next n (j ∷ js) le up =
    let parts = and_parts (leb next j) (ltb j n && rising (suc j) n js) up in
    let more = and_parts (ltb j n) (rising (suc j) n js) parts.1 in
    let rest = room (suc j) n js (omega (arith, ltb-true j n more.0)) more.1 in
    omega (arith, leb-true next j parts.0, rest)

one : (b : Bool) (i : ℕ) → length (cond b (i ∷ []) []) ≤ 1
one true i = omega arith
one false i = omega arith

-- at most as many bits stand as were looked at
few-from : (k i m : ℕ) → length (standing_from k i m) ≤ k
unfolding standing_from
few-from zero i m = omega arith
few-from (suc k) i m =
    omega (arith, length-append (cond (bit i m) (i ∷ []) []) (standing_from k (suc i) m), one (bit i m) i, few-from k (suc i) m)

pub standing-few : (m : ℕ) → length (standing m) ≤ 16
unfolding standing
standing-few m = few-from 16 0 m
