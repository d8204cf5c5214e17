-- Eight bytes and the number that they spell. Assumes nothing.
use Rattle.std.proofs.Common.{◌≡◌, ℕ, ◌+◌, ◌-◌, ◌*◌, ◌/◌, ◌%◌, ◌^◌, ◌<◌, List, ◌++◌, length, get_or, take, drop, min, replicate, sym, ◌∙◌, ⊎_elim, arith, length-take}
use Rattle.std.proofs.Math.Seq.{get_or-append_right}
use Rattle.std.proofs.lemmas.List.{get_or_append_left, get_or-take, get_or-drop, get_or-replicate, get_or_past}
use Rattle.std.proofs.lemmas.Bool.{cases_lt}
use Rattle.std.proofs.lemmas.Nat.{mod-pow-add}
use Rattle.tags.specs.Words.{word, eight_bytes}

-- the digits of n in base 256, from the top
parts : (n : ℕ) → n / 2 ^ 56 % 256 * 2 ^ 56 + n / 2 ^ 48 % 256 * 2 ^ 48 + n / 2 ^ 40 % 256 * 2 ^ 40 + n / 2 ^ 32 % 256 * 2 ^ 32
    + n / 2 ^ 24 % 256 * 2 ^ 24 + n / 2 ^ 16 % 256 * 2 ^ 16 + n / 2 ^ 8 % 256 * 2 ^ 8 + n % 256 ≡ n % 2 ^ 64
parts n =
    omega (arith, mod-pow-add n 8 56, mod-pow-add n 8 48, mod-pow-add n 8 40, mod-pow-add n 8 32, mod-pow-add n 8 24, mod-pow-add n 8 16, mod-pow-add n 8 8)

-- eight bytes give their number back, as 64 bits, whatever follows them
pub word-eight_bytes : (n : ℕ) (more : List ℕ) → word (eight_bytes n ++ more) ≡ n % 2 ^ 64
unfolding word eight_bytes
word-eight_bytes n more = parts n

-- the first bytes of a string, and zeros behind them up to eight
abbrev pub padded : ℕ → List ℕ → List ℕ
padded n bs = take n bs ++ drop n (replicate 8 0)

digit : (n : ℕ) (bs : List ℕ) (i : ℕ) → n ≡ min (length bs) 8 → i < 8 → get_or (padded n bs) i 0 ≡ get_or bs i 0
digit n bs i is below =
    let size : length (take n bs) ≡ n = omega (arith, length-take n bs) in
    ⊎_elim
    (λ (h : i < n). get_or_append_left (take n bs) (drop n (replicate 8 0)) 0 i (omega arith) ∙ get_or-take n bs i 0 h)
    (λ h.
    get_or-append_right (take n bs) (drop n (replicate 8 0)) i 0 (omega arith)
    ∙ get_or-drop n (replicate 8 0) (i - length (take n bs)) 0
    ∙ get_or-replicate 8 (n + (i - length (take n bs))) 0 0 (omega arith)
    ∙ sym (get_or_past bs i 0 (omega arith)))
    (cases_lt i n)

-- bytes that are missing count as zeros
pub word-padded : (n : ℕ) (bs : List ℕ) → n ≡ min (length bs) 8 → word (padded n bs) ≡ word bs
unfolding word
word-padded n bs is =
    let d : (i : ℕ) → i < 8 → get_or (padded n bs) i 0 ≡ get_or bs i 0 = λ i. digit n bs i is in
    cc (d 0 (omega arith), d 1 (omega arith), d 2 (omega arith), d 3 (omega arith), d 4 (omega arith), d 5 (omega arith), d 6 (omega arith), d 7 (omega arith))
