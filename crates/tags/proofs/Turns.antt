-- A turn of 64 bits by shifts and `or` is the sum of its two parts. Assumes nothing.
use Rattle.std.proofs.Common.{◌≡◌, ℕ, ◌+◌, ◌*◌, ◌/◌, ◌%◌, ◌^◌, ◌<◌, sym, ap, ◌∙◌, arith}
use lib.Bits.{bit_or}
use Rattle.std.proofs.lemmas.Nat.{mod-pow-add, shl-shr, mod_low, or_shifted, shr_below}
use Rattle.tags.specs.Tags.{turned}

upper : (h : ℕ) → h * 2 ^ 17 % 2 ^ 64 ≡ h % 2 ^ 47 * 2 ^ 17
upper h =
    let split = mod-pow-add (h * 2 ^ 17) 47 17 in
    let high = shl-shr h 17 in
    let low = mod_low h 17 0 (omega arith) in
    omega (arith, split, ap (λ (n : ℕ). n % 2 ^ 47) high)

pub turned_is : (h : ℕ) → h < 2 ^ 64 → bit_or (h * 2 ^ 17 % 2 ^ 64) (h / 2 ^ 47) ≡ turned h
unfolding turned
turned_is h small =
    ap (λ (n : ℕ). bit_or n (h / 2 ^ 47)) (upper h)
    ∙ or_shifted (h % 2 ^ 47) 17 (h / 2 ^ 47) (shr_below h 17 47 small)
    ∙ ap (λ (n : ℕ). n + h / 2 ^ 47) (sym (upper h))
