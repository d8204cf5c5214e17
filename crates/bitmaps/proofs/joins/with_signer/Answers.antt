use Rattle.std.proofs.Common.{◌≡◌, ℕ, ◌*◌, ◌%◌, ◌^◌, ap, ◌∙◌, arith}
use lib.Bits.{bit_or, or_shifted_r}
use Rattle.std.proofs.lemmas.Nat.{one_shl}
use Rattle.bitmaps.proofs.joins.with_signer.Goals as goal

pub returns : goal.returns
returns c =
    let s = c.args.signer in
    let m = c.args.map in
    let one : 1 * 2 ^ s % 2 ^ 16 ≡ 1 * 2 ^ s = omega (arith, one_shl s 16 c.requires.0) in
    ap (λ (b : ℕ). bit_or m b) one ∙ or_shifted_r 1 s m c.requires.1 ∙ omega arith
