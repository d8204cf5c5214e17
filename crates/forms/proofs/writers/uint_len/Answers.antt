use Rattle.std.proofs.Common.{◌≡◌, ◌+◌, ◌-◌, ◌/◌, max, length, ap, ◌∙◌, arith}
use lib.Count.{count_leading_zeros}
use Rattle.std.proofs.lemmas.Nat.{leading_top}
use Rattle.forms.specs.Uint.{spell}
use Rattle.forms.proofs.Spelling.{spell_bits, spell_max}
use Rattle.forms.proofs.writers.uint_len.Goals as goal

pub returns : goal.returns
returns c =
    let m = c.max.result in
    let t = leading_top 64 m (omega arith) (omega arith) in
    let j = t.0 in
    let e : (70 - count_leading_zeros 64 m) / 7 ≡ j / 7 + 1 = omega (arith, t.1) in
    let r : max c.args.n 1 ≡ m = omega arith in
    let s : length (spell c.args.n) ≡ j / 7 + 1 = spell_max c.args.n ∙ ap (λ x. length (spell x)) r ∙ spell_bits m j t.2 t.3 in
    record { len = omega arith; few = omega (arith, t.1) }
