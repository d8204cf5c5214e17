use Rattle.std.proofs.Common.{◌≡◌, length, inr, Ok, Some, rules, refl, sym, ap, ◌∙◌, subst}
use Rattle.std.specs.Option.{option_map}
use Rattle.console_journal.specs.declared.answers.Answer.TheVariants.{Bytes}
use Rattle.console_journal.specs.Obeying.{part_of, Copied}
use Rattle.console_journal.proofs.looks.show.Goals as goal

pub returns : goal.returns
returns c =
    let found : c.part.result ≡ Some c.in_ok-part.part = search rules in
    let part : part_of c.args.from c.args.count c.args.bytes.now ≡ Some c.in_ok-part.part.now = sym c.part.ensures ∙ ap (option_map (λ b. b.now)) found in
    subst (λ o. Copied (length c.args.bytes.now) o (Ok (Bytes c.in_ok-copy.field-0))) (sym part) (inr (c.in_ok-copy.field-0, refl, c.in_ok-copy.ensures))
