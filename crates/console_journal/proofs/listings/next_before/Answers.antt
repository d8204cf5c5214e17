use Rattle.std.proofs.Common.{◌≡◌, None, rules, sym, ap, ◌∙◌}
use Rattle.std.specs.Option.{option_map}
use Rattle.journal.specs.Log.{reading}
use Rattle.journal.specs.Places.{placed, beyond}
use Rattle.console_journal.proofs.Listing.{none_left, one_before, one_past}
use Rattle.console_journal.proofs.listings.next_before.Goals as goal

pub returns-in_err-record-clause-first : goal.returns-in_err-record-clause-first
returns-in_err-record-clause-first g c =
    let told : c.from_residual.result ≡ None = search rules in
    ap (option_map placed) told ∙ none_left c.args.overrun (beyond c.args.last (reading (g.J.Journal.disk c.args.journal.now).log.sections)) (sym (ap (option_map placed) c.in_err-record.was) ∙ c.next.ensures.first)

pub returns-then-is_before-clause-first : goal.returns-then-is_before-clause-first
returns-then-is_before-clause-first g c =
    one_before c.args.overrun (placed c.in_ok-record.record) (beyond c.args.last (reading (g.J.Journal.disk c.args.journal.now).log.sections)) (sym (ap (option_map placed) c.in_ok-record.was) ∙ c.next.ensures.first)
    (sym c.is_before.ensures ∙ c.if-is_before.true)

pub returns-else-is_before-clause-first : goal.returns-else-is_before-clause-first
returns-else-is_before-clause-first g c =
    one_past c.args.overrun (placed c.in_ok-record.record) (beyond c.args.last (reading (g.J.Journal.disk c.args.journal.now).log.sections)) (sym (ap (option_map placed) c.in_ok-record.was) ∙ c.next.ensures.first)
    (sym c.is_before.ensures ∙ c.if-is_before.false)
