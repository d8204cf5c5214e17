use Rattle.std.proofs.Common.{string_bytes, sym, ap, ◌∙◌, subst}
use Rattle.std.specs.Option.{option_map}
use Rattle.journal.specs.Log.{reading}
use Rattle.journal.specs.Places.{placed}
use Rattle.console_journal.proofs.Listing.{Listed, listed_none, listed_more, listed_all}
use Rattle.console_journal.proofs.listings.list.Goals as goal

pub loop-count-init : goal.loop-count-init
loop-count-init g c =
    let rs = reading (g.J.Journal.disk c.args.journal.now).log.sections in
    subst (λ t. Listed c.args.overrun _ rs t 0) (sym c.new-lines.ensures.bytes) (listed_none c.args.overrun rs)

pub returns-in_default-clause-lines : goal.returns-in_default-clause-lines
returns-in_default-clause-lines g c =
    (listed_all c.args.overrun c.loop-count.last (reading (g.J.Journal.disk c.args.journal.now).log.sections) (string_bytes c.loop-count.lines) c.loop-count.count (sym (ap (option_map placed) c.in_default.is) ∙ c.next_before.ensures.first) c.loop-count.invariant).0

pub returns-in_default-clause-count : goal.returns-in_default-clause-count
returns-in_default-clause-count g c =
    (listed_all c.args.overrun c.loop-count.last (reading (g.J.Journal.disk c.args.journal.now).log.sections) (string_bytes c.loop-count.lines) c.loop-count.count (sym (ap (option_map placed) c.in_default.is) ∙ c.next_before.ensures.first) c.loop-count.invariant).1

pub loop-count-preserved : goal.loop-count-preserved
loop-count-preserved g c =
    listed_more c.args.overrun c.loop-count.last (placed c.in-Some.record) (g.J.Journal.disk c.args.journal.now).log (string_bytes c.loop-count.lines) (string_bytes c.writeln.new.self) c.loop-count.count
    c.next_before.ensures.formed (sym (ap (option_map placed) c.in-Some.is) ∙ c.next_before.ensures.first) c.loop-count.invariant c.in_ok-writeln.ensures.bytes
