use Rattle.std.proofs.Common.{string_bytes}
use Rattle.journal.specs.Log.{reading}
use Rattle.console_journal.proofs.Listing.{Listed}
use Rattle.console_journal.proofs.listings.list.Given as goal

abbrev pub invariant-loop-count : goal.invariant-loop-count
invariant-loop-count g l = Listed l.overrun l.last (reading (g.J.Journal.disk l.journal).log.sections) (string_bytes l.lines) l.count
