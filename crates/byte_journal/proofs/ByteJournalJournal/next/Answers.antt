use Rattle.std.proofs.Common.{◌∙◌}
use Rattle.areas.specs.Plan.{plan}
use Rattle.byte_journal.proofs.Nexts.{next_is}
use Rattle.byte_journal.proofs.Short.{formed}
use Rattle.byte_journal.proofs.ByteJournalJournal.next.Goals as goal

pub returns : goal.returns
returns c =
    let j = c.args.self.now in
    record { first = c.next.ensures ∙ next_is c.args.after (plan j.bytes.now); formed = formed j.bound j.bytes.now }
