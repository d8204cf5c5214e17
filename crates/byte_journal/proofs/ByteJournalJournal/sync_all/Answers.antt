use Rattle.std.proofs.Common.{refl}
use Rattle.areas.specs.Plan.{plan}
use Rattle.journal.proofs.Lost.{solid_all-synced}
use Rattle.byte_journal.specs.Value.{log_of}
use Rattle.byte_journal.proofs.Short.{solid}
use Rattle.byte_journal.proofs.ByteJournalJournal.sync_all.Goals as goal

pub returns-clause-step : goal.returns-clause-step
returns-clause-step c =
    let j = c.args.self.now in
    (refl, refl, solid_all-synced (log_of j.bound (plan j.bytes.now)) (solid (plan j.bytes.now)))
