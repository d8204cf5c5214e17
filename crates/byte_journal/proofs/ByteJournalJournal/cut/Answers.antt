use Rattle.areas.specs.Plan.{plan}
use Rattle.journal.proofs.Lost.{solid_cut}
use Rattle.byte_journal.specs.Value.{log_of}
use Rattle.byte_journal.proofs.Short.{solid, formed}
use Rattle.byte_journal.proofs.ByteJournalJournal.cut.Goals as goal

pub returns-clause-step : goal.returns-clause-step
returns-clause-step c =
    let j = c.args.self.now in
    solid_cut 0 (log_of j.bound (plan j.bytes.now)) (solid (plan j.bytes.now)) (formed j.bound j.bytes.now)
