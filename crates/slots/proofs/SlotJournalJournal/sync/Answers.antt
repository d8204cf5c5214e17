use Rattle.std.proofs.Common.{refl}
use Rattle.slots.specs.Value.{log_of}
use Rattle.slots.specs.Order.{order}
use Rattle.journal.proofs.Lost.{solid_synced}
use Rattle.slots.proofs.Groups.{solid_grouped}
use Rattle.slots.proofs.SlotJournalJournal.sync.Goals as goal

pub returns-clause-step : goal.returns-clause-step
returns-clause-step c =
    let j = c.args.self.now in
    (refl, refl, solid_synced c.args.section (log_of j.bound j.slots.now) (solid_grouped (order j.slots.now)))
