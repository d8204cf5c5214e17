use Rattle.std.proofs.Common.{refl}
use Rattle.slots.specs.Value.{log_of}
use Rattle.slots.specs.Order.{order}
use Rattle.journal.proofs.Lost.{solid_all-synced}
use Rattle.slots.proofs.Groups.{solid_grouped}
use Rattle.slots.proofs.SlotJournalJournal.sync_all.Goals as goal

pub returns-clause-step : goal.returns-clause-step
returns-clause-step c =
    let j = c.args.self.now in
    (refl, refl, solid_all-synced (log_of j.bound j.slots.now) (solid_grouped (order j.slots.now)))
