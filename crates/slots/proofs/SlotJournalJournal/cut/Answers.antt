use Rattle.slots.specs.Value.{log_of}
use Rattle.slots.specs.Order.{order}
use Rattle.journal.proofs.Lost.{solid_cut}
use Rattle.slots.proofs.Groups.{solid_grouped, formed_log}
use Rattle.slots.proofs.SlotJournalJournal.cut.Goals as goal

pub returns-clause-step : goal.returns-clause-step
returns-clause-step c =
    let j = c.args.self.now in
    solid_cut 0 (log_of j.bound j.slots.now) (solid_grouped (order j.slots.now)) (formed_log j.bound j.slots.now)
