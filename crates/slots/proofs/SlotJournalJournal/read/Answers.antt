use Rattle.std.proofs.Common.{sym, refl}
use Rattle.slots.specs.Value.{log_of}
use Rattle.slots.specs.Order.{order}
use Rattle.journal.proofs.Lost.{solid_all-synced, solid_synced_to}
use Rattle.slots.proofs.Groups.{solid_grouped, formed_log}
use Rattle.slots.proofs.SlotJournalJournal.read.Goals as goal

pub returns-in-Some-clause-step : goal.returns-in-Some-clause-step
returns-in-Some-clause-step c =
    let j = c.args.self.now in
    let o = c.in-Some.overrun in
    let e = sym c.in-Some.ensures in
    (refl, refl, e, e, solid_synced_to o.place.section o.place.number (log_of j.bound j.slots.now) (solid_grouped (order j.slots.now)))

pub returns-in-Some-clause-formed : goal.returns-in-Some-clause-formed
returns-in-Some-clause-formed c = formed_log c.args.self.now.bound c.args.self.now.slots.now

pub returns-in-None-clause-step : goal.returns-in-None-clause-step
returns-in-None-clause-step c =
    let j = c.args.self.now in
    let e = sym c.in-None.ensures in
    (refl, refl, e, e, solid_all-synced (log_of j.bound j.slots.now) (solid_grouped (order j.slots.now)))

pub returns-in-None-clause-formed : goal.returns-in-None-clause-formed
returns-in-None-clause-formed c = formed_log c.args.self.now.bound c.args.self.now.slots.now
