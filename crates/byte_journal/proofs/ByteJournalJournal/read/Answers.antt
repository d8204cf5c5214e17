use Rattle.std.proofs.Common.{sym, refl}
use Rattle.areas.specs.Plan.{plan}
use Rattle.journal.proofs.Lost.{solid_all-synced, solid_synced_to}
use Rattle.byte_journal.specs.Value.{log_of}
use Rattle.byte_journal.proofs.Short.{solid, formed}
use Rattle.byte_journal.proofs.ByteJournalJournal.read.Goals as goal

pub returns-in-Some-clause-step : goal.returns-in-Some-clause-step
returns-in-Some-clause-step c =
    let j = c.args.self.now in
    let p = c.in-Some.overrun.place in
    let e = sym c.in-Some.ensures in
    (refl, refl, e, e, solid_synced_to p.section p.number (log_of j.bound (plan j.bytes.now)) (solid (plan j.bytes.now)))

pub returns-in-Some-clause-formed : goal.returns-in-Some-clause-formed
returns-in-Some-clause-formed c = formed c.args.self.now.bound c.args.self.now.bytes.now

pub returns-in-None-clause-step : goal.returns-in-None-clause-step
returns-in-None-clause-step c =
    let j = c.args.self.now in
    let e = sym c.in-None.ensures in
    (refl, refl, e, e, solid_all-synced (log_of j.bound (plan j.bytes.now)) (solid (plan j.bytes.now)))

pub returns-in-None-clause-formed : goal.returns-in-None-clause-formed
returns-in-None-clause-formed c = formed c.args.self.now.bound c.args.self.now.bytes.now
