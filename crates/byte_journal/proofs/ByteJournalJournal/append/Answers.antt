use Rattle.std.proofs.Common.{refl, arith}
use Rattle.byte_journal.proofs.Steps.{dark_step, lit_step, adding_over}
use Rattle.byte_journal.proofs.ByteJournalJournal.append.Goals as goal

pub returns-then-eq-clause-step : goal.returns-then-eq-clause-step
returns-then-eq-clause-step c =
    let j = c.args.self.now in
    let a = c.append-appended in
    dark_step j.bytes.now a.new.medium j.bound c.args.section c.args.bytes.now j.power a.new.power a.result _ _ refl c.if-eq.ensures (omega arith) a.ensures.step

pub returns-then-eq-clause-overruns : goal.returns-then-eq-clause-overruns
returns-then-eq-clause-overruns c =
    let j = c.args.self.now in
    let a = c.append-appended in
    adding_over j.bytes.now a.new.medium c.args.section c.args.bytes.now j.power a.new.power a.result a.ensures.step

pub returns-else-eq-clause-step : goal.returns-else-eq-clause-step
returns-else-eq-clause-step c =
    let j = c.args.self.now in
    let a = c.append-appended in
    lit_step j.bytes.now a.new.medium j.bound c.args.section c.args.bytes.now j.power a.new.power a.result _ _ refl c.if-eq.ensures (omega arith) a.ensures.step

pub returns-else-eq-clause-overruns : goal.returns-else-eq-clause-overruns
returns-else-eq-clause-overruns c =
    let j = c.args.self.now in
    let a = c.append-appended in
    adding_over j.bytes.now a.new.medium c.args.section c.args.bytes.now j.power a.new.power a.result a.ensures.step
