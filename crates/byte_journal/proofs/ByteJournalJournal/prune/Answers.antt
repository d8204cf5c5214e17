use Rattle.areas.specs.Plan.{plan}
use Rattle.byte_journal.proofs.Steady.{cleared_clean}
use Rattle.byte_journal.proofs.Steps.{stopped_step, stopped_over, cleared_step}
use Rattle.byte_journal.proofs.ByteJournalJournal.prune.Goals as goal

pub returns-in-Err-clause-step : goal.returns-in-Err-clause-step
returns-in-Err-clause-step c =
    let j = c.args.self.now in
    stopped_step j.bytes.now c.prune-pruned.new.medium j.bound c.args.section j.power c.prune-pruned.new.power c.in-Err.stop c.in-Err.ensures.step

pub returns-in-Err-clause-overruns : goal.returns-in-Err-clause-overruns
returns-in-Err-clause-overruns c =
    let j = c.args.self.now in
    stopped_over j.bytes.now c.prune-pruned.new.medium c.args.section j.power c.prune-pruned.new.power c.in-Err.stop c.in-Err.ensures.step

pub returns-clause-step : goal.returns-clause-step
returns-clause-step c =
    let j = c.args.self.now in
    cleared_step j.bytes.now c.prune-pruned.new.medium j.bound c.max-self.result c.args.section (plan j.bytes.now) c.max-self.ensures c.in_default.ensures.step.0

pub returns-clause-overruns : goal.returns-clause-overruns
returns-clause-overruns c = cleared_clean c.args.section (plan c.args.self.now.bytes.now) (plan c.prune-pruned.new.medium) c.in_default.ensures.step.0
