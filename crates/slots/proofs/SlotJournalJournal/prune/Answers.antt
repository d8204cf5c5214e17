use Rattle.std.proofs.Common.{sym, ◌∙◌, is_ok, subst, arith}
use Rattle.slots.specs.Stores.{Sweeping}
use Rattle.slots.proofs.Powers.{lit-err}
use Rattle.slots.proofs.Steps.{freed_step, freed-over, stopped_step, swept-over}
use Rattle.slots.proofs.SlotJournalJournal.prune.Goals as goal

pub returns-in-Err-clause-step : goal.returns-in-Err-clause-step
returns-in-Err-clause-step c =
    let j = c.args.self.now in
    let xs = j.slots.now in
    let ys = c.free_below.new.self.slots.now in
    stopped_step j.bound c.args.section c.in-Err.stop xs ys (lit-err _ _ (sym c.in-Err.is ∙ c.free_below.ensures.answer)).0
    (subst (λ r. Sweeping c.args.section (is_ok r) xs ys) c.in-Err.is c.free_below.ensures.freed)

pub returns-in-Err-clause-overruns : goal.returns-in-Err-clause-overruns
returns-in-Err-clause-overruns c =
    let xs = c.args.self.now.slots.now in
    let ys = c.free_below.new.self.slots.now in
    swept-over c.args.section xs ys (subst (λ r. Sweeping c.args.section (is_ok r) xs ys) c.in-Err.is c.free_below.ensures.freed)

pub returns-clause-step : goal.returns-clause-step
returns-clause-step c =
    let j = c.args.self.now in
    let xs = j.slots.now in
    let ys = c.free_below.new.self.slots.now in
    freed_step j.bound c.max-self.result c.args.section xs ys (omega (arith, c.max-self.ensures)) (subst (λ r. Sweeping c.args.section (is_ok r) xs ys) c.in_default.is c.free_below.ensures.freed)

pub returns-clause-overruns : goal.returns-clause-overruns
returns-clause-overruns c =
    let xs = c.args.self.now.slots.now in
    let ys = c.free_below.new.self.slots.now in
    freed-over c.args.section xs ys (subst (λ r. Sweeping c.args.section (is_ok r) xs ys) c.in_default.is c.free_below.ensures.freed)
