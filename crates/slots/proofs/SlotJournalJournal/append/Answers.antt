use Rattle.std.proofs.Common.{◌≡◌, cond, is_ok, set, Ok, Err, sym, ap, ◌∙◌, subst, rules, arith}
use Rattle.journal.specs.Steps.{Appended}
use Rattle.slots.specs.Value.{disk, over}
use Rattle.slots.proofs.Powers.{lit-err}
use Rattle.slots.proofs.Steps.{room_within, free-some, free-none, store-over, stored_step, storing, dark_step, full_step}
use Rattle.slots.proofs.SlotJournalJournal.append.Goals as goal

pub store-requires : goal.store-requires
store-requires c = room_within c.in_ok-free.free _ (free-some _ c.vacancy.result c.ok_or.result c.in_ok-free.free c.vacancy.ensures c.ok_or.ensures.ok_part c.in_ok-free.was)

pub returns-in_err-free-clause-step : goal.returns-in_err-free-clause-step
returns-in_err-free-clause-step c =
    let j = c.args.self.now in
    let xs = j.slots.now in
    let told : c.from_residual.result ≡ Err c.in_err-free.field-0.0 = search rules in
    let none = free-none xs c.vacancy.result c.ok_or.result c.in_err-free.field-0.0 c.vacancy.ensures c.ok_or.ensures.value c.in_err-free.was in
    subst (λ r. Appended (disk j.bound xs) c.args.section c.args.bytes.now r (disk j.bound xs)) (sym told)
    (full_step j.bound c.args.section c.args.bytes.now c.in_err-free.field-0.0 xs none.0 (omega arith) none.1)

pub returns-in-Err-clause-step : goal.returns-in-Err-clause-step
returns-in-Err-clause-step c =
    let j = c.args.self.now in
    let xs = j.slots.now in
    let room = free-some xs c.vacancy.result c.ok_or.result c.in_ok-free.free c.vacancy.ensures c.ok_or.ensures.ok_part c.in_ok-free.was in
    dark_step j.bound c.args.section c.args.bytes.now c.in-Err.stop c.in_ok-free.free xs c.store.new.self.slots.now (lit-err _ _ (sym c.in-Err.is ∙ c.store.ensures.answer)).0 (omega arith) (omega arith) room
    (c.store.ensures.stored ∙ ap (λ r. cond (is_ok r) (set xs c.in_ok-free.free.at c.holding-slot.result) xs) c.in-Err.is)

pub returns-in-Err-clause-stored : goal.returns-in-Err-clause-stored
returns-in-Err-clause-stored c =
    let xs = c.args.self.now.slots.now in
    c.store.ensures.stored ∙ ap (λ r. cond (is_ok r) (set xs c.in_ok-free.free.at c.holding-slot.result) xs) c.in-Err.is

pub returns-clause-step : goal.returns-clause-step
returns-clause-step c =
    let j = c.args.self.now in
    let xs = j.slots.now in
    let room = free-some xs c.vacancy.result c.ok_or.result c.in_ok-free.free c.vacancy.ensures c.ok_or.ensures.ok_part c.in_ok-free.was in
    subst (λ b. Appended (disk j.bound xs) c.args.section c.args.bytes.now (Ok tt) (disk b c.store.new.self.slots.now)) (sym c.store.ensures.same.1)
    (stored_step j.bound c.args.section c.args.bytes.now c.in_ok-free.free c.holding-slot.result xs c.store.new.self.slots.now (omega arith) (omega arith) room c.holding-slot.ensures
    (c.store.ensures.stored ∙ ap (λ r. cond (is_ok r) (set xs c.in_ok-free.free.at c.holding-slot.result) xs) c.in_default.is))

pub returns-clause-overruns : goal.returns-clause-overruns
returns-clause-overruns c =
    let xs = c.args.self.now.slots.now in
    let room = free-some xs c.vacancy.result c.ok_or.result c.in_ok-free.free c.vacancy.ensures c.ok_or.ensures.ok_part c.in_ok-free.was in
    ap over (c.store.ensures.stored ∙ ap (λ r. cond (is_ok r) (set xs c.in_ok-free.free.at c.holding-slot.result) xs) c.in_default.is)
    ∙ store-over c.args.section c.args.bytes.now c.in_ok-free.free c.holding-slot.result xs room c.holding-slot.ensures (omega arith)

pub returns-clause-stored : goal.returns-clause-stored
returns-clause-stored c =
    let xs = c.args.self.now.slots.now in
    let room = free-some xs c.vacancy.result c.ok_or.result c.in_ok-free.free c.vacancy.ensures c.ok_or.ensures.ok_part c.in_ok-free.was in
    storing c.args.section c.args.bytes.now c.in_ok-free.free c.holding-slot.result xs c.store.new.self.slots.now room c.holding-slot.ensures
    (c.store.ensures.stored ∙ ap (λ r. cond (is_ok r) (set xs c.in_ok-free.free.at c.holding-slot.result) xs) c.in_default.is)
