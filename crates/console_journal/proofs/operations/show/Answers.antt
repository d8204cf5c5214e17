use Rattle.std.proofs.Common.{◌≡◌, Ok, Err, rules, sym, subst}
use Rattle.journal.specs.Log.{reading}
use Rattle.journal.specs.declared.stops.ReadStop.TheVariants.{Overrun as Overran}
use Rattle.console_journal.specs.declared.answers.Answer.TheVariants.{Read, Overrun}
use Rattle.console_journal.specs.Doing.{Shown}
use Rattle.console_journal.proofs.Showing.{shown_all, shown_part}
use Rattle.console_journal.proofs.operations.show.Goals as goal

pub returns-in_ok-lines-in-Ok : goal.returns-in_ok-lines-in-Ok
returns-in_ok-lines-in-Ok g c =
    let rs = reading (g.J.Journal.disk c.args.journal.now).log.sections in
    subst (λ t. Shown t rs (Ok (Read c.in_ok-lines-in-Ok.lines c.in_ok-lines-in-Ok.count))) (sym c.in-Ok.is)
    (shown_all rs c.in_ok-lines-in-Ok.lines c.in_ok-lines-in-Ok.count c.in_ok-lines-in-Ok.ensures.lines c.in_ok-lines-in-Ok.ensures.count)

pub returns-in_ok-lines-in-Err-Overrun : goal.returns-in_ok-lines-in-Err-Overrun
returns-in_ok-lines-in-Err-Overrun g c =
    let rs = reading (g.J.Journal.disk c.args.journal.now).log.sections in
    let told : c.args.done ≡ Err (Overran c.in-Err-Overrun.overrun) = search rules in
    subst (λ t. Shown t rs (Ok (Overrun c.in_ok-lines-in-Err-Overrun.lines c.in-Err-Overrun.overrun))) (sym told)
    (shown_part c.in-Err-Overrun.overrun rs c.in_ok-lines-in-Err-Overrun.lines c.in_ok-lines-in-Err-Overrun.ensures.lines)
