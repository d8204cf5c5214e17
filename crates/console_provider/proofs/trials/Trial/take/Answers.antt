use Rattle.std.proofs.Common.{◌∙◌}
use Rattle.provider_commands.specs.Reading.{said, command}
use Rattle.text.specs.Words.{words}
use Rattle.console_provider.proofs.Taking.{read_said, after_said, after_refused, taken_fault}
use Rattle.console_provider.specs.Trials.{held}
use Rattle.console_provider.proofs.trials.Trial.take.Goals as goal

pub returns-clause-trial : goal.returns-clause-trial
returns-clause-trial c =
    rw (read_said (command c.args.name.now (words c.args.args.now)) c.in_ok-command.field-0 c.in-Ok.command c.in-Ok.is c.in_ok-command.ensures)
    (c.obey.ensures.trial ∙ after_said (said c.in-Ok.command) (held c.args.self.now) c.obey.result)

pub returns-clause-answer : goal.returns-clause-answer
returns-clause-answer c =
    rw (read_said (command c.args.name.now (words c.args.args.now)) c.in_ok-command.field-0 c.in-Ok.command c.in-Ok.is c.in_ok-command.ensures)
    c.obey.ensures.answer

pub returns-in-Err-clause-trial : goal.returns-in-Err-clause-trial
returns-in-Err-clause-trial c = after_refused (command c.args.name.now (words c.args.args.now)) (held c.args.self.now) _

pub returns-in-Err-clause-answer : goal.returns-in-Err-clause-answer
returns-in-Err-clause-answer c =
    taken_fault (command c.args.name.now (words c.args.args.now)) c.in_ok-command.field-0 c.in-Err.fault (held c.args.self.now) c.in-Err.is c.in_ok-command.ensures
