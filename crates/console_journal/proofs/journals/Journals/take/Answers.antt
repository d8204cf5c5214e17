use Rattle.std.proofs.Common.{subst}
use Rattle.text.specs.Words.{words}
use Rattle.journal_commands.specs.Reading.{command, IsRead}
use Rattle.console_journal.specs.Obeying.{held}
use Rattle.console_journal.proofs.Taking.{taken}
use Rattle.console_journal.proofs.journals.Journals.take.Goals as goal

pub returns : goal.returns
returns c =
    let meant = command c.args.name.now (words c.args.args.now) in
    taken meant c.in_ok-command.command (held c.args.self.now) c.answer.result (held c.answer.new.self) (subst (IsRead meant) c.in_ok-command.was c.read.ensures) c.answer.ensures
