-- A line for this part.
use Rattle.std.proofs.Common.{Some, None, Option, Result}
use Rattle.fields.specs.Results.{result_map}
use Rattle.journal_commands.specs.Reading.{Said, said, IsRead}
use Rattle.journal_commands.specs.declared.commands.Command.{Command}
use Rattle.journal_commands.specs.declared.faults.Fault.{Fault}
use Rattle.console_journal.specs.Held.{Held}
use Rattle.console_journal.specs.Obeying.{Answered, Taken}
use Rattle.console_journal.specs.declared.answers.Answer.{Answer}
use Rattle.console_journal.specs.declared.answers.Refusal.{Refusal}

-- it was read, and what was read is done
pub taken : (meant : Option (Result Said Fault)) (c : Result Command Fault) (o : Option Held) (r : Result Answer Refusal) (p : Option Held) → IsRead meant (Some c)
    → Answered (result_map said c) o r p → Taken meant o (Some r) p
taken None c o r p i a = absurd i
taken (Some m) c o r p i a = (result_map said c, i, a)
