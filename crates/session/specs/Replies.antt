-- What is printed of a reply: a line, or nothing. Assumes nothing.
use Rattle.std.specs.Prelude.{ℕ, List, [], ◌++◌, Some, None, Ok, Err, codes, decimal, Option}
use Rattle.console.specs.Printed.{answer_line, refused_line}
use Rattle.console_journal.specs.Printed.{refusal_line}
use Rattle.std.specs.Fmt.{with_newline}
use Rattle.journal_commands.specs.Printed.{fault_text}
use Rattle.session.specs.declared.replies.Reply.{Reply}
use Rattle.session.specs.declared.replies.Reply.TheVariants.{Console, Opened, Words, NoText, NotOpened, NoJournal, NotKept}

-- of a reason that the system gives nothing is said here
abbrev pub reply_text : Reply → Option (List ℕ)
reply_text (Console (Ok None)) = Some []
reply_text (Console (Ok (Some a))) = with_newline (Some (answer_line a))
reply_text (Console (Err e)) = with_newline (Some (refused_line e))
reply_text (Opened path n) = with_newline (Some (codes "journal file " ++ (path.now ++ (codes ", " ++ (decimal n ++ codes " areas")))))
reply_text (Words e) = with_newline (Some (codes "refused: " ++ fault_text e))
reply_text NoText = with_newline (Some (codes "refused: the path is no text"))
reply_text (NoJournal e) = with_newline (Some (refusal_line e))
reply_text (NotOpened path e) = None
reply_text (NotKept e) = None
