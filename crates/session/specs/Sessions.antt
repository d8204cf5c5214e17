-- What a line does to a session. Assumes nothing.
use Rattle.std.specs.Prelude.{◌≡◌, ℕ, true, false, List, [], length, Some, None, Ok, Err, Option, Result, IsSome, IfSome, MatchOption}
use Rattle.std.specs.Option.{option_map}
use Rattle.console.specs.Counters.{none, counted_in, with_line, with_refusal}
use Rattle.console.specs.Heard.{heard, after, Replied, Journaled}
use Rattle.console.specs.States.{first, state_of}
use Rattle.console.specs.declared.answers.Answer.{Answer}
use Rattle.console.specs.declared.consoles.Console.{Console}
use Rattle.console.specs.declared.refusals.Refused.{Refused}
use Rattle.console.specs.declared.summaries.Summary.{Summary}
use Rattle.console_journal.specs.Obeying.{held, kept_bytes, areas_in, Loads}
use Rattle.console_tips.specs.Boards.{sitting}
use Rattle.tips.specs.Ranks.{Safe}
use Rattle.tips.specs.Seats.{tips_of}
use Rattle.journal_commands.specs.Files.{Named, file_line}
use Rattle.journal_commands.specs.declared.faults.Fault.{Fault}
use Rattle.std.specs.Io.KnownBytes.{Appends}
use Rattle.text.specs.Words.{words}
use Rattle.session.specs.Files.{bytes_of}
use Rattle.session.specs.Replies.{reply_text}
use Rattle.session.specs.declared.replies.Reply.{Reply}
use Rattle.session.specs.declared.replies.Reply.TheVariants.{Console as OfConsole, Opened, Words, NoText, NotOpened, NoJournal, NotKept}
use Rattle.session.specs.declared.sessions.Session.{Session}

-- a session that has seen nothing
pub record IsFresh (s : Session) : Type 0 where
  pub console : state_of s.console.parts ≡ first
  pub journal : held s.console.parts.journals ≡ None
  pub counts : s.console.counts ≡ none
  pub file : s.file ≡ None

-- what a session has seen so far
pub record Sums (s : Session) (m : Summary) : Type 0 where
  pub counts : m.counts ≡ s.console.counts
  pub tip : MatchOption m.safe_tip (sitting s.console.parts.board ≡ []) (λ t. Safe (tips_of (sitting s.console.parts.board)) t.0)

-- what the file of a session holds, if its journal is kept in one
abbrev pub file_bytes : Session → Option (List ℕ)
file_bytes s = option_map bytes_of s.file

-- there is a file exactly where the journal came from one, and it holds what the journal is
abbrev pub IsInStep : Session → Type 0
IsInStep s = file_bytes s ≡ kept_bytes (held s.console.parts.journals)

-- the console takes a line, and replies r: what its contract says
pub record Takes (line : List ℕ) (old new : Console) (r : Result (Option Answer) Refused) : Type 0 where
  pub state : state_of new.parts ≡ after (heard line) r (state_of old.parts)
  pub reply : Replied (heard line) (state_of old.parts) (state_of new.parts) r
  pub journal : Journaled (heard line) (held old.parts.journals) (held new.parts.journals) r
  pub counts : new.counts ≡ counted_in r old.counts

-- a journal that was taken from the console; its last line was refused after all
pub record Loses (old new : Console) : Type 0 where
  pub journal : held new.parts.journals ≡ None
  pub state : state_of new.parts ≡ state_of old.parts
  pub counts : new.counts ≡ with_refusal old.counts

-- a line for the console is replied to by the console, unless what it made of the journal cannot be kept
abbrev pub ByConsole : List ℕ → Session → Reply → Session → Type 0
ByConsole line old (OfConsole r) new = Takes line old.console new.console r
ByConsole line old (NotKept e) new = IsSome old.file × (new.file ≡ None) × ((r : Result (Option Answer) Refused) × (c : Console) × Takes line old.console c r × Loses c new.console)
ByConsole line old other new = ⊥

-- a line that is refused before it comes to the console is counted, and changes nothing else
pub record Refuses (old new : Session) : Type 0 where
  pub file : new.file ≡ old.file
  pub journal : held new.console.parts.journals ≡ held old.console.parts.journals
  pub state : state_of new.console.parts ≡ state_of old.console.parts
  pub counts : new.console.counts ≡ with_line true old.console.counts

-- the journal in a file is opened, and has n areas: those that the file holds
pub record Opens (old new : Session) (n : ℕ) : Type 0 where
  pub journal : MatchOption (file_bytes new) ⊥ (λ bs. Loads bs (areas_in (length bs)) (held old.console.parts.journals) (Ok n) (held new.console.parts.journals))
  pub state : state_of new.console.parts ≡ state_of old.console.parts
  pub counts : new.console.counts ≡ with_line false old.console.counts

-- a line that names a file opens the journal in it, or is refused
abbrev pub ByFile : Result Named Fault → Session → Reply → Session → Type 0
ByFile (Ok m) old (Opened path n) new = (path.now ≡ m.path) × Opens old new n
ByFile (Ok m) old NoText new = Refuses old new
ByFile (Ok m) old (NotOpened path e) new = (path.now ≡ m.path) × Refuses old new
ByFile (Ok m) old (NoJournal e) new = Refuses old new
ByFile (Err e) old (Words x) new = (x ≡ e) × Refuses old new
ByFile m old r new = ⊥

-- what a line does, and what is replied: the console takes every line that names no file
abbrev pub Does : Option (Result Named Fault) → List ℕ → Session → Reply → Session → Type 0
Does None line old r new = ByConsole line old r new
Does (Some m) line old r new = ByFile m old r new

-- a line is answered: the text of what is replied is printed, where it is said what that is
abbrev pub Answers : List ℕ → Session → Session → Option (List ℕ) → Option (List ℕ) → Type 0
Answers line old new printed after = (r : Reply) × Does (file_line (words line)) line old r new × IfSome (reply_text r) (Appends printed after)
