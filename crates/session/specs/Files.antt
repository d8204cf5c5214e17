-- A file that a journal is kept in. Assumes nothing.
use Rattle.std.specs.Prelude.{ℕ, List, vec_items}
use Rattle.session.specs.declared.journal_file.JournalFile.{JournalFile}

-- what was read from the file, or written to it last; what a disk makes of that no clause says
abbrev pub bytes_of : JournalFile → List ℕ
bytes_of f = vec_items f.held
