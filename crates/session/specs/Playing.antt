-- Lines that are answered one after the other. Assumes nothing.
use Rattle.std.specs.Prelude.{ℕ, ◌<◌, Bool, ◌&&◌, List, [], ◌∷◌, ◌++◌, length, Option, MatchBool, codes}
use Rattle.std.specs.Io.BufRead.{first_piece, drop_through}
use Rattle.std.specs.Io.KnownBytes.{Appends}
use Rattle.std.specs.Str.{bytes_eq}
use Rattle.console.specs.Printed.{summary_line}
use Rattle.console.specs.declared.summaries.Summary.{Summary}
use Rattle.session.specs.Sessions.{IsFresh, Sums, Answers}
use Rattle.session.specs.declared.sessions.Session.{Session}

-- a session ends: its summary is printed
abbrev pub Closes : Session → Option (List ℕ) → Option (List ℕ) → Type 0
Closes s printed after = (m : Summary) × Sums s m × Appends printed after (summary_line m ++ 10 ∷ [])

-- what a line does to a session, and to what is printed: where they are parted, a line `new` ends the session and begins another
abbrev pub Turns : Bool → List ℕ → Session → Option (List ℕ) → Session → Option (List ℕ) → Type 0
Turns parted line old printed new after = MatchBool (parted && bytes_eq line (codes "new")) (Closes old printed after × IsFresh new) (Answers line old new printed after)

-- the lines of these bytes, one after the other, each ended by a byte 10 but for the last
pub data Plays : Bool → List ℕ → Session → Option (List ℕ) → Session → Option (List ℕ) → Type 0 where
  ended : (parted : Bool) (s : Session) (p : Option (List ℕ)) → Plays parted [] s p s p
  turned : (parted : Bool) (bytes : List ℕ) (s t u : Session) (p q r : Option (List ℕ)) → 0 < length bytes → Turns parted (first_piece 10 bytes) s p t q → Plays parted (drop_through 10 bytes) t q u r → Plays parted bytes s p u r

-- all lines of these bytes from a new session on, and the summary of the last
abbrev pub PlaysAll : Bool → List ℕ → Option (List ℕ) → Option (List ℕ) → Type 0
PlaysAll parted bytes printed after = (s u : Session) × (p : Option (List ℕ)) × IsFresh s × Plays parted bytes s printed u p × Closes u p after
