-- The lines that name a file. Assumes nothing.
use Rattle.std.specs.Prelude.{ℕ, cond, List, [], ◌∷◌, Some, None, Ok, Err, codes, Option, Result, ◌==◌}
use Rattle.std.specs.Str.{bytes_eq}
use Rattle.fields.specs.Fields.{word_in, number_in}
use Rattle.fields.specs.Lines.{Left, next, behind, ended}
use Rattle.fields.specs.Results.{and_then}
use Rattle.journal_commands.specs.declared.files.FileLine.{FileLine}
use Rattle.journal_commands.specs.declared.faults.Fault.{Fault}
use Rattle.journal_commands.specs.declared.faults.Fault.TheVariants.{NoAreas}
use Rattle.journal_commands.specs.Reading.{in_line}

-- the path of a file, and the number of areas where a new one is to be made
pub record Named : Type 0 where
  pub path : List ℕ
  pub areas : Option ℕ

abbrev pub named : FileLine → Named
named f = record { path = f.path.now; areas = f.areas }

-- the areas that the next word says, if there is one: 1 at least, and 1,024 at most
abbrev pub areas_of : Left → Result (Option ℕ) Fault
areas_of l =
    elim l.words [
      | [] ↦ Ok None
      | w ∷ ws ↦ and_then (in_line (number_in 1024 l.place w)) (λ n. cond (n == 0) (Err NoAreas) (Ok (Some n)))
    ]

-- a path, and behind it the areas of a new file
abbrev pub file_of : Left → Result Named Fault
file_of l = and_then (in_line (next word_in l)) (λ p. and_then (areas_of (behind l)) (λ o. in_line (ended (record { path = p; areas = o }) (behind (behind l)))))

-- the words behind `journal`; nothing where they speak of no file
abbrev pub file_args : List (List ℕ) → Option (Result Named Fault)
file_args [] = None
file_args (k ∷ ws) = cond (bytes_eq k (codes "file")) (Some (file_of (record { words = ws; place = 2 }))) None

-- what a line `journal file ..` says; nothing where it is another line
abbrev pub file_line : List (List ℕ) → Option (Result Named Fault)
file_line [] = None
file_line (v ∷ ws) = cond (bytes_eq v (codes "journal")) (file_args ws) None
