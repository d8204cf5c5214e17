-- The words of a line, taken one by one. Assumes nothing.
use Rattle.std.specs.Prelude.{ℕ, ◌+◌, List, [], ◌∷◌, Ok, Err, Result}
use Rattle.fields.specs.declared.faults.Fault.{Fault}
use Rattle.fields.specs.declared.faults.Fault.TheVariants.{Missing, TooMany}
use Rattle.fields.specs.Results.{and_then}

-- the words that are left of a line, and the place of the first, counted from 1 behind the command
pub record Left : Type 0 where
  pub words : List (List ℕ)
  pub place : ℕ

-- no word is taken yet
abbrev pub line_of : List (List ℕ) → Left
line_of ws = record { words = ws; place = 1 }

-- what is left behind the next word
abbrev pub behind : Left → Left
behind l =
    elim l.words [
      | [] ↦ l
      | w ∷ ws ↦ record { words = ws; place = l.place + 1 }
    ]

-- the next word, read at its place
abbrev pub next : {A : Type 0} → (ℕ → List ℕ → Result A Fault) → Left → Result A Fault
next read l =
    elim l.words [
      | [] ↦ Err (Missing l.place)
      | w ∷ ws ↦ read l.place w
    ]

-- the next word, and then those behind it
abbrev pub bind : {A B : Type 0} → (ℕ → List ℕ → Result A Fault) → (A → Left → Result B Fault) → Left → Result B Fault
bind read f l = and_then (next read l) (λ a. f a (behind l))

-- no word is left
abbrev pub ended : {A : Type 0} → A → Left → Result A Fault
ended a l =
    elim l.words [
      | [] ↦ Ok a
      | w ∷ ws ↦ Err (TooMany l.place)
    ]
