-- What a word spells at its place in a line, or what is wrong with it. Assumes nothing.
use Rattle.std.specs.Prelude.{ℕ, cond, List, length, Some, None, Ok, Err, Option, Result, ◌==◌, nat_le}
use Rattle.text.specs.Decimal.{number_of}
use Rattle.text.specs.Hex.{bytes_of}
use Rattle.fields.specs.declared.faults.Fault.{Fault}
use Rattle.fields.specs.declared.faults.Fault.TheVariants.{NoNumber, NoHex, Length, Long}
use Rattle.fields.specs.Results.{and_then}

-- the word itself
abbrev pub word_in : ℕ → List ℕ → Result (List ℕ) Fault
word_in place word = Ok word

abbrev pub up_to : ℕ → ℕ → Option ℕ → Result ℕ Fault
up_to most place None = Err (NoNumber place most)
up_to most place (Some n) = cond (nat_le n most) (Ok n) (Err (NoNumber place most))

-- a number up to `most`
abbrev pub number_in : ℕ → ℕ → List ℕ → Result ℕ Fault
number_in most place word = up_to most place (number_of word)

abbrev pub found : ℕ → Option (List ℕ) → Result (List ℕ) Fault
found place None = Err (NoHex place)
found place (Some bs) = Ok bs

-- bytes
abbrev pub bytes_in : ℕ → List ℕ → Result (List ℕ) Fault
bytes_in place word = found place (bytes_of word)

-- n bytes
abbrev pub array_in : ℕ → ℕ → List ℕ → Result (List ℕ) Fault
array_in n place word = and_then (bytes_in place word) (λ bs. cond (length bs == n) (Ok bs) (Err (Length place (length bs) n)))

-- bytes, `most` at most
abbrev pub few_bytes_in : ℕ → ℕ → List ℕ → Result (List ℕ) Fault
few_bytes_in most place word = and_then (bytes_in place word) (λ bs. cond (nat_le (length bs) most) (Ok bs) (Err (Long place (length bs) most)))
