-- What the words of a line say. Assumes nothing.
use Rattle.std.specs.Prelude.{ℕ, ◌+◌, cond, ◌||◌, List, [], ◌∷◌, length, is_some, Some, None, Ok, Err, codes, Option, Result, nat_lt}
use Rattle.std.specs.Str.{bytes_eq}
use Rattle.table.specs.Keys.{ahead}
use Rattle.table.specs.Rows.{at, put}
use Rattle.text.specs.Decimal.{number_of}
use Rattle.types.specs.Numbers.{height, participant, Height, Participant}
use Rattle.tip_commands.specs.declared.commands.Command.{Command}
use Rattle.tip_commands.specs.declared.commands.Command.TheVariants.{Signers, Tip}
use Rattle.tip_commands.specs.declared.faults.Fault.{Fault}
use Rattle.tip_commands.specs.declared.faults.Fault.TheVariants.{NoNumber, KeyCount, KeyTwice, TipWords}
use Rattle.tip_commands.specs.Order.{Seats}
use Rattle.tip_commands.specs.Sets.{seats_of}

-- how many numbers the words are, after n others; the place of the first that is none
abbrev pub tally : ℕ → List (List ℕ) → Result ℕ Fault
tally n [] = Ok n
tally n (w ∷ ws) = cond (is_some (number_of w)) (tally (n + 1) ws) (Err (NoNumber (n + 1)))

-- the keys of the words beside those of the seats, each with the tip 0; a key that stands twice is refused
abbrev pub enrol : Seats → List (List ℕ) → Result Seats Fault
enrol seats [] = Ok seats
enrol seats (w ∷ ws) =
    elim (number_of w) [
      | None ↦ Err (NoNumber (length seats + 1))
      | Some k ↦ cond (is_some (at ahead (participant k) seats)) (Err (KeyTwice (participant k))) (enrol (put ahead (participant k) (height 0) seats) ws)
    ]

-- the set of a `signers` line: all words are numbers, there are 2 to 16, and none stands twice
abbrev pub set_of : List (List ℕ) → Result Seats Fault
set_of ws =
    elim (tally 0 ws) [
      | Err e ↦ Err e
      | Ok n ↦ cond (nat_lt n 2 || nat_lt 16 n) (Err (KeyCount n)) (enrol [] ws)
    ]

-- what is said, with the set as its seats
pub data Said : Type 0 where
  signers : Seats → Said
  tells : Participant → Height → Said
  wrong : Fault → Said

abbrev pub said : Result Command Fault → Said
said (Ok (Signers s)) = signers (seats_of s)
said (Ok (Tip k h)) = tells k h
said (Err e) = wrong e

-- the key and the height of a `tip` line
abbrev pub tip_of : Option ℕ → Option ℕ → Said
tip_of None o = wrong (NoNumber 1)
tip_of (Some k) None = wrong (NoNumber 2)
tip_of (Some k) (Some h) = tells (participant k) (height h)

abbrev pub said_tip : List (List ℕ) → Said
said_tip [] = wrong (TipWords 0)
said_tip (k ∷ []) = wrong (TipWords 1)
said_tip (k ∷ (h ∷ [])) = tip_of (number_of k) (number_of h)
said_tip (k ∷ (h ∷ (w ∷ ws))) = wrong (TipWords (length ws + 3))

abbrev pub said_signers : Result Seats Fault → Said
said_signers (Ok seats) = signers seats
said_signers (Err e) = wrong e

-- what a line says, by its first word and those after it; nothing where the first word is another
abbrev pub command : List ℕ → List (List ℕ) → Option Said
command name ws =
    cond (bytes_eq name (codes "signers")) (Some (said_signers (set_of ws))) (cond (bytes_eq name (codes "tip")) (Some (said_tip ws)) None)
