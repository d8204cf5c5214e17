-- What a command does to the seats, and what is answered. Assumes nothing.
use Rattle.std.specs.Prelude.{Bool, cond, [], ◌∷◌, length, Some, None, Option, Ok, Err, Result, ◌==◌, nat_lt}
use Rattle.table.specs.Keys.{ahead}
use Rattle.table.specs.Rows.{at}
use Rattle.tip_commands.specs.Order.{Seats}
use Rattle.tip_commands.specs.Reading.{Said, signers, tells, wrong}
use Rattle.tip_commands.specs.Sets.{keys_of}
use Rattle.tips.specs.Faults.{faults, quorum}
use Rattle.tips.specs.Ranks.{Safe}
use Rattle.tips.specs.Seats.{opened, reseated, seated_after, lower_than, tips_of}
use Rattle.types.specs.Numbers.{height, Height}
use Rattle.console_tips.specs.declared.answers.Answer.{Answer}
use Rattle.console_tips.specs.declared.answers.Answer.TheVariants.{Seated, Counted, NotCounted}
use Rattle.console_tips.specs.declared.answers.Refusal.{Refusal}
use Rattle.console_tips.specs.declared.answers.Refusal.TheVariants.{Words, Size, NoSigners}

-- whether a set can sit: the first one where it has a key, a later one where it has as many as there are seats
abbrev pub fits : Seats → Seats → Bool
fits set [] = nat_lt 0 (length set)
fits set (s ∷ seats) = (length set) == length (s ∷ seats)

-- the seats once a set sits: the keys of the first one with the tip 0; of a later one, stayers with their own tips and joiners with 0
abbrev pub sat : Seats → Seats → Seats
sat set [] = opened (keys_of set)
sat set (s ∷ seats) = reseated ahead (keys_of set) (s ∷ seats)

-- the seats after a command
abbrev pub after : Said → Seats → Seats
after (signers set) seats = cond (fits set seats) (sat set seats) seats
after (tells k h) seats = seated_after ahead k h (lower_than h (at ahead k seats)) seats
after (wrong e) seats = seats

-- a tip counts in place of a lower one
abbrev pub told : Option Height → Height → Answer
told None t = NotCounted t
told (Some was) t = Counted was t

-- the answer to a command, where t is the safe tip after it; what is refused changes nothing
abbrev pub answer : Said → Seats → Height → Result Answer Refusal
answer (signers set) seats t =
    cond (fits set seats) (Ok (Seated (length set) (faults (length set)) (quorum (length set)) t)) (Err (Size (record { seats = length seats; keys = length set })))
answer (tells k h) [] t = Err NoSigners
answer (tells k h) (s ∷ seats) t = Ok (told (lower_than h (at ahead k (s ∷ seats))) t)
answer (wrong e) seats t = Err (Words e)

-- the safe tip that an answer shows
abbrev pub tip_in : Answer → Height
tip_in (Seated n f q t) = t
tip_in (Counted was t) = t
tip_in (NotCounted t) = t

-- the same of what a command answers, if it shows one
abbrev pub shown_tip : Result Answer Refusal → Height
shown_tip (Ok a) = tip_in a
shown_tip (Err e) = height 0

-- it is that of the seats
abbrev pub Shows : Seats → Result Answer Refusal → Type 0
Shows seats (Ok a) = Safe (tips_of seats) (tip_in a).0
Shows seats (Err e) = Unit {0}
