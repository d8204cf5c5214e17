use Rattle.std.proofs.Common.{◌≡◌, ◌+◌, ◌≤◌, [], length}
use Rattle.text.specs.Words.{words}
use Rattle.tip_commands.specs.Reading.{enrol}
use Rattle.tip_commands.specs.Sets.{seats_of}
use Rattle.tip_commands.proofs.reading.enrol.Given as goal

abbrev pub invariant-loop-word : goal.invariant-loop-word
invariant-loop-word l =
    (enrol [] (words l.fn.args) ≡ enrol (seats_of l.set) l.word-iterator) × (length (seats_of l.set) + length l.word-iterator ≤ 16)
