use Rattle.std.proofs.Common.{◌≡◌, ◌+◌, ◌≤◌, length}
use Rattle.text.specs.Words.{words}
use Rattle.tip_commands.specs.Reading.{tally}
use Rattle.tip_commands.proofs.reading.count_numbers.Given as goal

abbrev pub invariant-loop-word : goal.invariant-loop-word
invariant-loop-word l =
    (tally 0 (words l.fn.args) ≡ tally l.count l.word-iterator) × (l.count + length l.word-iterator ≡ length (words l.fn.args)) × (l.count + length l.word-iterator ≤ length l.fn.args)
