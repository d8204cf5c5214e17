use Rattle.std.proofs.Common.{◌≡◌, ◌^◌, ◌<◌, drop}
use Rattle.text.specs.Decimal.{number_after}
use Rattle.text.proofs.decimal.number.Given as goal

abbrev pub invariant-loop-byte : goal.invariant-loop-byte
invariant-loop-byte l = (number_after 0 l.word ≡ number_after l.value (drop l.byte-index l.word)) × (l.value < 2 ^ 64)
