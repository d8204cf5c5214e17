use Rattle.std.proofs.Common.{◌≡◌, []}
use Rattle.provider.specs.Values.{key_bytes}
use Rattle.text.specs.Words.{words}
use Rattle.provider_commands.specs.Reading.{keys_from}
use Rattle.provider_commands.proofs.reading.read_keys.Given as goal

abbrev pub invariant-loop-word : goal.invariant-loop-word
invariant-loop-word l = keys_from [] (words l.args) ≡ keys_from (key_bytes l.keys.items) l.word-iterator
