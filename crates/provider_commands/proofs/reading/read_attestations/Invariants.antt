use Rattle.std.proofs.Common.{◌≡◌, [], map}
use Rattle.provider.specs.Values.{attested}
use Rattle.text.specs.Words.{words}
use Rattle.provider_commands.specs.Reading.{attestations_from}
use Rattle.provider_commands.proofs.reading.read_attestations.Given as goal

abbrev pub invariant-loop-word : goal.invariant-loop-word
invariant-loop-word l = attestations_from [] (words l.args) ≡ attestations_from (map attested l.attestations.items) l.word-iterator
