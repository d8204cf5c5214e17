use Rattle.tags.specs.Tags.{signature_of}
use Rattle.tags.proofs.Words.{word-eight_bytes}
use Rattle.tags.proofs.word_of_signature_stands.Goals as goal

pub returns : goal.returns
unfolding signature_of
returns c = λ tag. word-eight_bytes tag _
