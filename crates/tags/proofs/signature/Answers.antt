use Rattle.tags.specs.Words.{eight_bytes}
use Rattle.tags.specs.Tags.{signature_of}
use Rattle.tags.proofs.signature.Goals as goal

pub returns : goal.returns
unfolding signature_of eight_bytes
returns c = cc
