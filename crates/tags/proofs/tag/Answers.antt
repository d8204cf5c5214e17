use Rattle.std.proofs.Common.{rules}
use Rattle.std.specs.Int.Bits.{xor_assoc}
use Rattle.tags.specs.Tags.{tag_of}
use Rattle.tags.proofs.Turns.{turned_is}
use Rattle.tags.proofs.tag.Goals as goal

pub returns : goal.returns
unfolding tag_of
returns c = let t = turned_is c.args.item.now.height.0 (search rules) in simp xor_assoc (cc)
