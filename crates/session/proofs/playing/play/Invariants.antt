use Rattle.std.specs.Io.Iter.{split_known_bytes, split_byte}
use Rattle.session.proofs.Onward.{Onward}
use Rattle.session.proofs.playing.play.Given as goal

abbrev pub invariant-loop-line : goal.invariant-loop-line
invariant-loop-line g l = Onward l.parted (split_byte l.line-iterator) (g.R.Read.remaining l.fn.input) l.initial.session (g.W.Write.contents l.initial.out) (split_known_bytes g.R.Read.remaining l.line-iterator) l.session (g.W.Write.contents l.out)
