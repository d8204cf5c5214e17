use Rattle.std.proofs.Common.{rules}
use Rattle.std.specs.Io.Iter.{split_byte, split_known_bytes}
use Rattle.session.proofs.Onward.{onward, played, on_ok}
use Rattle.session.proofs.playing.play.Goals as goal

pub loop-line-preserved : goal.loop-line-preserved
loop-line-preserved g c =
    onward c.args.parted (split_byte c.loop-line.line-iterator) _ _ _ (split_known_bytes g.R.Read.remaining c.loop-line.line-iterator) (split_known_bytes g.R.Read.remaining c.next.new.self)
    c.loop-line.session c.turn.new.session (g.W.Write.contents c.loop-line.out) (g.W.Write.contents c.turn.new.out) c.deref.result.now c.loop-line.invariant (search rules) (search rules)
    c.in_ok-turn.ensures (split_byte c.next.new.self) (search rules)

pub returns : goal.returns
returns g c =
    on_ok c.end.result _ _
    (λ closes. played c.args.parted (split_byte c.loop-line.line-iterator) _ _ _ (split_known_bytes g.R.Read.remaining c.loop-line.line-iterator) c.loop-line.session (g.W.Write.contents c.loop-line.out) _
    c.loop-line.invariant (search rules) c.new-session.ensures closes)
    c.end.ensures
