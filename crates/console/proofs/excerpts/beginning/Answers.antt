use Rattle.std.proofs.Common.{sym, arith}
use Rattle.std.proofs.lemmas.List.{length-take-le, take_all}
use Rattle.console.proofs.excerpts.beginning.Goals as goal

pub slice_bounds-result-end : goal.slice_bounds-result-end
slice_bounds-result-end c = sym (length-take-le 32 c.args.word.now (omega (arith, c.if-word-gt32.true)))

pub returns-else-word-gt32 : goal.returns-else-word-gt32
returns-else-word-gt32 c = sym (take_all 32 c.args.word.now (omega (arith, c.if-word-gt32.false)))
