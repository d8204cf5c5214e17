use Rattle.std.proofs.Common.{◌∙◌, sym}
use Rattle.table.proofs.Facts.{reached_hit, reached_miss, reached_none}
use Rattle.table.proofs.lookups.position.Goals as goal

pub returns-in_err-i-clause-placed : goal.returns-in_err-i-clause-placed
returns-in_err-i-clause-placed g c = c.from_residual.ensures ∙ sym (reached_none g.K.Key.less c.args.key.now c.args.rows.now c.in_err-i.ensures)

pub returns-then-before-clause-placed : goal.returns-then-before-clause-placed
returns-then-before-clause-placed g c = sym (reached_miss g.K.Key.less c.args.key.now c.args.rows.now c.in_ok-i.i c.index-rows-i.result c.in_ok-i.ensures (sym c.if-before.ensures))

pub returns-else-before-clause-placed : goal.returns-else-before-clause-placed
returns-else-before-clause-placed g c = sym (reached_hit g.K.Key.less c.args.key.now c.args.rows.now c.in_ok-i.i c.index-rows-i.result c.in_ok-i.ensures (sym c.if-before.ensures))
