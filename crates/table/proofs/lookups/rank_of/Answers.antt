use Rattle.std.proofs.Common.{rules}
use Rattle.table.proofs.Facts.{reached_rank}
use Rattle.table.proofs.lookups.rank_of.Goals as goal

pub returns-clause-counted : goal.returns-clause-counted
returns-clause-counted g c = let e = reached_rank g.K.Key.less c.args.key.now c.args.rows.now c.ceiling.result c.ceiling.ensures in search rules
