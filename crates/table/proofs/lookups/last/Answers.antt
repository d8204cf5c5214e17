use Rattle.std.proofs.Common.{rules}
use Rattle.table.proofs.Edges.{last_is, last-greatest}
use Rattle.table.proofs.lookups.last.Goals as goal

pub returns-clause-entry : goal.returns-clause-entry
returns-clause-entry g c = let e = last_is c.args.rows.now in search rules

pub returns-clause-greatest : goal.returns-clause-greatest
returns-clause-greatest g c = λ s. let e = last_is c.args.rows.now in let l = last-greatest g.met.K.Key.order c.args.rows.now s in search rules
