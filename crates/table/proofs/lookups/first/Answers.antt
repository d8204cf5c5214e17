use Rattle.std.proofs.Common.{rules}
use Rattle.table.proofs.Edges.{front_is, front-least}
use Rattle.table.proofs.lookups.first.Goals as goal

pub returns-clause-entry : goal.returns-clause-entry
returns-clause-entry g c = let e = front_is c.args.rows.now in search rules

pub returns-clause-least : goal.returns-clause-least
returns-clause-least g c = λ s. let e = front_is c.args.rows.now in let l = front-least g.met.K.Key.order c.args.rows.now s in search rules
