use Rattle.std.proofs.Common.{rules}
use Rattle.table.proofs.Facts.{at_some, at_none}
use Rattle.table.proofs.lookups.lookup.Goals as goal

pub returns : goal.returns
returns g c = let p = c.in_ok-i.ensures.placed in search (rules, at_some)

pub returns-in_err-i : goal.returns-in_err-i
returns-in_err-i g c = let p = c.in_err-i.ensures.placed in search (rules, at_none)
