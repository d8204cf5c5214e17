use Rattle.std.proofs.Common.{sym, ap, ◌∙◌, take}
use Rattle.table.proofs.Facts.{without-absent}
use Rattle.table.proofs.tables.Table.remove.Goals as goal

pub returns-in_err-old-clause-rows : goal.returns-in_err-old-clause-rows
returns-in_err-old-clause-rows g c =
    let e = c.in_err-old.ensures.entries in
    ap (take c.args.self.now.used) e.1 ∙ sym (without-absent g.K.Key.less c.args.key.now (take c.args.self.now.used c.args.self.now.entries) e.0)
