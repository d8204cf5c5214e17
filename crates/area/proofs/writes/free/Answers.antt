use Rattle.std.proofs.Common.{◌<◌, length, sym, arith}
use Rattle.std.proofs.lemmas.Bool.{eqb-false}
use Rattle.area.proofs.Heads.{freed_from}
use Rattle.area.proofs.writes.free.Goals as goal

pub returns : goal.returns
returns c =
    let n = eqb-false (length c.args.area.now) 0 (sym c.if-is_empty.ensures) in
    let l : 0 < length c.args.area.now = omega arith in
    freed_from c.args.area.now c.store.new.area c.args.power.now c.store.new.power c.store.result l c.store.ensures
