use Rattle.std.proofs.Common.{◌≡◌, true, length, arith, rules}
use Rattle.area.specs.Area.{end_of, area_of, fits}
use Rattle.area.proofs.Heads.{appended_from}
use Rattle.area.proofs.Room.{from-room}
use Rattle.area.proofs.writes.append.Goals as goal

pub store_record-requires : goal.store_record-requires
store_record-requires c =
    let e : (fits (length c.args.area.now) (area_of c.args.area.now) (length c.args.body.now) ≡ true) × (c.in_ok-end.end ≡ end_of c.args.area.now) = search rules in
    let r = from-room c.args.area.now (length c.args.body.now) e.0 in
    let i = r.inside in
    record { fits = omega (arith, e.1); short = r.short }

pub returns : goal.returns
returns c =
    let e : (fits (length c.args.area.now) (area_of c.args.area.now) (length c.args.body.now) ≡ true) × (c.in_ok-end.end ≡ end_of c.args.area.now) = search rules in
    appended_from c.args.area.now c.args.body.now c.store_record.new.area c.args.power.now c.store_record.new.power c.in_ok-end.end c.store_record.result e.0 e.1 c.store_record.ensures
