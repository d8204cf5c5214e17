use Rattle.std.proofs.Common.{◌-◌, ◌≤◌, length, get_or, Some, None, sym, subst, arith}
use borrow.Rule.Slice.PartMut.{put_mid}
use Rattle.table.specs.Updates.{Removed}
use Rattle.table.proofs.Changes.{drawn, absent, removed_clamped}
use Rattle.table.proofs.Maps.{removed_sorted, removed_map}
use Rattle.table.proofs.updates.remove.Goals as goal

pub returns : goal.returns
returns g c =
    let o = g.met.K.Key.order in
    let k = c.args.key.now in
    let es = c.args.entries.now in
    let n = c.min-n.result in
    let i = c.in_ok-i.i in
    let d = c.index-entries-i.result in
    let fits : n ≤ length es = omega arith in
    let new = put_mid i (n - i) es c.rotate_left.new.self in
    let left = removed_clamped g.K.Key.less k c.args.used n es new c.min-n.ensures (Some (get_or es i d).value)
    (drawn o k es n fits i d c.rotate_left.new.self (sym c.in_ok-i.ensures.placed) c.rotate_left.ensures.after) in
    record { entries = left; sorted = removed_sorted o k c.args.used es new (Some (get_or es i d).value) left; map = removed_map o k c.args.used es new (Some (get_or es i d).value) left }

pub returns-in_err-i : goal.returns-in_err-i
returns-in_err-i g c =
    let o = g.met.K.Key.order in
    let k = c.args.key.now in
    let es = c.args.entries.now in
    let n = c.min-n.result in
    let fits : n ≤ length es = omega arith in
    let r = c.from_residual.result in
    let left = subst (Removed g.K.Key.less k c.args.used es es) (sym c.from_residual.ensures) (removed_clamped g.K.Key.less k c.args.used n es es c.min-n.ensures None (absent o k es n fits (sym c.in_err-i.ensures.placed))) in
    record { entries = left; sorted = removed_sorted o k c.args.used es es r left; map = removed_map o k c.args.used es es r left }
