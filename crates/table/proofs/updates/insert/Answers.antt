use Rattle.std.proofs.Common.{◌+◌, ◌-◌, ◌≤◌, length, get_or, take, set, Some, None, Ok, Err, sym, arith}
use borrow.Rule.Slice.PartMut.{put_mid}
use Rattle.table.specs.Rows.{entry}
use Rattle.table.proofs.Facts.{Miss}
use Rattle.table.proofs.Changes.{ranked, replaced, full, added, missed_at, missed_past, inserted_clamped}
use Rattle.table.proofs.Maps.{inserted_sorted, inserted-map}
use Rattle.table.proofs.updates.insert.Goals as goal
use Rattle.table.proofs.updates.insert.Goals.{else-i-n-via-then-i-n+else-not-before, else-i-n-via-else-i-n}

pub returns-then-not-before : goal.returns-then-not-before
returns-then-not-before g c =
    let o = g.met.K.Key.order in
    let es = c.args.entries.now in
    let n = c.min-n.result in
    let i = c.rank_of-i.result in
    let fits : n ≤ length es = omega arith in
    let d = c.index-entries-i-then-not-before.result in
    let w = c.index-entries-i-then-not-before-2.result in
    let new = set es i (entry (get_or es i w).key c.args.value) in
    let left = inserted_clamped g.K.Key.less c.args.key c.args.used n es new c.min-n.ensures c.args.value (Ok (Some (get_or es i d).value))
    (replaced o c.args.key es n fits c.args.value i d w c.index-entries-i.result
    (ranked o c.args.key es n fits i c.rank_of-i.ensures.counted) (omega arith) (sym c.if-not-before.ensures)) in
    record {
      entries = left;
      sorted = inserted_sorted o c.args.key c.args.value c.args.used es new (Ok (Some (get_or es i d).value)) left;
      map = λ _. inserted-map o c.args.key c.args.value c.args.used es new (Ok (Some (get_or es i d).value)) left;
    }

pub returns-then-n-entries : goal.returns-then-n-entries
returns-then-n-entries g c =
    let o = g.met.K.Key.order in
    let es = c.args.entries.now in
    let n = c.min-n.result in
    let fits : n ≤ length es = omega arith in
    let m : Miss g.K.Key.less c.args.key (take n es) = elim c.else-i-n.branch [
      | else-i-n-via-then-i-n+else-not-before w ↦ missed_at o c.args.key es n fits c.rank_of-i.result w.index-entries-i.result c.rank_of-i.ensures.counted w.if-i-n.true (sym w.if-not-before.ensures)
      | else-i-n-via-else-i-n w ↦ missed_past o c.args.key es n fits c.rank_of-i.result c.rank_of-i.ensures.counted w.if-i-n.false
    ] in
    let left = inserted_clamped g.K.Key.less c.args.key c.args.used n es es c.min-n.ensures c.args.value (Err (record {})) (full o c.args.key es n fits c.args.value c.if-n-entries.true m) in
    record {
      entries = left;
      sorted = inserted_sorted o c.args.key c.args.value c.args.used es es (Err (record {})) left;
      map = λ _. inserted-map o c.args.key c.args.value c.args.used es es (Err (record {})) left;
    }

pub returns : goal.returns
returns g c =
    let o = g.met.K.Key.order in
    let es = c.args.entries.now in
    let n = c.min-n.result in
    let i = c.rank_of-i.result in
    let fits : n ≤ length es = omega arith in
    let m : Miss g.K.Key.less c.args.key (take n es) = elim c.else-i-n.branch [
      | else-i-n-via-then-i-n+else-not-before w ↦ missed_at o c.args.key es n fits i w.index-entries-i.result c.rank_of-i.ensures.counted w.if-i-n.true (sym w.if-not-before.ensures)
      | else-i-n-via-else-i-n w ↦ missed_past o c.args.key es n fits i c.rank_of-i.ensures.counted w.if-i-n.false
    ] in
    let new = put_mid i (n + 1 - i) (set es n (entry c.args.key c.args.value)) c.rotate_right.new.self in
    let left = inserted_clamped g.K.Key.less c.args.key c.args.used n es new c.min-n.ensures c.args.value (Ok None)
    (added o c.args.key es n fits c.args.value i c.rotate_right.new.self
    (ranked o c.args.key es n fits i c.rank_of-i.ensures.counted) (omega arith) m c.rotate_right.ensures.after) in
    record {
      entries = left;
      sorted = inserted_sorted o c.args.key c.args.value c.args.used es new (Ok None) left;
      map = λ _. inserted-map o c.args.key c.args.value c.args.used es new (Ok None) left;
    }
