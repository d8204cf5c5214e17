use Rattle.std.proofs.Common.{◌≡◌, ◌+◌, ◌/◌, ◌%◌, Ok, Err, length, set, refl, arith, rules}
use Rattle.area.specs.Edits.{put, framed}
use Rattle.area.proofs.Stores.{stopped_then, stored_then}
use Rattle.area.proofs.Puts.{head-kept, body_kept, frame_whole}
use Rattle.area.proofs.writes.store_frame.Goals as goal

pub returns-in_err-store_all-2 : goal.returns-in_err-store_all-2
returns-in_err-store_all-2 c =
    let told : c.from_residual-in_err-store_all-2.result ≡ Err c.in_err-store_all-2.field-0.0 = search rules in
    let n = length c.args.body.now in
    let w = rw c.to_be_bytes.ensures at c.in_ok-store_all.ensures in
    rw told (stopped_then 2 n (n + 3) (c.args.end + 1) (c.args.end + 3) c.args.area.now c.store_all.new.area (put (c.args.end + 3) c.args.body.now c.store_all.new.area) (put (c.args.end + 1) (framed c.args.body.now) c.args.area.now) c.store_all-2.new.area c.args.power.now c.store_all.new.power c.store_all-2.new.power c.in_err-store_all-2.field-0.0 (omega arith) w.0
    (head-kept c.args.area.now c.store_all.new.area c.args.end (n / 256 % 256) (n % 256) (omega arith) w.1) (omega arith) c.in_err-store_all-2.ensures)

pub returns : goal.returns
returns c =
    let n = length c.args.body.now in
    let e = c.args.end in
    let old = c.args.area.now in
    let one = c.store_all.new.area in
    let two = c.store_all-2.new.area in
    let p = c.args.power.now in
    let w = rw c.to_be_bytes.ensures at c.in_ok-store_all.ensures in
    let v = c.in_ok-store_all-2.ensures in
    let k = head-kept old one e (n / 256 % 256) (n % 256) (omega arith) w.1 in
    let b = stored_then 2 n (2 + n) (e + 1) (e + 3) old one (put (e + 3) c.args.body.now one) (put (e + 3) c.args.body.now one) two p c.store_all.new.power c.store_all-2.new.power (Ok tt) refl w.0 k (omega arith) refl v in
    let kept = body_kept old one e (n / 256 % 256) (n % 256) (omega arith) w.1 c.args.body.now two (omega arith) v.1 in
    let l = kept.len in
    stored_then (2 + n) 1 (n + 3) (e + 1) (length two) old two (set two (e + 3 + n) 0) (put (e + 1) (framed c.args.body.now) old) c.store.new.area p c.store_all-2.new.power c.store.new.power c.store.result (omega arith) b.0
    kept (omega arith) (frame_whole old one two c.args.body.now e (omega arith) w.1 v.1) c.store.ensures
