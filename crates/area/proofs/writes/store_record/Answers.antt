use Rattle.std.proofs.Common.{◌+◌, length, set, ap, arith}
use Rattle.area.specs.Edits.{added}
use Rattle.area.proofs.Stores.{stored_then}
use Rattle.area.proofs.Puts.{framed_kept}
use Rattle.area.proofs.writes.store_record.Goals as goal

pub returns : goal.returns
unfolding added
returns c =
    let n = length c.args.body.now in
    let e = c.args.end in
    let old = c.args.area.now in
    let one = c.store_frame.new.area in
    let w = c.in_ok-store_frame.ensures in
    let kept = framed_kept old one c.args.body.now e c.requires.fits w.1 in
    let l = kept.len in
    let f = c.requires.fits in
    stored_then (n + 3) 1 (n + 4) (e + 1) (length one) old one (set one e 1) (added e c.args.body.now old) c.store.new.area c.args.power.now c.store_frame.new.power c.store.new.power c.store.result (omega arith) w.0
    kept (omega arith) (ap (λ a. set a e 1) w.1) c.store.ensures
