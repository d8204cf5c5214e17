use Rattle.std.proofs.Common.{◌≡◌, ℕ, ◌+◌, List, Ok, Err, length, set, refl, ap, ◌∙◌, arith, rules, subst, sym}
use Rattle.area.specs.Edits.{Kept, put, begun}
use Rattle.area.proofs.Stores.{stopped_then, stored_then}
use Rattle.area.proofs.Puts.{kept_by, kept_set}
use Rattle.area.proofs.writes.store_head.Goals as goal

pub returns-in_err-store : goal.returns-in_err-store
returns-in_err-store c =
    let told : c.from_residual-in_err-store.result ≡ Err c.in_err-store.field-0.0 = search rules in
    let w = c.in_ok-store_all.ensures in
    let b = c.to_be_bytes.result in
    let n : length b ≡ 8 = ap length c.to_be_bytes.ensures in
    let old = c.args.area.now in
    let one = c.store_all.new.area in
    let kept = kept_by 1 1 b old one w.1 (omega arith) (omega arith) in
    let l = kept.len in
    rw told (stopped_then (length b) 1 10 1 (length one) old one (set one 9 0) (begun c.args.section old) c.store.new.area c.args.power.now c.store_all.new.power c.store.new.power c.in_err-store.field-0.0 (omega arith) w.0 kept (omega arith) c.in_err-store.ensures)

pub returns : goal.returns
unfolding begun
returns c =
    let w = c.in_ok-store_all.ensures in
    let v = c.in_ok-store.ensures in
    let b = c.to_be_bytes.result in
    let n : length b ≡ 8 = ap length c.to_be_bytes.ensures in
    let old = c.args.area.now in
    let one = c.store_all.new.area in
    let two = c.store.new.area in
    let p = c.args.power.now in
    let k = kept_by 1 1 b old one w.1 (omega arith) (omega arith) in
    let l = k.len in
    let kept : Kept 1 old two = subst (λ (a : List ℕ). Kept 1 old a) (sym v.1) (kept_set 1 9 0 old one (omega arith) k) in
    let m = kept.len in
    let u = stored_then (length b) 1 (length b + 1) 1 (length one) old one (set one 9 0) (set one 9 0) two p c.store_all.new.power c.store.new.power (Ok tt) refl w.0 k (omega arith) refl v in
    let whole : set two 0 1 ≡ begun c.args.section old = ap (λ a. set a 0 1) v.1 ∙ ap (λ a. set (set a 9 0) 0 1) w.1 ∙ ap (λ x. set (set (put 1 x old) 9 0) 0 1) c.to_be_bytes.ensures in
    stored_then (length b + 1) 1 10 1 (length two) old two (set two 0 1) (begun c.args.section old) c.store-2.new.area p c.store.new.power c.store-2.new.power c.store-2.result (omega arith) u.0 kept (omega arith) whole c.store-2.ensures
