use Rattle.std.proofs.Common.{◌≡◌, ◌≤◌, length, sym, subst, arith}
use Rattle.table.specs.Rows.{Sorted}
use Rattle.tips.specs.Seats.{carried}
use Rattle.tips.specs.Tips.{Holds}
use Rattle.tips.proofs.Keyed.{sorted_seated}
use Rattle.tips.proofs.Opening.{passes}
use Rattle.tips.proofs.Reseating.{recorded, reconciled}
use Rattle.tips.proofs.safe_tip.SafeTip.reconcile.Goals as goal

pub returns : goal.returns
returns g c =
    let keys = c.args.keys.now in
    let seats = c.args.seats.now in
    let few : length keys ≤ 16 = omega arith in
    let sized : length keys ≡ length seats = c.if-n-seats.false in
    let is = c.change.ensures in
    record {
      answer = passes (length seats) (length keys) few sized;
      seats = is;
      kept = tt;
      holds = λ so up h. subst (λ l. Holds l c.lower_leavers.new.self) (sym is) (reconciled g.met.K.Key.order keys seats c.lower_leavers.new.self up so sized (c.lower_leavers.ensures (recorded seats c.args.self.now h)));
      sorted = λ _ up. subst (Sorted g.K.Key.less) (sym is) (sorted_seated g.K.Key.less (carried g.K.Key.less seats) keys up);
    }
