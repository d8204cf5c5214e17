use Rattle.std.proofs.Common.{◌≡◌, ◌<◌, ◌≤◌, length, sym, refl, subst, arith}
use Rattle.table.specs.Rows.{Sorted}
use Rattle.types.specs.Numbers.{height}
use Rattle.tips.specs.Ranks.{Split}
use Rattle.tips.specs.Seats.{tips_of}
use Rattle.tips.specs.Tables.{rows_of}
use Rattle.tips.proofs.Opening.{opened_split, zero_tips, passes-some}
use Rattle.tips.proofs.safe_tip.SafeTip.init.Goals as goal

pub returns : goal.returns
returns g c =
    let keys = c.args.keys.now in
    let some : 0 < length keys = omega arith in
    let few : length keys ≤ 16 = omega arith in
    let sized : length keys ≡ length c.args.seats.now = c.if-n-seats.false in
    let is = c.seat_all.ensures (λ _. height 0) (zero_tips keys 16 c.zero.result c.zero.ensures few) in
    let h = opened_split keys (length keys) c.max_faults-f.result (rows_of c.of_zeros-self.result) (rows_of c.of_zeros-self-2.result) refl c.max_faults-f.ensures c.of_zeros-self.ensures c.of_zeros-self-2.ensures in
    record {
      answer = passes-some (length c.args.seats.now) (length keys) some few sized;
      seats = is;
      kept = tt;
      holds = λ _. subst (λ l. Split (tips_of l) (rows_of c.of_zeros-self.result) (rows_of c.of_zeros-self-2.result)) (sym is) h;
      sorted = λ _ up. subst (Sorted g.K.Key.less) (sym is) up;
    }
