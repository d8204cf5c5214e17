use Rattle.std.proofs.Common.{sym, ◌∙◌, rules}
use Rattle.tips.proofs.Told.{unknown, too_low, foreign, told}
use Rattle.tips.proofs.safe_tip.SafeTip.update.Goals as goal

-- no seat
pub returns-in_err-i-clause-answer : goal.returns-in_err-i-clause-answer
returns-in_err-i-clause-answer g c = c.from_residual.ensures ∙ (unknown g.met.K.Key.order c.args.key.now c.args.seats.now c.args.tip c.args.self.now (sym c.in_err-i.ensures.placed)).answer

pub returns-in_err-i-clause-counts : goal.returns-in_err-i-clause-counts
returns-in_err-i-clause-counts g c h = c.from_residual.ensures ∙ (unknown g.met.K.Key.order c.args.key.now c.args.seats.now c.args.tip c.args.self.now (sym c.in_err-i.ensures.placed)).counts h

-- not higher than the old tip
pub returns-then-stale-clause-answer : goal.returns-then-stale-clause-answer
returns-then-stale-clause-answer g c =
    let h = c.if-stale.ensures in
    (too_low g.met.K.Key.order c.args.key.now c.args.seats.now c.args.tip c.args.self.now c.in_ok-i.i (sym c.in_ok-i.ensures.placed) c.index-seats-i.result (search rules)).answer

pub returns-then-stale-clause-counts : goal.returns-then-stale-clause-counts
returns-then-stale-clause-counts g c =
    let h = c.if-stale.ensures in
    (too_low g.met.K.Key.order c.args.key.now c.args.seats.now c.args.tip c.args.self.now c.in_ok-i.i (sym c.in_ok-i.ensures.placed) c.index-seats-i.result (search rules)).counts

-- not counted here
pub returns-then-not-counts-clause-answer : goal.returns-then-not-counts-clause-answer
returns-then-not-counts-clause-answer g c =
    let h = c.if-stale.ensures in
    (foreign g.met.K.Key.order c.args.key.now c.args.seats.now c.args.tip c.args.self.now c.in_ok-i.i (sym c.in_ok-i.ensures.placed) c.index-seats-i.result (search rules) (sym c.if-not-counts.ensures)).answer

pub returns-then-not-counts-clause-counts : goal.returns-then-not-counts-clause-counts
returns-then-not-counts-clause-counts g c =
    let h = c.if-stale.ensures in
    (foreign g.met.K.Key.order c.args.key.now c.args.seats.now c.args.tip c.args.self.now c.in_ok-i.i (sym c.in_ok-i.ensures.placed) c.index-seats-i.result (search rules) (sym c.if-not-counts.ensures)).counts

pub returns : goal.returns
returns g c =
    let h = c.if-stale.ensures in
    let t = told g.met.K.Key.order c.args.key.now c.args.seats.now c.args.tip c.args.self.now c.in_ok-i.i (sym c.in_ok-i.ensures.placed) c.index-seats-i.result (search rules) (sym c.if-not-counts.ensures) c.shift.new.self c.shift.ensures c.index-seats-i-2.result in
    record { answer = t.answer; seats = t.seats; tables = c.shift.ensures; counts = t.counts; holds = t.holds; sorted = t.sorted }
