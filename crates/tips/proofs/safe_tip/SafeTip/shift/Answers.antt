use Rattle.std.proofs.Common.{◌≤◌, sym, rules}
use Rattle.std.specs.List.{AllByRecursion as All}
use Rattle.tips.specs.Tips.{lowest, highest}
use Rattle.tips.specs.Tables.{rows_of}
use Rattle.tips.proofs.Tidy.{counted}
use Rattle.tips.proofs.Moves.{stays_hi, stays_lo, falls, rises, last_is, above-least, above_none, below_last, below_none}
use Rattle.tips.proofs.safe_tip.SafeTip.shift.Goals as goal
use Rattle.tips.proofs.safe_tip.SafeTip.shift.Goals.{in_default-via-in-Some+else-lt, in_default-via-in_default, in_default-first-via-in-Some-first+else-lt-2, in_default-first-via-in_default-first}

pub shift-requires-in-Some-clause-there : goal.shift-requires-in-Some-clause-there
shift-requires-in-Some-clause-there c =
    let s = c.args.self.now in
    (last_is c.in-Some.max_lo (lowest s) (counted (lowest s) s.lo.counted).sorted (sym c.in-Some.ensures)).there

-- past the greatest of lo
pub invariant_of-self : goal.invariant_of-self
invariant_of-self c =
    let s = c.args.self.now in
    let h = c.if-lt.ensures in
    let f = falls s c.args.old c.args.new c.if-has.ensures c.in-Some.max_lo c.in-Some.ensures (search rules) (rows_of c.shift-in-Some.new.self) (rows_of c.shift.new.self) c.shift-in-Some.ensures c.shift.ensures in
    record { few = f.few; top = f.top }

pub returns-in-Some : goal.returns-in-Some
returns-in-Some c =
    let s = c.args.self.now in
    let h = c.if-lt.ensures in
    (falls s c.args.old c.args.new c.if-has.ensures c.in-Some.max_lo c.in-Some.ensures (search rules) (rows_of c.shift-in-Some.new.self) (rows_of c.shift.new.self) c.shift-in-Some.ensures c.shift.ensures).moved

-- in hi
pub invariant_of-self-in_default : goal.invariant_of-self-in_default
invariant_of-self-in_default c =
    let s = c.args.self.now in
    let under : All (λ e. e.key.0 ≤ c.args.new.0) (lowest s) = elim c.in_default.branch [
      | in_default-via-in-Some+else-lt w ↦ let h = w.if-lt.ensures in below_last c.args.new w.in-Some.max_lo (lowest s) s.lo.counted w.in-Some.ensures (search rules)
      | in_default-via-in_default w ↦ below_none c.args.new (lowest s) (sym w.in_default.ensures)
    ] in
    let f = stays_hi s c.args.old c.args.new c.if-has.ensures under (rows_of c.shift-in_default.new.self) c.shift-in_default.ensures in
    record { few = f.few; top = f.top }

pub returns-in_default : goal.returns-in_default
returns-in_default c =
    let s = c.args.self.now in
    let under : All (λ e. e.key.0 ≤ c.args.new.0) (lowest s) = elim c.in_default.branch [
      | in_default-via-in-Some+else-lt w ↦ let h = w.if-lt.ensures in below_last c.args.new w.in-Some.max_lo (lowest s) s.lo.counted w.in-Some.ensures (search rules)
      | in_default-via-in_default w ↦ below_none c.args.new (lowest s) (sym w.in_default.ensures)
    ] in
    (stays_hi s c.args.old c.args.new c.if-has.ensures under (rows_of c.shift-in_default.new.self) c.shift-in_default.ensures).moved

-- past the least of hi
pub invariant_of-self-then-lt-2 : goal.invariant_of-self-then-lt-2
invariant_of-self-then-lt-2 c =
    let s = c.args.self.now in
    let h = c.if-lt-2.ensures in
    let f = rises s c.args.old c.args.new c.requires c.if-has.ensures c.in-Some-first.min_hi c.in-Some-first.ensures (search rules) (rows_of c.shift-in-Some-first.new.self) (rows_of c.shift-in-Some-first-2.new.self) c.shift-in-Some-first.ensures c.shift-in-Some-first-2.ensures in
    record { few = f.few; top = f.top }

pub returns-in-Some-first : goal.returns-in-Some-first
returns-in-Some-first c =
    let s = c.args.self.now in
    let h = c.if-lt-2.ensures in
    (rises s c.args.old c.args.new c.requires c.if-has.ensures c.in-Some-first.min_hi c.in-Some-first.ensures (search rules) (rows_of c.shift-in-Some-first.new.self) (rows_of c.shift-in-Some-first-2.new.self) c.shift-in-Some-first.ensures c.shift-in-Some-first-2.ensures).moved

-- in lo
pub invariant_of-self-in_default-first : goal.invariant_of-self-in_default-first
invariant_of-self-in_default-first c =
    let s = c.args.self.now in
    let over : All (λ e. c.args.new.0 ≤ e.key.0) (highest s) = elim c.in_default-first.branch [
      | in_default-first-via-in-Some-first+else-lt-2 w ↦ let h = w.if-lt-2.ensures in above-least c.args.new w.in-Some-first.min_hi (highest s) s.hi.counted w.in-Some-first.ensures (search rules)
      | in_default-first-via-in_default-first w ↦ above_none c.args.new (highest s) (sym w.in_default-first.ensures)
    ] in
    let f = stays_lo s c.args.old c.args.new c.requires c.if-has.ensures over (rows_of c.shift-in_default-first.new.self) c.shift-in_default-first.ensures in
    record { few = f.few; top = f.top }

pub returns-in_default-first : goal.returns-in_default-first
returns-in_default-first c =
    let s = c.args.self.now in
    let over : All (λ e. c.args.new.0 ≤ e.key.0) (highest s) = elim c.in_default-first.branch [
      | in_default-first-via-in-Some-first+else-lt-2 w ↦ let h = w.if-lt-2.ensures in above-least c.args.new w.in-Some-first.min_hi (highest s) s.hi.counted w.in-Some-first.ensures (search rules)
      | in_default-first-via-in_default-first w ↦ above_none c.args.new (highest s) (sym w.in_default-first.ensures)
    ] in
    (stays_lo s c.args.old c.args.new c.requires c.if-has.ensures over (rows_of c.shift-in_default-first.new.self) c.shift-in_default-first.ensures).moved
