use Rattle.std.proofs.Common.{◌≡◌, Some, None, Option, sym}
use Rattle.types.specs.Numbers.{Height}
use Rattle.tips.specs.declared.safe_tip.SafeTip.{SafeTip}
use Rattle.tips.specs.Counting.{greatest}
use Rattle.tips.specs.Tips.{lowest, highest, Answered}
use Rattle.tips.proofs.Splits.{safe, some-counted, none_counted}
use Rattle.tips.proofs.safe_tip.SafeTip.get.Goals as goal

answered : (s : SafeTip) (o : Option Height) → o ≡ greatest (lowest s) → Answered o s
answered s None is = none_counted (lowest s) (highest s) s.top (sym is)
answered s (Some t) is = (some-counted (lowest s) (highest s) t s.lo.counted (sym is), λ tips h. safe (lowest s) (highest s) tips t s.lo.counted (sym is) h)

pub returns : goal.returns
returns c = answered c.args.self.now c.last.result c.last.ensures
