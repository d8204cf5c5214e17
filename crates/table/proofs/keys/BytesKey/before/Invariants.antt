use Rattle.std.proofs.Common.{◌≡◌, drop}
use Rattle.table.specs.Keys.{lower}
use Rattle.table.proofs.keys.BytesKey.before.Given as goal

abbrev pub invariant-loop-i : goal.invariant-loop-i
invariant-loop-i g l = lower (drop l.i l.self.bytes) (drop l.i l.other.bytes) ≡ lower l.self.bytes l.other.bytes
