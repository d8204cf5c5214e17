use Rattle.std.proofs.Common.{◌≡◌, take}
use Rattle.provider.specs.Positions.{row_keys}
use Rattle.provider.proofs.positions.rows.Given as goal

-- the keys so far stand in their rows
abbrev pub invariant-loop-key : goal.invariant-loop-key
invariant-loop-key l = row_keys l.rows.items ≡ take l.key-index l.keys
