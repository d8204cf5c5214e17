use Rattle.std.proofs.Common.{◌≡◌, ◌-◌, ◌≤◌, ◌++◌}
use Rattle.bitmaps.specs.Maps.{standing_from, standing}
use Rattle.bitmaps.specs.Signers.{listed}
use Rattle.bitmaps.proofs.splits.signers.Given as goal

-- the signers so far, and those of the bits that are left, are all signers
abbrev pub invariant-loop-signer : goal.invariant-loop-signer
invariant-loop-signer l = (l.signers.len ≤ l.signer) × (listed l.signers ++ standing_from (16 - l.signer) l.signer l.map ≡ standing l.map)
