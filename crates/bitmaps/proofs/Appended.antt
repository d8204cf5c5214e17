-- A part that has room behind others. Assumes nothing.
use Rattle.std.proofs.Common.{◌≡◌, ◌+◌, ◌≤◌, ℕ, leb, List, ◌++◌, length}
use Rattle.std.proofs.lemmas.Bool.{cond-true, le-leb}
use Rattle.bitmaps.specs.Parts.{appended}

pub appended-room : (part bytes : List ℕ) → length bytes + length part ≤ 1026 → appended part bytes ≡ bytes ++ part
appended-room part bytes room =
    cond-true (leb (length bytes + length part) 1026) (bytes ++ part) bytes (le-leb (length bytes + length part) 1026 room)
