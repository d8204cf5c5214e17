-- A part of a certificate written at its place, and one behind those before it. Assumes nothing.
use Rattle.std.specs.Prelude.{ℕ, ◌+◌, cond, List, ◌++◌, length, take, drop, nat_le}

-- the bytes with the part at its place, where there is room for it
abbrev pub placed_at : ℕ → List ℕ → List ℕ → List ℕ
placed_at at part bytes = cond (nat_le (at + length part) (length bytes)) (take at bytes ++ (part ++ drop (at + length part) bytes)) bytes

-- the bytes with the part behind them, where the 1,026 of a certificate have room for it
abbrev pub appended : List ℕ → List ℕ → List ℕ
appended part bytes = cond (nat_le (length bytes + length part) 1026) (bytes ++ part) bytes
