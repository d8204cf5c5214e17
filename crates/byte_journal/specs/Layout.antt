-- How an area is laid out. Assumes nothing.
use Rattle.std.specs.Prelude.{◌≡◌, ℕ, ◌<◌, ◌≤◌, ◌^◌, List, [], ◌∷◌, ◌++◌, length, Some, None}
use Rattle.std.specs.Int.{w16, w64, to_be_bytes}
use Rattle.area.specs.Area.{read}
use Rattle.journal.specs.Log.{Bytes, All}

-- a record: its mark, its length in two bytes, and its body
unfoldable pub entry : Bytes → List ℕ
entry b = 1 ∷ (to_be_bytes w16 (length b) ++ b)

-- one record after the other
unfoldable pub entries : List Bytes → List ℕ
entries [] = []
entries (b ∷ bs) = entry b ++ entries bs

-- an area in use: its mark, its section in eight bytes, its records, and the end mark
unfoldable pub laid : ℕ → List Bytes → List ℕ
laid s bs = 1 ∷ (to_be_bytes w64 s ++ (entries bs ++ 0 ∷ []))

-- what is so laid out reads as its section and its records, whatever lies behind the end mark
abbrev pub LayoutStands : Type 0
LayoutStands =
    (s : ℕ) (bs : List Bytes) (rest : List ℕ) → s < 2 ^ 64 → All (λ b. length b ≤ 1068) bs →
    read (laid s bs ++ rest) ≡ Some (record { section = s; records = bs; defect = None })
