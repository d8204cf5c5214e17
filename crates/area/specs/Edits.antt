-- What is written into an area. Assumes nothing.
use Rattle.std.specs.Prelude.{◌≡◌, ℕ, ◌+◌, ◌<◌, List, [], ◌∷◌, ◌++◌, length, take, drop, slice_index, slice_set}
use Rattle.std.specs.Int.{w16, w64, to_be_bytes}

-- these bytes in the place of as many from `at` on
unfoldable pub put : ℕ → List ℕ → List ℕ → List ℕ
put at bs out = take at out ++ bs ++ drop (at + length bs) out

-- what follows the mark of a record: its length, its body and the next end mark
unfoldable pub framed : List ℕ → List ℕ
framed body = to_be_bytes w16 (length body) ++ (body ++ 0 ∷ [])

-- a record at a place: what follows its mark, and its mark
unfoldable pub added : ℕ → List ℕ → List ℕ → List ℕ
added at body bs = slice_set (put (at + 1) (framed body) bs) at 1

-- the bytes below a place, and how many there are in all, stay as they were
pub record Kept (place : ℕ) (old new : List ℕ) : Type 0 where
  pub len : length new ≡ length old
  pub same : (k : ℕ) → k < place → slice_index new k ≡ slice_index old k

-- an area newly in use: its section, its first end mark, and its mark
unfoldable pub begun : ℕ → List ℕ → List ℕ
begun section bs = slice_set (slice_set (put 1 (to_be_bytes w64 section) bs) 9 0) 0 1
