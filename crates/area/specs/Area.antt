-- What the bytes of one area mean: a mark, a section in eight bytes, and then the records. Past the last byte every byte counts as 0. Assumes nothing.
use Rattle.std.specs.Prelude.{ℕ, zero, suc, ◌+◌, Bool, cond, not, ◌&&◌, List, [], ◌∷◌, ◌++◌, length, take, drop, is_some, Some, None, Option, ◌==◌, nat_le, nat_lt, slice_index}
use Rattle.std.specs.Int.{w16, w64, from_be_bytes}
use Rattle.journal.specs.declared.places.Defect.{Defect}
use Rattle.journal.specs.declared.places.Defect.TheVariants.{Mark, Length}

-- the length that stands behind a record's mark
unfoldable pub size : List ℕ → ℕ → ℕ
size bs at = from_be_bytes w16 (drop (at + 1) bs)

-- whether a whole record stands at a place: its mark is 1, its length at most 1,068, and its body inside the area
unfoldable pub holds : List ℕ → ℕ → Bool
holds bs at = slice_index bs at == 1 && (nat_le (size bs at) 1068 && nat_le (at + 3 + size bs at) (length bs))

-- the body of the record at a place
unfoldable pub body : List ℕ → ℕ → List ℕ
body bs at = take (size bs at) (drop (at + 3) bs)

-- the records from a place on, at most `most` of them
unfoldable pub records_by : ℕ → List ℕ → ℕ → List (List ℕ)
records_by zero bs at = []
records_by (suc most) bs at = cond (holds bs at) (body bs at ∷ records_by most bs (at + 3 + size bs at)) []

-- all the records from a place on: each takes three bytes at least, so there are fewer than bytes
unfoldable pub records_at : List ℕ → ℕ → List (List ℕ)
records_at bs at = records_by (length bs) bs at

-- the bytes that records take, each with its mark and its length
unfoldable pub extent : List (List ℕ) → ℕ
extent [] = 0
extent (r ∷ rs) = 3 + length r + extent rs

-- the section that stands behind an area's mark
unfoldable pub section_of : List ℕ → ℕ
section_of bs = from_be_bytes w64 (drop 1 bs)

-- what an area in use reads as: its section, its records, and the defect that stands behind them, if any
pub record Area : Type 0 where
  pub section : ℕ
  pub records : List (List ℕ)
  pub defect : Option Defect

-- the records of an area in use: none where its own mark is another than 1
unfoldable pub records_of : List ℕ → List (List ℕ)
records_of bs = cond (slice_index bs 0 == 1) (records_at bs 9) []

-- the place behind the records, where the end mark is to stand
unfoldable pub end_of : List ℕ → ℕ
end_of bs = 9 + extent (records_of bs)

-- what stands where no record does: the end where the byte is 0, a wrong length where it is a record's mark, else a wrong mark
unfoldable pub defect_at : ℕ → Option Defect
defect_at mark = cond (mark == 0) None (cond (mark == 1) (Some Length) (Some Mark))

-- the defect of an area in use: its own mark is wrong, or what stands behind the records
unfoldable pub defect_of : List ℕ → Option Defect
defect_of bs = cond (slice_index bs 0 == 1) (defect_at (slice_index bs (end_of bs))) (Some Mark)

unfoldable pub area_of : List ℕ → Area
area_of bs = record { section = section_of bs; records = records_of bs; defect = defect_of bs }

-- what an area reads as: nothing where its mark is 0
unfoldable pub read : List ℕ → Option Area
read bs = cond (slice_index bs 0 == 0) None (Some (area_of bs))

-- whether a record of n bytes has room behind the records of an area of `most` bytes, with a byte kept for the end mark
unfoldable pub fits : ℕ → Area → ℕ → Bool
fits most a n = not (is_some a.defect) && (nat_le n 1068 && nat_lt (9 + extent a.records + 3 + n) most)

-- an area newly in use
unfoldable pub started : ℕ → Area
started s = record { section = s; records = []; defect = None }

-- an area with one record more
unfoldable pub pushed : Area → List ℕ → Area
pushed a b = record { section = a.section; records = a.records ++ b ∷ []; defect = a.defect }
