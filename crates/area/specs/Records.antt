-- The records of an area as they are gone through. Assumes nothing.
use Rattle.std.specs.Prelude.{ℕ, List}
use Rattle.area.specs.Area.{records_at}
use Rattle.area.specs.declared.records.Records.{Records}

-- the records that are still to be given
abbrev pub left : Records → List (List ℕ)
left it = records_at it.area.now it.at
