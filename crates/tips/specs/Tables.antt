-- The rows of a table of counts in memory. Assumes nothing.
use Rattle.table.specs.Tables.{rows_of as entries_of}
use Rattle.tips.specs.declared.counts.Counts.{Counts}
use Rattle.tips.specs.Counting.{Rows}

abbrev pub rows_of : Counts → Rows
rows_of c = entries_of c.table
