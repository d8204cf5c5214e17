-- The numbers of a journal's refusals. Assumes nothing.
use Rattle.std.specs.Prelude.{ℕ, Some, None, Option}
use Rattle.journal.specs.declared.stops.Stop.{Stop}
use Rattle.journal.specs.declared.stops.Stop.TheVariants.{Full, Pruned, Off}

-- 27 where there is no room, 28 below the bound; a power cut is no refusal
abbrev pub stop_number : Stop → Option ℕ
stop_number Full = Some 27
stop_number Pruned = Some 28
stop_number Off = None
