use Rattle.std.proofs.Common.{is_some, sym, ap, ◌∙◌}
use Rattle.areas_reading.proofs.Shows.{some_first, some_mapped}
use Rattle.area.specs.Area.{records_of}
use Rattle.areas_reading.proofs.nexts.has_record.Goals as goal

pub returns : goal.returns
returns c = c.is_some.ensures ∙ sym (some_mapped _ c.record.result) ∙ ap is_some c.record.ensures ∙ some_first (records_of c.args.area.now)
