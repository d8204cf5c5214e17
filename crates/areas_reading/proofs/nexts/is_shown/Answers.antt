use Rattle.std.proofs.Common.{sym, ◌∙◌}
use Rattle.areas_reading.proofs.Shows.{shows-owned, shows_other}
use Rattle.area.specs.Area.{read}
use Rattle.areas_reading.proofs.nexts.is_shown.Goals as goal

pub returns-then-owns : goal.returns-then-owns
returns-then-owns c = c.has_record.ensures ∙ sym (shows-owned c.args.section c.args.area.now (sym c.if-owns.ensures))

pub returns-else-owns : goal.returns-else-owns
returns-else-owns c = c.if-owns.false ∙ sym (shows_other c.args.section (read c.args.area.now) (sym c.if-owns.ensures))
