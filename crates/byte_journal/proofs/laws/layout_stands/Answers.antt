use Rattle.byte_journal.proofs.Layouts.{layout}
use Rattle.byte_journal.proofs.laws.layout_stands.Goals as goal

pub returns : goal.returns
returns c = layout
