use Rattle.std.proofs.Common.{rules}
use Rattle.journal_commands.proofs.files.read_areas.Goals as goal

pub returns-in-Ok-eq0-clause-areas : goal.returns-in-Ok-eq0-clause-areas
returns-in-Ok-eq0-clause-areas c = search rules
