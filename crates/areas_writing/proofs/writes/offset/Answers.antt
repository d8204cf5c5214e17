use Rattle.std.proofs.Common.{rules}
use Rattle.areas.proofs.Parts.{inside}
use Rattle.areas_writing.proofs.writes.offset.Goals as goal

pub overflow_mul-result : goal.overflow_mul-result
overflow_mul-result c = let h = inside c.args.medium.now c.args.at c.requires in search rules

pub returns-clause-inside : goal.returns-clause-inside
returns-clause-inside c = inside c.args.medium.now c.args.at c.requires
