use Rattle.std.proofs.Common.{◌≡◌, ◌+◌}
use Rattle.area.specs.Area.{end_of, extent}
use Rattle.area.specs.Records.{left}
use Rattle.area.proofs.reads.end.Given as goal

abbrev pub invariant-loop-body : goal.invariant-loop-body
invariant-loop-body l =
    (goal.iterator-loop-body).can_next l.body-iterator
    × (goal.iterator-loop-body).is_finite l.body-iterator
    × (l.end + extent (left l.body-iterator) ≡ end_of l.area)
