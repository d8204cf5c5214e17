use Rattle.std.proofs.Common.{◌≡◌}
use Rattle.slots.specs.Entries.{left}
use Rattle.slots.specs.Value.{defect, over}
use Rattle.slots.proofs.Walk.{first_in}
use Rattle.slots.proofs.reading.first_overrun.Given as goal

abbrev pub invariant-loop-entry : goal.invariant-loop-entry
invariant-loop-entry l =
    record {
      can : (goal.iterator-loop-entry).can_next l.entry-iterator;
      finite : (goal.iterator-loop-entry).is_finite l.entry-iterator;
      same : first_in (defect l.slots) (left l.entry-iterator) ≡ over l.slots;
    }
