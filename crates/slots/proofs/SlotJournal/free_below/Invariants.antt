use Rattle.slots.specs.Value.{SameRest}
use Rattle.slots.proofs.Powers.{Swept}
use Rattle.slots.proofs.SlotJournal.free_below.Given as goal

abbrev pub invariant-loop-at : goal.invariant-loop-at
invariant-loop-at l = Swept l.section l.at l.initial.self.power l.initial.self.slots.now l.self.slots.now l.self.power × SameRest l.initial.self l.self
