use Rattle.std.proofs.Common.{◌≡◌, true, drop}
use Rattle.areas.specs.Plan.{rest_of, plan}
use Rattle.areas_writing.specs.Steps.{cleared_from, unders}
use Rattle.power.specs.Power.{Took}
use Rattle.areas_writing.proofs.writes.prune.Given as goal

abbrev pub invariant-loop-at : goal.invariant-loop-at
invariant-loop-at l =
    (plan l.medium ≡ cleared_from l.at l.bound (plan l.initial.medium))
    × Took (unders l.bound (drop l.at (plan l.initial.medium))) true l.initial.power l.power
    × (rest_of l.medium ≡ rest_of l.initial.medium)
