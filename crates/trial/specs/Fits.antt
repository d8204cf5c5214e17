-- What holds of every set in a list without a fault. Assumes nothing.
use Rattle.std.specs.Prelude.{◌≡◌, ◌<◌, ◌≤◌, length, Some}
use Rattle.types.specs.Numbers.{Participant}
use Rattle.provider.specs.Laws.{KeySet}
use Rattle.trial.specs.declared.epoch_set.EpochSet.{EpochSet}
use Rattle.trial.specs.Sets.{keys_in, count_of}

pub record Fit (s : EpochSet) : Type 0 where
  pub keys : KeySet (keys_in s)
  pub count : length (keys_in s) ≡ count_of s
  pub least : 2 ≤ count_of s
  pub most : count_of s ≤ 16
  pub own : (p : Participant) → s.me ≡ Some p → p.0 < count_of s
