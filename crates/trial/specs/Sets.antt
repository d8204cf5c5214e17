-- The keys of an epoch, and an epoch in a list. Assumes nothing.
use Rattle.std.specs.Prelude.{ℕ, List, length, Option, ◌==◌, find}
use Rattle.types.specs.Texts.{PublicKey}
use Rattle.provider.specs.Answers.{Bytes}
use Rattle.provider.specs.Values.{key_bytes}
use Rattle.trial.specs.declared.epoch_set.EpochSet.{EpochSet}

-- the keys of a set
abbrev pub keys_of : EpochSet → List PublicKey
keys_of s = s.keys.now

-- their bytes
abbrev pub keys_in : EpochSet → List Bytes
keys_in s = key_bytes (keys_of s)

-- and how many they are
abbrev pub count_of : EpochSet → ℕ
count_of s = length (keys_of s)

-- the set of an epoch, or none where the list has no such epoch
abbrev pub set_at : ℕ → List EpochSet → Option EpochSet
set_at e ss = find (λ (s : EpochSet). s.epoch.0 == e) ss
