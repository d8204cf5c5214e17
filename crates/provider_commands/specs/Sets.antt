-- The signers of an epoch, plainly. Assumes nothing.
use Rattle.std.specs.Prelude.{ℕ, List, Option}
use Rattle.provider.specs.Answers.{Bytes}
use Rattle.provider.specs.Values.{key_bytes, number}
use Rattle.trial.specs.declared.epoch_set.EpochSet.{EpochSet}
use Rattle.trial.specs.Sets.{keys_in}
use Rattle.provider_commands.specs.declared.commands.SignerSet.{SignerSet}

-- an epoch, the keys of its signers, and the own signer, if there is one
pub record Signers : Type 0 where
  pub epoch : ℕ
  pub keys : List Bytes
  pub own : Option ℕ

-- the signers of a set
abbrev pub given : SignerSet → Signers
given s = record { epoch = s.epoch.0; keys = key_bytes s.keys.items; own = number s.me }

-- the signers that a provider's list has for an epoch
abbrev pub shown : EpochSet → Signers
shown s = record { epoch = s.epoch.0; keys = keys_in s; own = number s.me }
