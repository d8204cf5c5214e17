-- The signers of an epoch, as a provider's list takes them. Assumes nothing.
use Rattle.std.specs.Prelude.{Some, None, Option, Ok, Err, Result}
use Rattle.trial.specs.declared.epoch_set.EpochSet.{EpochSet}
use Rattle.trial.specs.declared.fault.ListFault.{ListFault}
use Rattle.provider_commands.specs.declared.commands.SignerSet.{SignerSet}
use Rattle.console_provider.specs.declared.answers.Refusal.{Refusal}
use Rattle.console_provider.specs.declared.answers.Refusal.TheVariants.{Signers}

-- with its keys lent; where they lie does not matter
abbrev pub lent : SignerSet → EpochSet
lent s = record { epoch = s.epoch; keys = record { ref_ptr = (0, 0); now = s.keys.items }; me = s.me }

-- a list passes where it has no fault
abbrev pub passed : Option ListFault → Result (Unit {0}) Refusal
passed None = Ok tt
passed (Some f) = Err (Signers f.fault)
