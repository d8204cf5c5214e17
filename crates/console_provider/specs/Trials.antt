-- A trial, plainly. Assumes nothing.
use Rattle.std.specs.Prelude.{List, [], map}
use Rattle.provider_commands.specs.Sets.{Signers, given}
use Rattle.provider_commands.specs.declared.commands.Kind.{Kind}
use Rattle.provider_commands.specs.declared.commands.Kind.TheVariants.{Listed}
use Rattle.console_provider.specs.declared.trials.Trial.{Trial}

-- the provider that answers, and the signers of each epoch
pub record Held : Type 0 where
  pub kind : Kind
  pub sets : List Signers

abbrev pub held : Trial → Held
held t = record { kind = t.kind; sets = map given t.sets.items }

-- the listed provider, of no epochs
abbrev pub none : Held
none = record { kind = Listed; sets = [] }
