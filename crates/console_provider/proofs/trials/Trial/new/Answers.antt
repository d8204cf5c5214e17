use Rattle.std.proofs.Common.{List, rules, ap, map}
use Rattle.provider_commands.specs.declared.commands.SignerSet.{SignerSet}
use Rattle.trial.specs.Faults.{list_fault, sound}
use Rattle.console_provider.specs.Lending.{lent}
use Rattle.console_provider.proofs.trials.Trial.new.Goals as goal

pub invariant_of-result : goal.invariant_of-result
unfolding list_fault
invariant_of-result c = record { sound = ap (λ (xs : List SignerSet). sound (map lent xs)) c.new.ensures.items }

pub returns : goal.returns
returns c = search rules
