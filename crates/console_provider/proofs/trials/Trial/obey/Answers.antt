use Rattle.std.proofs.Common.{List, rules, ap, map}
use Rattle.provider_commands.specs.declared.commands.SignerSet.{SignerSet}
use Rattle.trial.specs.Faults.{list_fault, sound}
use Rattle.console_provider.specs.Lending.{lent}
use Rattle.console_provider.proofs.trials.Trial.obey.Goals as goal

pub invariant_of-self : goal.invariant_of-self
unfolding list_fault
invariant_of-self c = record { sound = ap (λ (xs : List SignerSet). sound (map lent xs)) c.clear.ensures.items }

pub returns-in-Provider-clause-trial : goal.returns-in-Provider-clause-trial
returns-in-Provider-clause-trial c = search rules
