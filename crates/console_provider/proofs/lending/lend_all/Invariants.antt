use Rattle.std.proofs.Common.{◌≡◌, map, take}
use Rattle.provider_commands.specs.Sets.{given, shown}
use Rattle.console_provider.proofs.lending.lend_all.Given as goal

abbrev pub invariant-loop-set : goal.invariant-loop-set
invariant-loop-set l = map shown l.lent.items ≡ map given (take l.set-index l.sets)
