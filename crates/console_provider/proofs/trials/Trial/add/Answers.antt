use Rattle.std.proofs.Common.{List, ◌≡◌, ◌∷◌, [], ◌++◌, map, sym, ap, ◌∙◌, arith}
use Rattle.std.proofs.lemmas.Grind.{common_steps}
use Rattle.provider_commands.specs.Sets.{given, shown}
use Rattle.provider_commands.specs.declared.commands.SignerSet.{SignerSet}
use Rattle.trial.specs.declared.epoch_set.EpochSet.{EpochSet}
use Rattle.trial.specs.Faults.{list_fault}
use Rattle.console_provider.specs.Lending.{lent}
use Rattle.console_provider.proofs.Alike.{fault_more}
use Rattle.console_provider.proofs.Passing.{passed_none, not_added}
use Rattle.console_provider.proofs.trials.Trial.add.Goals as goal
use Rattle.console_provider.proofs.trials.Trial.add.Goals.{After-check_added}

-- the list of the sets held and one more
abbrev more : (c : After-check_added) → List EpochSet
more c = map lent (c.deref.result.now ++ c.args.set ∷ [])

same : (c : After-check_added) (ss : List EpochSet) → map shown ss ≡ map given c.args.self.now.sets.items ++ given c.args.set ∷ [] → list_fault (more c) ≡ list_fault ss
same c ss about =
    ap (λ (xs : List SignerSet). list_fault (map lent (xs ++ c.args.set ∷ []))) c.deref.ensures.value ∙ fault_more ss c.args.self.now.sets.items c.args.set about

pub returns-in_err-check_added-clause-answer : goal.returns-in_err-check_added-clause-answer
returns-in_err-check_added-clause-answer c = λ ss about.
    rw (← same (goal.at.returns-in_err-check_added-clause-answer c).After-check_added ss about)
    (not_added (given c.args.set) c.from_residual.result c.in_err-check_added.field-0.0 _ c.from_residual.ensures.1 c.in_err-check_added.ensures)

pub returns-clause-answer : goal.returns-clause-answer
returns-clause-answer c = λ ss about.
    let none = sym (same (goal.at.returns-clause-answer c).After-check_added ss about) ∙ passed_none _ c.in_ok-check_added.ensures in
    rw none (grind (arith, common_steps))
