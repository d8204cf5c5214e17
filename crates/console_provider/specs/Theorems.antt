-- What answers over lists of epochs have in common. Assumes nothing.
use Rattle.std.specs.Prelude.{◌≡◌, List, map}
use Rattle.provider_commands.specs.Reading.{Said}
use Rattle.provider_commands.specs.Sets.{given, shown}
use Rattle.provider_commands.specs.declared.commands.Kind.{Kind}
use Rattle.provider_commands.specs.declared.commands.SignerSet.{SignerSet}
use Rattle.trial.specs.declared.epoch_set.EpochSet.{EpochSet}
use Rattle.console_provider.specs.Doing.{answer}

-- any sets have a list with their signers
abbrev pub ListsExist : Type 0
ListsExist = (sets : List SignerSet) → (ss : List EpochSet) × (map shown ss ≡ map given sets)

-- over two lists with the same signers the answer is the same, wherever their keys lie
abbrev pub AnswersAgree : Type 0
AnswersAgree = (s : Said) (k : Kind) (ss ts : List EpochSet) → map shown ss ≡ map shown ts → answer s k ss ≡ answer s k ts
