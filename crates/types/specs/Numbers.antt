-- Heights, epochs and signers by their numbers. Assumes nothing.
use Rattle.std.specs.Prelude.{ℕ}
use Rattle.types.specs.declared.kinds.Heights.{Heights}
use Rattle.types.specs.declared.kinds.Epochs.{Epochs}
use Rattle.types.specs.declared.kinds.Signers.{Signers}
use Rattle.types.specs.declared.numbers.Number.{Number}
use Rattle.types.specs.declared.numbers.Delta.{Delta}

abbrev pub Height : Type 0
Height = Number Heights

abbrev pub HeightDelta : Type 0
HeightDelta = Delta Heights

abbrev pub Epoch : Type 0
Epoch = Number Epochs

abbrev pub EpochDelta : Type 0
EpochDelta = Delta Epochs

abbrev pub Participant : Type 0
Participant = Number Signers

module _ {K : Type 0} where
  -- the number of this value
  abbrev pub number : ℕ → Number K
  number n = record { 0 = n; 1 = record {} }

  -- the distance of this value
  abbrev pub delta : ℕ → Delta K
  delta n = record { 0 = n; 1 = record {} }

abbrev pub height : ℕ → Height
height = number

abbrev pub height_delta : ℕ → HeightDelta
height_delta = delta

abbrev pub epoch : ℕ → Epoch
epoch = number

abbrev pub participant : ℕ → Participant
participant = number
