-- Epochs by their numbers. Assumes nothing.
use Rattle.std.specs.Prelude.{ℕ, Option}
use Rattle.std.specs.Option.{option_map}
use Rattle.types.specs.Numbers.{Epoch}

-- an epoch's number
abbrev pub epoch_number : Option Epoch → Option ℕ
epoch_number o = option_map (λ (e : Epoch). e.0) o
