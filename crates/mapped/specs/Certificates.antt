-- Certificates that begin with the map of their signers: how they are made. Assumes nothing.
use Rattle.std.specs.Prelude.{ℕ, cond, ◌&&◌, List, ◌++◌, Some, None, Option, nat_le}
use Rattle.bitmaps.specs.Maps.{enough, map_of, two_bytes}
use Rattle.provider.specs.Answers.{Attested, Bytes}
use Rattle.provider.specs.Laws.{signers_of}
use Rattle.trial.specs.declared.epoch_set.EpochSet.{EpochSet}
use Rattle.trial.specs.Sets.{count_of}

-- given the body that signatures make
module _ (body : List Attested → Bytes) where
  -- the map, the higher byte first, and the body
  abbrev pub certificate_of : List Attested → Bytes
  certificate_of qs = two_bytes (map_of (signers_of qs)) ++ body qs

  -- the certificate of signatures of n − f or more of n signers, in ascending order
  abbrev pub assemble_for : ℕ → List Attested → Option Bytes
  assemble_for n qs = cond (nat_le n 16 && enough n (signers_of qs)) (Some (certificate_of qs)) None

  -- and where the epoch is known
  abbrev pub assemble_in : Option EpochSet → List Attested → Option Bytes
  assemble_in None qs = None
  assemble_in (Some s) qs = assemble_for (count_of s) qs
