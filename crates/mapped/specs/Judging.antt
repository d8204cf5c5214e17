-- Certificates that begin with the map of their signers: which are accepted, and why another is not. Assumes nothing.
use Rattle.std.specs.Prelude.{ℕ, Bool, false, List, length, Some, None, Option, ◌==◌}
use Rattle.bitmaps.specs.Maps.{standing}
use Rattle.bitmaps.specs.Verdicts.{with_map, passes, verdict}
use Rattle.bitmaps.specs.declared.rejection.Rejection.{Rejection}
use Rattle.bitmaps.specs.declared.rejection.Rejection.TheVariants.{UnknownEpoch, NoMap}
use Rattle.provider.specs.Answers.{Bytes}
use Rattle.trial.specs.declared.epoch_set.EpochSet.{EpochSet}
use Rattle.trial.specs.Sets.{count_of}

-- given how many bytes the body of so many signers has, and whether a body is good for signers
module _ (size : ℕ → ℕ) (good : List ℕ → Bytes → Bool) where
  -- whether the body is as long as the signers ask for
  abbrev pub fits : List ℕ → Bytes → Bool
  fits is body = length body == size (length is)

  -- of n signers, those that stand and the body
  abbrev pub accepted_body : ℕ → List ℕ → Bytes → Bool
  accepted_body n is body = passes n is (fits is body) (good is body)

  -- by the certificate's map
  abbrev pub valid_for : ℕ → Bytes → Bool
  valid_for n c = with_map false (λ m body. accepted_body n (standing m) body) c

  -- and the epoch is known
  abbrev pub valid_in : Option EpochSet → Bytes → Bool
  valid_in None c = false
  valid_in (Some s) c = valid_for (count_of s) c

  -- the first reason against the signers and the body
  abbrev pub reject_body : ℕ → List ℕ → Bytes → Option Rejection
  reject_body n is body = verdict n is (fits is body) (good is body)

  -- or that there is no map
  abbrev pub reject_for : ℕ → Bytes → Option Rejection
  reject_for n c = with_map (Some NoMap) (λ m body. reject_body n (standing m) body) c

  -- the first reason against a certificate, if there is one
  abbrev pub reject_in : Option EpochSet → Bytes → Option Rejection
  reject_in None c = Some UnknownEpoch
  reject_in (Some s) c = reject_for (count_of s) c
