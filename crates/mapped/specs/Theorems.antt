-- What holds of each certificate that begins with the map of its signers. Assumes nothing.
use Rattle.std.specs.Prelude.{◌≡◌, ℕ, Bool, not, List, is_some, Some, None, Option}
use Rattle.bitmaps.specs.declared.rejection.Rejection.{Rejection}
use Rattle.bitmaps.specs.declared.rejection.Rejection.TheVariants.{UnknownEpoch, NoMap}
use Rattle.bitmaps.specs.Maps.{standing}
use Rattle.bitmaps.specs.Verdicts.{with_map, Says}
use Rattle.provider.specs.Answers.{Bytes}
use Rattle.trial.specs.declared.epoch_set.EpochSet.{EpochSet}
use Rattle.trial.specs.Sets.{count_of}
use Rattle.mapped.specs.Judging.{fits, valid_in, reject_in}

-- given how many bytes the body of so many signers has, and whether a body is good for signers
module _ (size : ℕ → ℕ) (good : List ℕ → Bytes → Bool) where
  -- what each reason says of the epoch's set and the certificate
  abbrev pub Against : Option EpochSet → Bytes → Rejection → Type 0
  Against None c r = r ≡ UnknownEpoch
  Against (Some s) c r = with_map (r ≡ NoMap) (λ m body. Says (count_of s) (standing m) (fits size good (standing m) body) (good (standing m) body) r) c

  -- a certificate is rejected exactly where there is a reason, and the reason holds
  abbrev pub HasReason : Option EpochSet → Bytes → Type 0
  HasReason o c = (valid_in size good o c ≡ not (is_some (reject_in size good o c))) × ((r : Rejection) → reject_in size good o c ≡ Some r → Against o c r)
