-- What the listed provider answers. Assumes nothing.
use Rattle.std.specs.Prelude.{List}
use Rattle.provider.specs.Answers.{Answers}
use Rattle.trial.specs.declared.epoch_set.EpochSet.{EpochSet}
use Rattle.trial.specs.Trials.{accepted_among}
use Rattle.mapped.specs.Bodies.{Meaning}
use Rattle.mapped.specs.Mapping.{mapped}
use Rattle.listed.specs.Certificates.{signatures}
use Rattle.listed.specs.Judging.{size_of, each_accepted}

-- signatures as what stands behind the map
abbrev pub listing : Meaning
listing = record {
  body = signatures;
  size = size_of;
  good = λ o h d. each_accepted (λ i s. accepted_among o i h d s);
}

abbrev pub listed : List EpochSet → Answers
listed = mapped listing
