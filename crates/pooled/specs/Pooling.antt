-- What the pooled provider answers. Assumes nothing.
use Rattle.std.specs.Prelude.{List}
use Rattle.provider.specs.Answers.{Answers}
use Rattle.trial.specs.declared.epoch_set.EpochSet.{EpochSet}
use Rattle.mapped.specs.Bodies.{Meaning}
use Rattle.mapped.specs.Mapping.{mapped}
use Rattle.pooled.specs.Certificates.{pool_of}
use Rattle.pooled.specs.Judging.{size_of, summed}

-- a sum of tags as what stands behind the map
abbrev pub pooling : Meaning
pooling = record {
  body = pool_of;
  size = size_of;
  good = λ o. summed;
}

abbrev pub pooled : List EpochSet → Answers
pooled = mapped pooling
