use Rattle.bitmaps.proofs.Enoughs.{tells-enough}
use Rattle.provider.specs.Laws.{signers_of}
use Rattle.mapped.specs.Keeping.{accepted_for}
use Rattle.std.proofs.Common.{◌%◌, ◌^◌}
use Rattle.pooled.specs.Certificates.{carried, pool_of}
use Rattle.pooled.specs.Judging.{size_of, summed}
use Rattle.pooled.specs.Keeping.{carry_own, eight, good_sum}
use Rattle.pooled.proofs.certificates_stand.Goals as goal

pub returns-clause-accepted : goal.returns-clause-accepted
returns-clause-accepted c = λ n h d qs small many own.
    accepted_for pool_of size_of (summed h d) n qs small (tells-enough n (signers_of qs) many) (eight (carried qs % 2 ^ 64)) (good_sum h d qs (carry_own h d qs own))
