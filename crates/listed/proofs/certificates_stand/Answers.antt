use Rattle.bitmaps.proofs.Enoughs.{tells-enough}
use Rattle.provider.specs.Laws.{signers_of}
use Rattle.mapped.specs.Keeping.{accepted_for}
use Rattle.listed.specs.Certificates.{signatures}
use Rattle.listed.specs.Judging.{size_of, each_accepted}
use Rattle.listed.specs.Keeping.{accepted_each, exactly}
use Rattle.listed.proofs.Determined.{same-signers, same-all}
use Rattle.listed.proofs.certificates_stand.Goals as goal

pub returns-clause-accepted : goal.returns-clause-accepted
returns-clause-accepted c = λ n ok qs small many sized good.
    accepted_for signatures size_of (each_accepted ok) n qs small (tells-enough n (signers_of qs) many) (exactly qs sized) (accepted_each ok qs good sized)

pub returns-clause-signers : goal.returns-clause-signers
returns-clause-signers c = same-signers

pub returns-clause-signatures : goal.returns-clause-signatures
returns-clause-signatures c = same-all
