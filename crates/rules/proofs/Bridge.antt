-- What the forms promise, as the law takes it. Assumes nothing.
use Rattle.std.proofs.Common.{ap, arith}
use Rattle.forms.specs.Values.{Activity, ack, certified, tip}
use Rattle.forms.specs.Reading as forms
use Rattle.forms.specs.Sizes.{Sized}
use Rattle.forms_laws.proofs.RoundTrip.{record_back, one-message}
use Rattle.rules.specs.Promises.{Promises}
use Rattle.rules.proofs.Ledger.{Small}
use Rattle.rules.proofs.Entries.{Back}
use Rattle.rules.proofs.Events.{Sizes}
use Rattle.rules.proofs.Law as law

-- what the engine writes has the sizes that records hold
pub sized : (x : Activity) → Small x → Sized x
sized (ack a) m = record { height = omega (arith, m.high); epoch = omega (arith, m.epoch); signer = m.signer; digest = m.digest; signature = m.signature }
sized (certified c) m = record { height = omega (arith, m.high); digest = m.digest }
sized (tip t) m = omega arith

pub back : Back
back x m = ap forms.plain (record_back x (sized x m))

pub sizes : Sizes
sizes b t bytes q =
    let s = (one-message b t bytes q).0 in
    record { epoch = omega (arith, s.ack.epoch); signer = s.ack.signer; digest = s.ack.digest; signature = s.ack.signature }

pub promises : Promises
promises = law.promises back sizes
