use Rattle.std.proofs.Common.{◌≡◌, min, take, ap, ◌∙◌, arith}
use Rattle.journal.specs.Log.{Placed}
use Rattle.journal.specs.declared.places.Place.{Place}
use Rattle.slots.specs.Value.{body}
use Rattle.slots.proofs.entries.Entry.record.Goals as goal

pub returns : goal.returns
unfolding body
returns c =
    let x = c.args.self.now.slot.now in
    let e : c.min-len.result ≡ min x.len 1068 = omega (arith, c.min-len.ensures) in
    ap {B = Placed} (λ (p : Place). record { section = p.section; number = p.number; bytes = take c.min-len.result x.bytes }) c.place.ensures
    ∙ ap {B = Placed} (λ n. record { section = x.section; number = c.args.self.now.number; bytes = take n x.bytes }) e
