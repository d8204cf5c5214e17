use Rattle.std.proofs.Common.{◌≡◌, sym, ap, ◌∙◌, rules}
use Rattle.std.specs.Option.{option_map}
use Rattle.journal.specs.Places.{placed, first_of}
use Rattle.slots.specs.Entries.{turn_of, placed_turn, left}
use Rattle.slots.proofs.Walk.{begun_room, begun_listed, first_read}
use Rattle.slots.proofs.reading.first_record.Goals as goal

pub next-requires : goal.next-requires
next-requires c = begun_room 0 c.args.slots.now c.from.result c.from.ensures

pub returns : goal.returns
returns c =
    let told : option_map placed c.map.result ≡ option_map placed_turn (option_map turn_of c.next.result) = search rules in
    told ∙ first_read c.next.result (left c.from.result) _ c.next.ensures.steps ∙ sym (ap first_of (begun_listed c.args.slots.now c.from.result c.from.ensures))
