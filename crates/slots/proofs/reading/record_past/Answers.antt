use Rattle.std.proofs.Common.{◌≡◌, sym, refl, ap, ◌∙◌, rules}
use Rattle.std.specs.Option.{option_map}
use Rattle.std.specs.List.{find}
use Rattle.std.proofs.lemmas.Iterator.Consumers.{YieldsList-from_first}
use Rattle.std.proofs.lemmas.Iterator.Search.{find_from_yields_List}
use Rattle.journal.specs.Places.{past, placed, first_of}
use Rattle.slots.specs.Entries.{Turn, turn_of, placed_turn, left}
use Rattle.slots.proofs.Walk.{begun_room, begun_past, found-past}
use Rattle.slots.proofs.reading.record_past.Goals as goal

pub find-requires-clause-can : goal.find-requires-clause-can
find-requires-clause-can c = begun_room c.args.place.section c.args.slots.now c.from.result c.from.ensures

pub returns : goal.returns
unfolding past
returns c =
    let s = c.args.place.section in
    let n = c.args.place.number in
    let l = left c.from.result in
    let told : option_map placed c.map.result ≡ option_map placed_turn (option_map turn_of c.find.result) = search rules in
    let hit : option_map turn_of c.find.result ≡ find (λ (t : Turn). past s n (placed_turn t)) l =
    find_from_yields_List (λ t. past s n (placed_turn t)) c.find.new.self _ c.find.result c.find.ensures.ran (YieldsList-from_first turn_of left l refl) (λ x b q k. search rules) in
    told ∙ ap (option_map placed_turn) hit ∙ sym (found-past s n l) ∙ sym (ap first_of (begun_past s n c.args.slots.now c.from.result c.from.ensures))
