use Rattle.std.proofs.Common.{◌≡◌, ◌+◌, ◌<◌, arith, rules}
use Rattle.std.proofs.lemmas.List.{length-drop}
use Rattle.area.specs.Area.{body, holds, size}
use Rattle.area.proofs.Steps.{from-mark, from-rest, from-size}
use Rattle.area.proofs.records.body_at.Goals as goal

pub returns-then-len-gt-MAX_RECORD : goal.returns-then-len-gt-MAX_RECORD
unfolding holds
returns-then-len-gt-MAX_RECORD c =
    let sized = from-size c.args.area.now c.in_ok-get.field-0.now c.args.at c.in_ok-get.ensures.lookup.0.2 in
    let long : 1068 < size c.args.area.now c.args.at = omega arith in
    search rules

pub returns : goal.returns
unfolding holds body
returns c =
    let bytes = c.args.area.now in
    let at = c.args.at in
    let found = c.in_ok-get.ensures.lookup.0.2 in
    let marked = from-mark bytes c.in_ok-get.field-0.now at found in
    let sized = from-size bytes c.in_ok-get.field-0.now at found in
    let len : size bytes at ≡ c.from-len.result = omega arith in
    let inside = length-drop (at + 3) bytes in
    let told = rw (from-rest bytes c.in_ok-get.field-0.now at found) at c.get-2.ensures.lookup in
    search rules
