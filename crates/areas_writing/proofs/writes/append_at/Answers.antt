use Rattle.std.proofs.Common.{◌≡◌, ℕ, ◌+◌, ◌-◌, List, length, take, drop, subst₂, arith, rules}
use Rattle.area.specs.Writes.{Appended}
use Rattle.areas_writing.proofs.Written.{Written, written}
use Rattle.areas_writing.proofs.writes.append_at.Goals as goal

pub returns : goal.returns
returns c =
    let bs = c.args.medium.now in
    let from = c.offset-from.result in
    let k = from + 4096 - from in
    let l : length c.append.new.area ≡ length (take k (drop from bs)) = search rules in
    let w : Written bs c.append.new.area c.args.at from k = written bs c.append.new.area c.args.at from k c.offset-from.ensures.place (omega arith) c.requires l in
    record {
      step = subst₂ (λ (x y : List ℕ). Appended x c.args.power.now c.args.body.now c.append.result y c.append.new.power) w.was w.is c.append.ensures;
      others = w.others;
      rest = w.rest;
      back = w.back;
    }
