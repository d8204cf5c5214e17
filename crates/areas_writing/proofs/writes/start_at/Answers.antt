use Rattle.std.proofs.Common.{◌≡◌, ℕ, ◌+◌, ◌-◌, List, length, take, drop, subst₂, arith, rules}
use Rattle.area.specs.Writes.{Started}
use Rattle.areas_writing.proofs.Written.{Written, written}
use Rattle.areas_writing.proofs.writes.start_at.Goals as goal

pub returns : goal.returns
returns c =
    let bs = c.args.medium.now in
    let from = c.offset-from.result in
    let k = from + 4096 - from in
    let l : length c.start.new.area ≡ length (take k (drop from bs)) = search rules in
    let w : Written bs c.start.new.area c.args.at from k = written bs c.start.new.area c.args.at from k c.offset-from.ensures.place (omega arith) c.requires l in
    record {
      step = subst₂ (λ (x y : List ℕ). Started x c.args.power.now c.args.section c.start.result y c.start.new.power) w.was w.is c.start.ensures;
      others = w.others;
      rest = w.rest;
    }
