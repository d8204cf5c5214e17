use Rattle.std.proofs.Common.{◌≡◌, ℕ, ◌+◌, ◌-◌, List, length, take, drop, subst₂, arith, rules}
use Rattle.area.specs.Writes.{Freed}
use Rattle.areas_writing.proofs.Written.{Written, written}
use Rattle.areas_writing.proofs.writes.free_at.Goals as goal

pub returns : goal.returns
returns c =
    let bs = c.args.medium.now in
    let from = c.offset-from.result in
    let k = from + 4096 - from in
    let l : length c.free.new.area ≡ length (take k (drop from bs)) = search rules in
    let w : Written bs c.free.new.area c.args.at from k = written bs c.free.new.area c.args.at from k c.offset-from.ensures.place (omega arith) c.requires l in
    record {
      step = subst₂ (λ (x y : List ℕ). Freed x c.args.power.now c.free.result y c.free.new.power) w.was w.is c.free.ensures;
      others = w.others;
      rest = w.rest;
    }
