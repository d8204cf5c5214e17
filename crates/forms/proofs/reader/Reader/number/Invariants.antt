use Rattle.std.proofs.Common.{◌≡◌, ◌+◌, ◌*◌, ◌≤◌, ltb, drop}
use Rattle.forms.specs.Uint.{uint, groups}
use Rattle.forms.specs.Reading.{bytes_from}
use Rattle.forms.proofs.Groups.{past}
use Rattle.forms.proofs.reader.Reader.number.Given as goal

abbrev pub invariant-loop-k : goal.invariant-loop-k
invariant-loop-k l = record {
  so_far : uint l.most l.bytes ≡ past l.k l.value l.place (groups (ltb 0 l.k) l.room (drop l.k l.bytes));
  fits : l.value + l.place * l.room ≤ l.most;
  unread : l.self ≡ bytes_from l.bytes l.at;
}
