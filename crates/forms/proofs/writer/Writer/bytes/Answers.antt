use Rattle.std.proofs.Common.{◌≡◌, ◌+◌, ◌-◌, ◌++◌, refl, ap, ◌∙◌, length, take, arith}
use Rattle.std.proofs.lemmas.Slice.{take-put_mid, drop-put_mid}
use borrow.Rule.Slice.PartMut.{same_len_mid}
use Rattle.forms.proofs.writer.Writer.bytes.Goals as goal

pub returns : goal.returns
returns c =
    let w = c.args.self.now in
    let n = length c.args.bytes.now in
    let k = w.at + n - w.at in
    let part = c.copy_from_slice.new.self in
    let copied : part ≡ c.args.bytes.now = c.copy_from_slice.ensures.after in
    let long = same_len_mid w.at k w.out.now part c.copy_from_slice.ensures.len in
    record {
      same_buffer = refl;
      same_length = long;
      fits = omega (arith, long, c.requires);
      next = refl;
      written = take-put_mid w.at k w.out.now part (w.at + n) (omega (arith, ap length copied)) (omega arith) ∙ ap (λ bs. take w.at w.out.now ++ bs) copied;
      behind = drop-put_mid w.at k w.out.now part (w.at + n) (omega arith) (omega arith) (omega (arith, ap length copied));
    }
