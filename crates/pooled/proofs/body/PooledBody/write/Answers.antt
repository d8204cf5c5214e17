use Rattle.std.proofs.Common.{ℕ, List, ◌++◌, length, ap, ◌∙◌, arith}
use Rattle.provider.specs.Values.{certified}
use Rattle.bitmaps.proofs.Appended.{appended-room}
use Rattle.tags.specs.Words.{eight_bytes}
use Rattle.pooled.proofs.body.PooledBody.write.Goals as goal

pub returns : goal.returns
unfolding eight_bytes
returns c =
    let before = certified c.args.certificate.now in
    c.append.ensures.held
    ∙ appended-room c.to_be_bytes.result before (omega (arith, c.requires.room, ap length c.to_be_bytes.ensures))
    ∙ ap (λ (part : List ℕ). before ++ part) c.to_be_bytes.ensures
    ∙ ap (λ (sum : ℕ). before ++ eight_bytes sum) c.carried.ensures
