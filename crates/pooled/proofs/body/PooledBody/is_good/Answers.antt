use Rattle.std.proofs.Common.{ℕ, ap, ◌∙◌}
use Rattle.std.proofs.lemmas.Slice.Eq.{slice_eq-Decides, bytes_eq-Decides}
use Rattle.std.proofs.lemmas.Bool.Decides.{same_from_decides, Decides-eqb}
use Rattle.std.specs.Str.{bytes_eq}
use Rattle.tags.specs.Words.{eight_bytes}
use Rattle.pooled.proofs.body.PooledBody.is_good.Goals as goal

pub returns : goal.returns
unfolding eight_bytes
returns c =
    let given = c.args.body.now in
    let own = c.to_be_bytes.result in
    same_from_decides c.eq.result (bytes_eq given own) (slice_eq-Decides Decides-eqb given own c.eq.result c.eq.ensures) (bytes_eq-Decides given own)
    ∙ ap (bytes_eq given) c.to_be_bytes.ensures
    ∙ ap (λ (sum : ℕ). bytes_eq given (eight_bytes sum)) c.tag_sum.ensures
