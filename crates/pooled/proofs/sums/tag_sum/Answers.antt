use Rattle.std.proofs.Common.{◌≡◌, ℕ, ◌+◌, ◌%◌, ◌^◌, List, refl, rules, ap, ◌∙◌}
use Rattle.std.proofs.lemmas.Fn.{fold_over, fronts, slice_gives}
use Rattle.tags.specs.Tags.{tag_of}
use Rattle.pooled.specs.Judging.{tag_sum}
use Rattle.pooled.proofs.Pushes.{tag_sum_more}
use Rattle.pooled.proofs.sums.tag_sum.Goals as goal

pub returns : goal.returns
returns c =
    let h = c.args.item.now.height.0 in
    let d = c.args.item.now.digest.now in
    fold_over fronts (λ i. i.now) _ (λ (is : List ℕ) (sum : ℕ). sum ≡ tag_sum h d is % 2 ^ 64) _
    (λ is a i b f' was called. let step : b ≡ (a + tag_of i.now h d) % 2 ^ 64 = search rules in (tag_sum_more h d is i.now a b was step, search rules))
    c.iter.result c.iter.result.rest.now 0 c.fold.result (slice_gives c.iter.result) refl c.fold.ensures.ran
    ∙ ap (λ (is : List ℕ). tag_sum h d is % 2 ^ 64) c.iter.ensures.rest
