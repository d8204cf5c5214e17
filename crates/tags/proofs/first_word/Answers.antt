use Rattle.std.proofs.Common.{ℕ, List, ◌++◌, drop, replicate, ap, ◌∙◌}
use Rattle.tags.specs.Words.{word}
use Rattle.tags.proofs.Words.{word-padded}
use Rattle.tags.proofs.first_word.Goals as goal

pub returns : goal.returns
unfolding word
returns c =
    let n = c.min-len.result in
    c.from_be_bytes.ensures
    ∙ ap (λ (front : List ℕ). word (front ++ drop n (replicate 8 0))) c.copy_from_slice.ensures.after
    ∙ word-padded n c.args.bytes.now c.min-len.ensures
