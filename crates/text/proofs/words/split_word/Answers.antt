use Rattle.std.proofs.Common.{sym, ◌∙◌}
use Rattle.std.proofs.lemmas.List.{take_rest}
use Rattle.text.proofs.Splitting.{words_none, first_split}
use Rattle.text.proofs.words.split_word.Goals as goal

pub returns-in_err-rest : goal.returns-in_err-rest
returns-in_err-rest c = rw c.from_residual.ensures (words_none c.args.line.now (sym c.word_start.ensures ∙ c.in_err-rest.was))

pub returns : goal.returns
returns c =
    let e = rw take_rest at c.word_len-end.ensures in
    rw (take_rest, take_rest) (first_split c.args.line.now c.in_ok-rest.field-0 c.word_len-end.result (sym c.word_start.ensures ∙ c.in_ok-rest.was) e)
