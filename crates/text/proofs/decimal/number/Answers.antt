use Rattle.std.proofs.Common.{get_or, sym, ◌∙◌}
use Rattle.text.proofs.Numbers.{number-goes, number-stops, number_ends, number_of_lem, pushed-fits}
use Rattle.text.proofs.decimal.number.Goals as goal

pub returns-in_err-value : goal.returns-in_err-value
returns-in_err-value c =
    c.from_residual.ensures
    ∙ number_of_lem c.args.word.now _ c.if-is_empty.ensures
    (c.loop-byte.invariant.0 ∙ number-stops c.args.word.now c.loop-byte.byte-index c.loop-byte.value c.loop-byte-test.true (sym c.push_digit.ensures ∙ c.in_err-value.was))

pub loop-byte-preserved : goal.loop-byte-preserved
loop-byte-preserved c =
    let h = sym c.push_digit.ensures ∙ c.in_ok-value.was in (
      c.loop-byte.invariant.0
          ∙ number-goes c.args.word.now c.loop-byte.byte-index c.loop-byte.value c.in_ok-value.value c.loop-byte-test.true h,
      pushed-fits c.loop-byte.value (get_or c.args.word.now c.loop-byte.byte-index 0) c.in_ok-value.value h,
    )

pub returns : goal.returns
returns c =
    number_of_lem c.args.word.now _ c.if-is_empty.ensures
    (c.loop-byte.invariant.0 ∙ number_ends c.args.word.now c.loop-byte.byte-index c.loop-byte.value c.loop-byte-test.false c.loop-byte.invariant.1)
