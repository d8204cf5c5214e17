use Rattle.std.proofs.Common.{sym, ap, ◌∙◌}
use Rattle.std.proofs.lemmas.Result.{err_from_is_err_and}
use Rattle.forms.specs.Reading.{ack_body, certified_body, tip_body}
use Rattle.forms.proofs.Ends.{first_rest, record_of, record_unknown}
use Rattle.forms.proofs.readers.read_activity.Goals as goal

pub returns-in_err-try_from : goal.returns-in_err-try_from
returns-in_err-try_from c =
    let e = err_from_is_err_and c.from_residual.result c.from_residual.ensures.1 in
    rw (e.1, e.2) (sym (record_unknown (first_rest c.args.record.now c.in-len1-up.len_at_least) c.in_err-try_from.ensures))

pub returns-in-Ack : goal.returns-in-Ack
returns-in-Ack c = c.ack_body.ensures ∙ ap ack_body c.new-body.ensures ∙ sym (record_of (first_rest c.args.record.now c.in-len1-up.len_at_least) c.in_ok-try_from.ensures c.in-Ack.is)

pub returns-in-Certified : goal.returns-in-Certified
returns-in-Certified c = c.certified_body.ensures ∙ ap certified_body c.new-body.ensures ∙ sym (record_of (first_rest c.args.record.now c.in-len1-up.len_at_least) c.in_ok-try_from.ensures c.in-Certified.is)

pub returns-in-Tip : goal.returns-in-Tip
returns-in-Tip c = c.tip_body.ensures ∙ ap tip_body c.new-body.ensures ∙ sym (record_of (first_rest c.args.record.now c.in-len1-up.len_at_least) c.in_ok-try_from.ensures c.in-Tip.is)
