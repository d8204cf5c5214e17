use Rattle.std.proofs.Common.{◌≡◌, ◌∷◌, [], ◌++◌, map, sym, ap, ◌∙◌}
use Rattle.trial.specs.Faults.{checked, list_fault}
use Rattle.console_provider.specs.Lending.{lent}
use Rattle.console_provider.proofs.Alike.{lent_shown, same_list_fault, shown_more}
use Rattle.console_provider.proofs.Passing.{check_none, not_passed}
use Rattle.console_provider.proofs.lending.check_added.Goals as goal
use Rattle.console_provider.proofs.lending.check_added.Goals.{In_ok-push}

-- the list that is checked has the fault of the sets once they are lent
same : (c : In_ok-push) → list_fault c.push.new.self.items ≡ list_fault (map lent (c.args.sets.now ++ c.args.added.now ∷ []))
same c =
    let xs = c.args.sets.now ++ c.args.added.now ∷ [] in
    ap list_fault c.in_ok-push.ensures.items
    ∙ same_list_fault (c.in_ok-sets.sets.items ++ c.lend.result ∷ []) (map lent xs)
    (shown_more c.in_ok-sets.sets.items c.lend.result c.args.sets.now c.args.added.now c.in_ok-sets.ensures c.lend.ensures ∙ sym (lent_shown xs))

pub returns-in_err-check : goal.returns-in_err-check
returns-in_err-check c =
    not_passed c.from_residual-in_err-check.result c.in_err-check.field-0.0 _ c.from_residual-in_err-check.ensures.1
    (c.in_err-check.ensures ∙ ap checked (ap list_fault c.deref.ensures.value ∙ same (goal.at.returns-in_err-check c).In_ok-push))

pub returns : goal.returns
returns c =
    let whole = c.in_ok-check.ensures ∙ ap checked (ap list_fault c.deref.ensures.value ∙ same (goal.at.returns c).In_ok-push) in
    let none = check_none _ whole in rw none
