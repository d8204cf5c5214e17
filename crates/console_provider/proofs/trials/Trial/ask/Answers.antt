use Rattle.std.proofs.Common.{◌≡◌, List, map, sym, ap, ◌∙◌}
use Rattle.provider_commands.specs.Reading.{query}
use Rattle.provider_commands.specs.Sets.{given, shown}
use Rattle.provider_commands.specs.declared.commands.Kind.{Kind}
use Rattle.provider_commands.specs.declared.commands.Kind.TheVariants.{Listed, Pooled}
use Rattle.trial.specs.declared.epoch_set.EpochSet.{EpochSet}
use Rattle.trial.specs.Faults.{list_fault}
use Rattle.console_provider.proofs.Alike.{lent_shown, same_list_fault, same_reply}
use Rattle.console_provider.proofs.Passing.{meant, faultless}
use Rattle.console_provider.specs.Doing.{body_of, reply}
use Rattle.console_provider.specs.Lending.{lent}
use Rattle.console_provider.proofs.trials.Trial.ask.Goals as goal
use Rattle.console_provider.proofs.trials.Trial.ask.Goals.{In_ok-sets, In-Listed, In-Pooled}

-- the sets that are lent have the signers of those held
same : (c : In_ok-sets) → map shown c.in_ok-sets.sets.items ≡ map given c.args.self.now.sets.items
same c = c.in_ok-sets.ensures ∙ ap (map given) c.deref.ensures.value

pub list-epochs-requires : goal.list-epochs-requires
list-epochs-requires c =
    let sets = c.args.self.now.sets.items in
    let alike : list_fault c.in_ok-sets.sets.items ≡ list_fault (map lent sets) =
    same_list_fault c.in_ok-sets.sets.items (map lent sets) (same (goal.at.list-epochs-requires c).In_ok-sets ∙ sym (lent_shown sets)) in
    ap list_fault c.deref-2.ensures.value ∙ alike ∙ faultless (list_fault (map lent sets)) c.args.self.now.sound

pub returns-in-Listed : goal.returns-in-Listed
returns-in-Listed c = λ ss about.
    let ask = λ (k : Kind) (ts : List EpochSet). reply (body_of k) ts c.args.epoch.0 (query c.args.question.now) in
    meant c.reply.result _ _ c.reply.ensures
    (ap (ask Listed) (c.new.ensures ∙ c.list-epochs.ensures ∙ c.deref-2.ensures.value)
    ∙ same_reply Listed c.in_ok-sets.sets.items ss c.args.epoch.0 (query c.args.question.now) (same (goal.at.returns-in-Listed c).In_ok-sets ∙ sym about)
    ∙ ap (λ (k : Kind). ask k ss) (sym c.in-Listed.is))

pub returns : goal.returns
returns c = λ ss about.
    let ask = λ (k : Kind) (ts : List EpochSet). reply (body_of k) ts c.args.epoch.0 (query c.args.question.now) in
    meant c.reply-in-Pooled.result _ _ c.reply-in-Pooled.ensures
    (ap (ask Pooled) (c.new-in-Pooled.ensures ∙ c.list-epochs.ensures ∙ c.deref-2.ensures.value)
    ∙ same_reply Pooled c.in_ok-sets.sets.items ss c.args.epoch.0 (query c.args.question.now) (same (goal.at.returns c).In_ok-sets ∙ sym about)
    ∙ ap (λ (k : Kind). ask k ss) (sym c.in-Pooled.is))
