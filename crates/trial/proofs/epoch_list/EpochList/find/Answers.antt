use Rattle.std.proofs.Common.{rules, eqb, tests}
use Rattle.std.proofs.lemmas.Iterator.{YieldsList-from_slice}
use Rattle.std.proofs.lemmas.Iterator.Consumers.{YieldsList-from_copied}
use Rattle.std.proofs.lemmas.Iterator.Search.{find_from_yields_List}
use Rattle.trial.proofs.Checked.{fit_found}
use Rattle.trial.proofs.epoch_list.EpochList.find.Goals as goal

pub returns-clause-fit : goal.returns-clause-fit
returns-clause-fit c =
    let list = c.args.self.now in
    fit_found list.sets.now list.sound c.args.epoch.0 c.find.result
    (find_from_yields_List (λ s. eqb s.epoch.0 c.args.epoch.0) _ _ _ c.find.ensures.ran (YieldsList-from_copied (YieldsList-from_slice list.sets.now cc)) (λ x b q k. search (rules, tests)))
