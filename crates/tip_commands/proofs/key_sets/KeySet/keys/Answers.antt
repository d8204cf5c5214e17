use Rattle.std.proofs.Common.{sym, ◌∙◌}
use Rattle.tip_commands.proofs.Placing.{keys_of-at_zero}
use Rattle.tip_commands.proofs.key_sets.KeySet.keys.Goals as goal

pub returns-clause-keys : goal.returns-clause-keys
returns-clause-keys c = c.as_slice.ensures.value ∙ sym (keys_of-at_zero c.args.self.now.keys.items)
