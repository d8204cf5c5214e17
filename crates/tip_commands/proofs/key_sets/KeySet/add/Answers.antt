use Rattle.std.proofs.Common.{◌≡◌, None, insert, sym, ap, ◌∙◌, arith}
use Rattle.table.specs.Keys.{ahead}
use Rattle.table.specs.Rows.{at, put}
use Rattle.types.specs.Numbers.{height}
use Rattle.tip_commands.proofs.Placing.{found, searched, ascends-put}
use Rattle.tip_commands.specs.Order.{ascends, at_zero}
use Rattle.tip_commands.proofs.key_sets.KeySet.add.Goals as goal
use Rattle.tip_commands.proofs.key_sets.KeySet.add.Goals.{In-Err}

pub returns-in-Ok-clause-new : goal.returns-in-Ok-clause-new
returns-in-Ok-clause-new c = grind (arith, found c.args.key c.args.key c.args.self.now.keys.items c.in-Ok.field-0 c.args.self.now.ascending)

-- the place that the search answers
place : (c : In-Err) → (at ahead c.args.key (at_zero c.args.self.now.keys.items) ≡ None)
    × (put ahead c.args.key (height 0) (at_zero c.args.self.now.keys.items) ≡ at_zero (insert c.args.self.now.keys.items c.in-Err.place c.args.key))
place c = searched c.args.key c.args.self.now.keys.items c.deref.result.now c.in-Err.place c.deref.ensures.0 c.args.self.now.ascending c.in-Err.ensures.bound c.in-Err.ensures.position

pub returns-in-Err-clause-new : goal.returns-in-Err-clause-new
returns-in-Err-clause-new c = rw (place (goal.at.returns-in-Err-clause-new c).In-Err).0

pub returns-in-Err-clause-keys : goal.returns-in-Err-clause-keys
returns-in-Err-clause-keys c = ap at_zero c.insert.ensures.items ∙ sym (place (goal.at.returns-in-Err-clause-keys c).In-Err).1

pub invariant_of-self : goal.invariant_of-self
invariant_of-self c =
    record {
      ascending =
          ap ascends (ap at_zero c.insert.ensures.items ∙ sym (place (goal.at.invariant_of-self c).In-Err).1)
          ∙ ascends-put c.args.key (height 0) (at_zero c.args.self.now.keys.items) c.args.self.now.ascending;
    }
