use Rattle.std.proofs.Common.{rules}
use Rattle.session.proofs.sessions.Session.take.Goals as goal
use Rattle.session.proofs.Keeping.{in_step, lost}

pub returns-then-is_none-clause-in_step : goal.returns-then-is_none-clause-in_step
returns-then-is_none-clause-in_step c = in_step c.args.self.now.file c.args.self.now.file _ _ _ _ c.take-reply.ensures.journal (λ none. none) (search rules)

pub returns-in-Ok-clause-in_step : goal.returns-in-Ok-clause-in_step
returns-in-Ok-clause-in_step c = in_step _ c.in-Ok.file _ _ _ _ c.take-reply.ensures.journal (search rules) (search rules)

pub returns-clause-does : goal.returns-clause-does
returns-clause-does c = lost _ _ _ _ c.take-reply.new.self c.take-reply.result _ (search rules) (record { state = c.take-reply.ensures.state; reply = c.take-reply.ensures.reply; journal = c.take-reply.ensures.journal; counts = c.take-reply.ensures.counts })
    (record { journal = c.lose_journal.ensures.journal; state = c.lose_journal.ensures.state; counts = c.lose_journal.ensures.counts }) (search rules) (search rules)
