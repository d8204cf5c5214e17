use Rattle.session.proofs.Keeping.{flushed}
use Rattle.session.proofs.sessions.Session.answer.Goals as goal

pub returns-clause-printed : goal.returns-clause-printed
returns-clause-printed g c = (c.take-reply.result, c.take-reply.ensures.does, flushed _ _ _ _ c.in_ok-write.ensures.bytes c.in_ok-flush.ensures.bytes)
