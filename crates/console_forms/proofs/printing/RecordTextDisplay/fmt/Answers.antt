use Rattle.console_forms.proofs.printing.RecordTextDisplay.fmt.Goals as goal

pub returns-in-Ok-Ack-clause-writes : goal.returns-in-Ok-Ack-clause-writes
returns-in-Ok-Ack-clause-writes g c plain ok =
    let f = rw c.in-Ok-Ack.is at c.in-Ok-Ack.field-0-is in rw (c.in-Ok-Ack.is, f) (c.fmt.ensures.writes plain ok)
