use Rattle.std.proofs.Common.{List, sym, ap, ◌∙◌}
use Rattle.journal.specs.Log.{Placed}
use Rattle.journal.specs.Places.{beyond, first_of}
use Rattle.slots.specs.Order.{order}
use Rattle.slots.proofs.Groups.{formed_log}
use Rattle.slots.proofs.Listed.{reading-grouped}
use Rattle.slots.proofs.SlotJournalJournal.next.Goals as goal

pub returns : goal.returns
returns c =
    let j = c.args.self.now in
    record {
      first = c.next_record.ensures ∙ ap (λ (l : List Placed). first_of (beyond c.args.after l)) (sym (reading-grouped (order j.slots.now)));
      formed = formed_log j.bound j.slots.now;
    }
