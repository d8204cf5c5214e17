-- Lines run the journal's operations.
use Rattle.std.proofs.Common.{ℕ, List, [], ◌∷◌, Result, ap}
use Rattle.byte_journal.proofs.Short.{formed}
use Rattle.journal.specs.Laws.{Op, append, sync, sync_all, prune, read, cut, Leaves, Ran}
use Rattle.journal.specs.Log.{Formed}
use Rattle.slots.proofs.Groups.{formed_log}
use Rattle.console_journal.specs.Doing.{Value, Did}
use Rattle.console_journal.specs.Held.{Stored, in_slots, in_bytes, Held, slots_value, bytes_value, slots_cost, bytes_cost, OperatedIn}
use Rattle.console_journal.specs.Laws.{disk_in, disk_of, Lines}
use Rattle.console_journal.specs.declared.answers.Answer.{Answer}
use Rattle.console_journal.specs.declared.answers.Refusal.{Refusal}
use Rattle.console_journal.specs.declared.open.Carried.{Carried}

did_leaves : (op : Op) (n : ℕ) (v : Value) (r : Result Answer Refusal) (w : Value) → Did op n v r w → Leaves op v.disk w.disk
did_leaves (append s b) n v r w (t, told, step, steady, power) = (t, step)
did_leaves (sync s) n v r w (t, told, step, steady, power) = (t, step)
did_leaves sync_all n v r w (t, told, step, steady, power) = (t, step)
did_leaves (prune s) n v r w (t, told, step, steady, power) = (t, step)
did_leaves read n v r w (t, shown, step, told, power) = (v.overrun, w.overrun, t, step)
did_leaves cut n v r w (told, step, clean, power) = step

operated_leaves : (op : Op) (s : Stored) (c : Carried) (r : Result Answer Refusal) (t : Stored) (d : Carried) → OperatedIn op s c r t d → Leaves op (disk_in s c) (disk_in t d)
operated_leaves op (in_slots xs) c r (in_slots ys) d (h, stays, len) = did_leaves op (slots_cost op xs) (slots_value c xs) r (slots_value d ys) h
operated_leaves op (in_slots xs) c r (in_bytes cs) d h = absurd h
operated_leaves op (in_bytes bs) c r (in_slots ys) d h = absurd h
operated_leaves op (in_bytes bs) c r (in_bytes cs) d (h, stays, len) = did_leaves op (bytes_cost op bs) (bytes_value c bs) r (bytes_value d cs) h

-- lines are operations, and between them nothing changes
pub lines_ran : (os : List Op) (h k : Held) → Lines os h k → Ran os (disk_of h) (disk_of k)
lines_ran [] h k e = ap disk_of e
lines_ran (o ∷ os) h k (m, r, (did, kept), ls) = (disk_of m, operated_leaves o h.stored h.carried r m.stored m.carried did, lines_ran os m k ls)

formed_in : (s : Stored) (c : Carried) → Formed (disk_in s c).log
formed_in (in_slots xs) c = formed_log c.bound xs
formed_in (in_bytes bs) c = formed c.bound bs

-- any medium at all is worth a journal's value
pub formed_held : (h : Held) → Formed (disk_of h).log
formed_held h = formed_in h.stored h.carried
