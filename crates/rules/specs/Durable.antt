-- Whatever is told is durable when it is told. Assumes nothing.
use Rattle.std.specs.Prelude.{◌≡◌, ℕ, List, [], ◌∷◌, None}
use mathlib.Core.List.{Memᴰ}
use Rattle.forms.specs.Writing.{write}
use Rattle.journal.specs.Log.{Log, Section}
use Rattle.provider.specs.Answers.{Answers}
use Rattle.provider.specs.Laws.{Lawful}
use Rattle.rules.specs.State.{Bytes, Settings, section}
use Rattle.rules.specs.Acts.{Act, append, sync, prune, sync_all, read, tell, send, block, hand_out, take_back, lodge, fetch, drop_below, hear, sign, make, fail, in_log}
use Rattle.rules.specs.Plans.{Event}
use Rattle.rules.specs.Calls.{plan}
use Rattle.rules.specs.Runs.{Sys, Run, Deed}
use Rattle.rules.specs.Limits.{height_in}

-- a record is durable in a section of the journal
abbrev pub Durable : ℕ → Bytes → Log → Type 0
Durable n b v = (x : Section) × Memᴰ x v.sections × (x.number ≡ n) × Memᴰ b x.durable

-- what an act asks of the journal: what it tells is durable, in the section of its height
abbrev pub Safe : Settings → Act → Log → Type 0
Safe s (append n x) v = Unit {0}
Safe s (sync n) v = Unit {0}
Safe s (prune n) v = Unit {0}
Safe s sync_all v = Unit {0}
Safe s (read o) v = Unit {0}
Safe s (tell x) v = Durable (section s (height_in x)) (write x) v
Safe s (send t a) v = Unit {0}
Safe s (block k) v = Unit {0}
Safe s (hand_out h) v = Unit {0}
Safe s (take_back h) v = Unit {0}
Safe s (lodge h) v = Unit {0}
Safe s (fetch h) v = Unit {0}
Safe s (drop_below h) v = Unit {0}
Safe s (hear a) v = Unit {0}
Safe s (sign a) v = Unit {0}
Safe s (make c) v = Unit {0}
Safe s fail v = Unit {0}

-- each act, upon the journal that those before it left
abbrev pub ToldSafely : Settings → List Act → Log → Type 0
ToldSafely s [] v = Unit {0}
ToldSafely s (a ∷ acts) v = Safe s a v × ToldSafely s acts (in_log a v)

-- in every run, whatever is asked next: what the call tells, a certificate above all, is durable when it is told
abbrev pub ToldDurable : Type 0
ToldDurable =
    (p : Answers) (s : Settings) (x : Sys) (past : List Deed) → Lawful p → Run p s x past →
    (e : Event) → ToldSafely s (plan p s x.engine x.log None e).acts x.log
