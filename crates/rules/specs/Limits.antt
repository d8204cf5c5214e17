-- Heights, tips and records stay within what the forms can hold. Assumes nothing.
use Rattle.std.specs.Prelude.{◌≡◌, ℕ, ◌+◌, ◌^◌, ◌<◌, ◌≤◌, List, Ok, All}
use mathlib.Core.List.{Memᴰ}
use Rattle.forms.specs.Values.{Activity, ack, certified, tip}
use Rattle.forms.specs.Reading as forms
use Rattle.forms.specs.Sizes as sizes
use Rattle.forms.specs.Writing.{write}
use Rattle.journal.specs.Log.{Placed, reading}
use Rattle.provider.specs.Answers.{Answers}
use Rattle.provider.specs.Laws.{Lawful}
use Rattle.rules.specs.State.{Settings, Engine, shut, running, halted, section}
use Rattle.rules.specs.Runs.{Sys, Run, Deed}

-- the height that an activity is of
abbrev pub height_in : Activity → ℕ
height_in (ack a) = a.height
height_in (certified c) = c.height
height_in (tip t) = t

-- a record is the written form of an activity of the sizes that records can hold, it is read back as that, and it stands in the section of its height
pub record Readable (s : Settings) (r : Placed) : Type 0 where
  pub says : Activity
  pub sized : sizes.Sized says
  pub written : r.bytes ≡ write says
  pub back : forms.read r.bytes ≡ Ok says
  pub placed : r.section ≡ section s (height_in says)

-- a running engine's tip is at most 2^62, and its pending heights are below 2^62 + 8
abbrev pub LowHeights : Engine → Type 0
LowHeights shut = Unit {0}
LowHeights (running m k) = (m.tip ≤ 2 ^ 62) × All (λ x. x.height < 2 ^ 62 + 8) m.pending
LowHeights (halted k) = Unit {0}

-- in every run
abbrev pub RecordsFit : Type 0
RecordsFit =
    (p : Answers) (s : Settings) (x : Sys) (past : List Deed) → Lawful p → Run p s x past →
    ((r : Placed) → Memᴰ r (reading x.log.sections) → Readable s r) × LowHeights x.engine
