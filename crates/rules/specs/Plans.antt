-- What is asked of the engine, what it answers, and the plan between them. Assumes nothing.
use Rattle.std.specs.Prelude.{ℕ, zero, suc, Bool, cond, List, [], ◌∷◌, Some, None, Option}
use Rattle.forms.specs.declared.faults.Fault.{Fault}
use Rattle.journal.specs.declared.places.Overrun.{Overrun}
use Rattle.rules.specs.State.{Bytes, Settings, Mem}
use Rattle.rules.specs.Acts.{Act}
use Rattle.rules.specs.Rules.{Work, fill}

-- what is asked of the engine; `room` is the length of the output buffer lent with the call
pub data Event : Type 0 where
  opening : (epoch clock room : ℕ) → Event
  epoch_change : (epoch clock : ℕ) → Event
  message : (key bytes : Bytes) (room : ℕ) → Event
  taking fetching : Event
  handing_back : (height : ℕ) (digest : Bytes) (clock room : ℕ) → Event
  cancelling lodging : (height : ℕ) → Event
  due : (clock room : ℕ) → Event
  closing : Event

-- what a call answers: it was carried out, with a slip's height where it hands one over; refused, by number; a record or a message that could not be read,
-- or a journal that reading does not come through; or the power went
pub data Answer : Type 0 where
  ok : Answer
  slip : (height : ℕ) → Answer
  refused : (number : ℕ) → Answer
  bad_record : (section number : ℕ) → Fault → Answer
  overran : Overrun → Answer
  bad_message : Fault → Answer
  power_off : Answer

-- the number of a refusal
abbrev pub number_of : Answer → Option ℕ
number_of ok = None
number_of (slip h) = None
number_of (refused n) = Some n
number_of (bad_record s n f) = Some 6
number_of (overran x) = Some 6
number_of (bad_message f) = Some 12
number_of power_off = None

-- what becomes of the engine once all acts are carried out
pub data After : Type 0 where
  stays : After
  runs : Mem → After
  closes : After

-- what a call is to do: its acts, what becomes of the engine, and the answer
pub record Plan : Type 0 where
  pub acts : List Act
  pub after : After
  pub answer : Answer

-- nothing is done, and the refusal answers
abbrev pub refuse : ℕ → Plan
refuse n = record { acts = []; after = stays; answer = refused n }

-- a piece of work, then a fill: a call that is carried out
abbrev pub carry : Settings → Work → Answer → Plan
carry s w a = record { acts = w.acts; after = runs (fill s w.mem); answer = a }

-- the first of these refusals that applies, or 0
abbrev pub refusal : List (ℕ × Bool) → ℕ
refusal [] = 0
refusal (r ∷ rs) = cond r.1 r.0 (refusal rs)

-- a refusal, or where it is 0 the plan
abbrev pub or_refuse : ℕ → Plan → Plan
or_refuse zero pl = pl
or_refuse (suc n) pl = refuse (suc n)
