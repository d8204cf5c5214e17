-- A call as a list of acts, carried out in order, to the end or to the first that stops. Assumes nothing.
use Rattle.std.specs.Prelude.{◌≡◌, ℕ, ◌+◌, ◌-◌, ◌<◌, ◌≤◌, Bool, false, cond, not, ◌⊎◌, List, [], ◌∷◌, length, Some, None, Option, ◌==◌, nat_lt}
use Rattle.forms.specs.Values.{Ack, Cert, Activity}
use Rattle.forms.specs.Writing.{write}
use Rattle.journal.specs.declared.places.Overrun.{Overrun}
use Rattle.journal.specs.Log.{Log, Firmer, appended, synced, all_synced, synced_to, pruned}
use Rattle.journal.specs.Cuts.{Cut}
use Rattle.rules.specs.Lists.{those}
use Rattle.rules.specs.State.{Bytes, Desk}

-- what a call does, one after the other
pub data Act : Type 0 where
  -- on the journal
  append : (section : ℕ) → Activity → Act
  sync : (section : ℕ) → Act
  prune : (section : ℕ) → Act
  sync_all : Act
  read : Option Overrun → Act
  -- to the outside
  tell : Activity → Act
  send : (tip : ℕ) → Ack → Act
  block : (key : Bytes) → Act
  -- on the slips
  hand_out : (height : ℕ) → Act
  take_back : (height : ℕ) → Act
  lodge : (height : ℕ) → Act
  fetch : (height : ℕ) → Act
  drop_below : (height : ℕ) → Act
  -- what is only remembered: an ack of a message passed all checks, the engine signed one, it assembled a certificate
  hear : Ack → Act
  sign : Ack → Act
  make : Cert → Act
  -- assembling failed
  fail : Act

-- how acts ended: all were carried out, or one stopped: no room, a section below the bound, assembling failed, or the power went
pub data Ended : Type 0 where
  whole full below_bound failed off : Ended

-- one of a number is gone
abbrev pub without : ℕ → List ℕ → List ℕ
without h [] = []
without h (x ∷ xs) = cond (h == x) xs (x ∷ without h xs)

-- a number in its place
abbrev pub inserted : ℕ → List ℕ → List ℕ
inserted h [] = h ∷ []
inserted h (x ∷ xs) = cond (nat_lt h x) (h ∷ x ∷ xs) (x ∷ inserted h xs)

-- lodged slips below a height are back
abbrev pub slips_dropped : ℕ → Desk → Desk
slips_dropped h k = record { out = k.out - length (those (λ x. nat_lt x h) k.lodged); lodged = those (λ x. not (nat_lt x h)) k.lodged }

-- what an act does to the slips
abbrev pub at_desk : Act → Desk → Desk
at_desk (append s x) k = k
at_desk (sync s) k = k
at_desk (prune s) k = k
at_desk sync_all k = k
at_desk (read o) k = k
at_desk (tell a) k = k
at_desk (send t a) k = k
at_desk (block x) k = k
at_desk (hand_out h) k = record { out = k.out + 1; lodged = k.lodged }
at_desk (take_back h) k = record { out = k.out - 1; lodged = k.lodged }
at_desk (lodge h) k = record { out = k.out; lodged = inserted h k.lodged }
at_desk (fetch h) k = record { out = k.out; lodged = without h k.lodged }
at_desk (drop_below h) k = slips_dropped h k
at_desk (hear a) k = k
at_desk (sign a) k = k
at_desk (make c) k = k
at_desk fail k = k

-- what reading makes durable: all, or what stands before an overrun
abbrev pub read_to : Option Overrun → Log → Log
read_to None v = all_synced v
read_to (Some x) v = synced_to x.place.section x.place.number v

-- what an act does to the journal's value
abbrev pub in_log : Act → Log → Log
in_log (append s x) v = appended s (write x) v
in_log (sync s) v = synced s v
in_log (prune s) v = pruned s v
in_log sync_all v = all_synced v
in_log (read o) v = read_to o v
in_log (tell a) v = v
in_log (send t a) v = v
in_log (block x) v = v
in_log (hand_out h) v = v
in_log (take_back h) v = v
in_log (lodge h) v = v
in_log (fetch h) v = v
in_log (drop_below h) v = v
in_log (hear a) v = v
in_log (sign a) v = v
in_log (make c) v = v
in_log fail v = v

-- whether a record may be appended: its section is not below the bound, and it is no longer than a record may be
abbrev pub MayAppend : ℕ → Activity → Log → Type 0
MayAppend s x v = (v.bound ≤ s) × (length (write x) ≤ 1068)

-- whether an act may go through
abbrev pub Goes : Act → Log → Type 0
Goes (append s x) v = MayAppend s x v
Goes (sync s) v = Unit {0}
Goes (prune s) v = Unit {0}
Goes sync_all v = Unit {0}
Goes (read o) v = Unit {0}
Goes (tell a) v = Unit {0}
Goes (send t a) v = Unit {0}
Goes (block x) v = Unit {0}
Goes (hand_out h) v = Unit {0}
Goes (take_back h) v = Unit {0}
Goes (lodge h) v = Unit {0}
Goes (fetch h) v = Unit {0}
Goes (drop_below h) v = Unit {0}
Goes (hear a) v = Unit {0}
Goes (sign a) v = Unit {0}
Goes (make c) v = Unit {0}
Goes fail v = ⊥

-- a journal's space rule: whether a record of some length still fits into a section
abbrev pub Space : Type 0
Space = ℕ → ℕ → Bool

-- how an append may stop, and what it leaves of the journal
abbrev pub StopsAppend : Space → ℕ → Activity → Log → Ended → Log → Type 0
StopsAppend room s x v whole w = ⊥
StopsAppend room s x v below_bound w = (s < v.bound) × Firmer v w
StopsAppend room s x v full w = (v.bound ≤ s) × ((1068 < length (write x)) ⊎ (room s (length (write x)) ≡ false)) × Firmer v w
StopsAppend room s x v failed w = ⊥
StopsAppend room s x v off w = MayAppend s x v × Cut 0 (appended s (write x) v) w

-- how an act that passes on what a journal holds back may stop
abbrev pub StopsSync : Log → Ended → Log → Type 0
StopsSync v whole w = ⊥
StopsSync v below_bound w = ⊥
StopsSync v full w = Firmer v w
StopsSync v failed w = ⊥
StopsSync v off w = Cut 0 v w

-- how an act may stop
abbrev pub Stops : Space → Act → Log → Ended → Log → Type 0
Stops room (append s x) v r w = StopsAppend room s x v r w
Stops room (sync s) v r w = StopsSync v r w
Stops room (prune s) v r w = (r ≡ off) × Cut s v w
Stops room sync_all v r w = StopsSync v r w
Stops room (read o) v r w = StopsSync v r w
Stops room (tell a) v r w = ⊥
Stops room (send t a) v r w = ⊥
Stops room (block x) v r w = ⊥
Stops room (hand_out h) v r w = ⊥
Stops room (take_back h) v r w = ⊥
Stops room (lodge h) v r w = ⊥
Stops room (fetch h) v r w = ⊥
Stops room (drop_below h) v r w = ⊥
Stops room (hear a) v r w = ⊥
Stops room (sign a) v r w = ⊥
Stops room (make c) v r w = ⊥
Stops room fail v r w = (r ≡ failed) × Firmer v w

-- `Did room acts v k r done w j`: from the journal's value v and the slips k the acts `done` were carried out, the first ones of `acts`; they ended so, with w and j.
-- The value that the acts ask for is the least: a journal may have made more durable. `room` is the space rule of the journal as it was left
abbrev pub Did : Space → List Act → Log → Desk → Ended → List Act → Log → Desk → Type 0
Did room [] v k r done w j = (r ≡ whole) × (done ≡ []) × Firmer v w × (j ≡ k)
Did room (a ∷ acts) v k r done w j =
    (Stops room a v r w × (done ≡ []) × (j ≡ k))
    ⊎ (Goes a v × ((rest : List Act) × (done ≡ a ∷ rest) × Did room acts (in_log a v) (at_desk a k) r rest w j))
