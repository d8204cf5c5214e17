-- Runs of the engine: calls, and power cuts between them and inside them. Assumes nothing.
use Rattle.std.specs.Prelude.{◌≡◌, ℕ, ◌^◌, ◌<◌, Bool, true, false, cond, List, [], ◌∷◌, ◌++◌, length, None, All}
use mathlib.Core.List.{Memᴰ}
use Rattle.journal.specs.Log.{Log, empty}
use Rattle.journal.specs.Cuts.{Cut}
use Rattle.provider.specs.Answers.{Answers}
use Rattle.rules.specs.State.{Settings, Desk, Engine, shut, running, halted, desk_of}
use Rattle.rules.specs.Acts.{Act, Ended, whole, full, below_bound, failed, off, Space, Did, without}
use Rattle.rules.specs.Plans.{Event, opening, epoch_change, message, taking, fetching, handing_back, cancelling, lodging, due, closing, Answer, ok, slip, refused, bad_record, overran, bad_message, power_off, After, stays, runs, closes, Plan}
use Rattle.rules.specs.Calls.{plan}

-- an engine on its journal
pub record Sys : Type 0 where
  pub engine : Engine
  pub log : Log

-- the engine after a plan that was carried out, with these slips
abbrev pub settle : After → Engine → Desk → Engine
settle stays shut k = shut
settle stays (running m _) k = running m k
settle stays (halted _) k = halted k
settle (runs m) x k = running m k
settle closes x k = shut

-- the answer and the engine, by how the acts ended
abbrev pub Ends : Ended → Plan → Engine → Desk → Answer → Engine → Type 0
Ends whole pl x k a y = (a ≡ pl.answer) × (y ≡ settle pl.after x k)
Ends full pl x k a y = (a ≡ refused 27) × (y ≡ halted k)
Ends below_bound pl x k a y = (a ≡ refused 28) × (y ≡ halted k)
Ends failed pl x k a y = (a ≡ refused 29) × (y ≡ halted k)
Ends off pl x k a y = (a ≡ power_off) × (y ≡ shut)

-- a call: its planned acts were carried out, to the end or to the first that stopped
pub record Call (p : Answers) (s : Settings) (room : Space) (x : Sys) (e : Event) (a : Answer) (done : List Act) (y : Sys) : Type 0 where
  pub ended : Ended
  pub desk : Desk
  pub did : Did room (plan p s x.engine x.log None e).acts x.log (desk_of x.engine) ended done y.log desk
  pub left : Ends ended (plan p s x.engine x.log None e) x.engine desk a y.engine

-- what happened, the latest first
pub data Deed : Type 0 where
  called : Ended → Event → Answer → List Act → Deed
  cut : Deed

abbrev pub is_off : Ended → Bool
is_off whole = false
is_off full = false
is_off below_bound = false
is_off failed = false
is_off off = true

-- the slip that an answer hands over
abbrev pub slip_of : Answer → List ℕ
slip_of ok = []
slip_of (slip h) = h ∷ []
slip_of (refused n) = []
slip_of (bad_record s n f) = []
slip_of (overran x) = []
slip_of (bad_message f) = []
slip_of power_off = []

-- the slips that the caller holds after a call: those taken or fetched, and not handed back since
abbrev pub held_after : Event → Answer → List ℕ → List ℕ
held_after (opening e now room) a hs = hs
held_after (epoch_change e now) a hs = hs
held_after (message k b room) a hs = hs
held_after taking a hs = slip_of a ++ hs
held_after fetching a hs = slip_of a ++ hs
held_after (handing_back h d now room) a hs = without h hs
held_after (cancelling h) a hs = without h hs
held_after (lodging h) a hs = without h hs
held_after (due now room) a hs = hs
held_after closing a hs = hs

-- the slips that the caller holds after what happened
abbrev pub hands : List Deed → List ℕ
hands [] = []
hands (cut ∷ past) = []
hands (called r e a done ∷ past) = cond (is_off r) [] (held_after e a (hands past))

-- a slip that is handed back is one that the caller holds
abbrev pub Held : Event → List ℕ → Type 0
Held (opening e now room) hs = Unit {0}
Held (epoch_change e now) hs = Unit {0}
Held (message k b room) hs = Unit {0}
Held taking hs = Unit {0}
Held fetching hs = Unit {0}
Held (handing_back h d now room) hs = Memᴰ h hs
Held (cancelling h) hs = Memᴰ h hs
Held (lodging h) hs = Memᴰ h hs
Held (due now room) hs = Unit {0}
Held closing hs = Unit {0}

-- what the types of the code say of an event: an epoch has 64 bits, a key and a digest 32 bytes, and a message is made of bytes
abbrev pub Sized : Event → Type 0
Sized (opening e now room) = e < 2 ^ 64
Sized (epoch_change e now) = e < 2 ^ 64
Sized (message k b room) = (length k ≡ 32) × All (λ x. x < 256) b
Sized taking = Unit {0}
Sized fetching = Unit {0}
Sized (handing_back h d now room) = length d ≡ 32
Sized (cancelling h) = Unit {0}
Sized (lodging h) = Unit {0}
Sized (due now room) = Unit {0}
Sized closing = Unit {0}

-- from an engine on an empty journal, any list of calls and of cuts between calls, each upon what those before it left, whatever they answered
pub data Run (p : Answers) (s : Settings) : Sys → List Deed → Type 0 where
  start : Run p s (record { engine = shut; log = empty }) []
  call : {x y : Sys} {past : List Deed} → Run p s x past → (room : Space) (e : Event) (a : Answer) (done : List Act) →
      Sized e → Held e (hands past) → (c : Call p s room x e a done y) → Run p s y (called c.ended e a done ∷ past)
  power_cut : {x : Sys} {past : List Deed} → Run p s x past → (w : Log) → Cut 0 x.log w →
      Run p s (record { engine = shut; log = w }) (cut ∷ past)
