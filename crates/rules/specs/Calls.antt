-- Slips, due and closing, and what each call plans. Assumes nothing.
use Rattle.std.specs.Prelude.{ℕ, cond, List, [], ◌∷◌, Option, ◌==◌, nat_lt}
use Rattle.journal.specs.declared.places.Overrun.{Overrun}
use Rattle.journal.specs.Log.{Log}
use Rattle.provider.specs.Answers.{Answers}
use Rattle.rules.specs.Lists.{front}
use Rattle.rules.specs.State.{Bytes, Settings, Mem, Desk, Engine, shut, running, halted, is_pending}
use Rattle.rules.specs.Acts.{sync_all, hand_out, take_back, lodge, fetch}
use Rattle.rules.specs.Rules.{Work, then, with_deadlines, digest_for, rebroadcast}
use Rattle.rules.specs.Plans.{Event, opening, epoch_change, message, taking, fetching, handing_back, cancelling, lodging, due, closing, Answer, ok, slip, refused, stays, runs, closes, Plan, refuse, carry, refusal, or_refuse}
use Rattle.rules.specs.Opening.{late, plan_opening}
use Rattle.rules.specs.Message.{plan_epoch, plan_message}

abbrev pub with_wanted : List ℕ → Mem → Mem
with_wanted xs m = record { epoch = m.epoch; tip = m.tip; seats = m.seats; pending = m.pending; acks = m.acks; certs = m.certs; deadlines = m.deadlines; wanted = xs }

-- taking hands over the lowest wanted height, or 23 NoSlip
abbrev pub take_first : Mem → List ℕ → Plan
take_first m [] = refuse 23
take_first m (h ∷ hs) = record { acts = hand_out h ∷ []; after = runs (with_wanted hs m); answer = slip h }

abbrev pub plan_taking : Mem → Plan
plan_taking m = take_first m m.wanted

-- fetching hands over the lowest lodged slip, or 23 NoSlip
abbrev pub fetch_first : List ℕ → Plan
fetch_first [] = refuse 23
fetch_first (h ∷ hs) = record { acts = fetch h ∷ []; after = stays; answer = slip h }

abbrev pub plan_fetching : Desk → Plan
plan_fetching k = fetch_first k.lodged

-- lodged, or counted back where its height is dropped
abbrev pub put_by : Mem → ℕ → Answer → Plan
put_by m h a = record { acts = cond (is_pending m h) (lodge h ∷ []) (take_back h ∷ []); after = stays; answer = a }

-- 9 OutShort, 4 Clock
abbrev pub refused_late : ℕ → ℕ → ℕ
refused_late now room = refusal ((9, nat_lt room 2048) ∷ (4, late now) ∷ [])

-- a slip that comes back
abbrev pub taken_back : ℕ → Mem → Work
taken_back h m = record { mem = m; acts = take_back h ∷ [] }

-- with a digest: 9 and 4 lodge it instead
abbrev pub plan_digest : Answers → Settings → Mem → ℕ → Bytes → ℕ → ℕ → Plan
plan_digest p s m h d now room =
    cond (refused_late now room == 0) (carry s (then (taken_back h m) (digest_for p s now h d)) ok)
    (put_by m h (refused (refused_late now room)))

-- cancelled
abbrev pub plan_cancel : Settings → Mem → ℕ → Plan
plan_cancel s m h = carry s (taken_back h m) ok

-- the rebroadcast of the lowest deadline, or 25 NotDue
abbrev pub plan_due : Answers → Settings → Mem → ℕ → ℕ → Plan
plan_due p s m now room =
    or_refuse (refused_late now room)
    (front m.deadlines (refuse 25) (λ d ds.
    cond (nat_lt now d.time) (refuse 25) (carry s (rebroadcast p s now d.height (with_deadlines ds m)) ok)))

-- closing makes all durable, or 26 SlipsOut
abbrev pub plan_closing : Desk → Plan
plan_closing k = cond (k.out == 0) (record { acts = sync_all ∷ []; after = closes; answer = ok }) (refuse 26)

-- a call that only a running engine carries out
abbrev pub if_running : Engine → (Mem → Plan) → Plan
if_running shut f = refuse 1
if_running (running m k) f = f m
if_running (halted k) f = refuse 1

-- a slip that comes back to a halted engine is counted back: 1 NotRunning
abbrev pub counted_back : ℕ → Plan
counted_back h = record { acts = take_back h ∷ []; after = stays; answer = refused 1 }

-- a slip comes back: none is out (24 Stray), the engine is halted, or it runs
abbrev pub returned : Engine → ℕ → (Mem → Plan) → Plan
returned shut h f = refuse 24
returned (running m k) h f = cond (k.out == 0) (refuse 24) (f m)
returned (halted k) h f = cond (k.out == 0) (refuse 24) (counted_back h)

-- a halted engine still gives lodged slips back
abbrev pub fetched : Engine → Plan
fetched shut = refuse 23
fetched (running m k) = plan_fetching k
fetched (halted k) = plan_fetching k

-- a halted engine may be closed
abbrev pub closed : Engine → Plan
closed shut = refuse 1
closed (running m k) = plan_closing k
closed (halted k) = plan_closing k

-- each call
abbrev pub plan : Answers → Settings → Engine → Log → Option Overrun → Event → Plan
plan p s x v o (opening e now room) = plan_opening p s x v o e now room
plan p s x v o (epoch_change e now) = if_running x (λ m. plan_epoch p s m e now)
plan p s x v o (message k b room) = if_running x (λ m. plan_message p s m k b room)
plan p s x v o taking = if_running x plan_taking
plan p s x v o fetching = fetched x
plan p s x v o (handing_back h d now room) = returned x h (λ m. plan_digest p s m h d now room)
plan p s x v o (cancelling h) = returned x h (λ m. plan_cancel s m h)
plan p s x v o (lodging h) = returned x h (λ m. put_by m h ok)
plan p s x v o (due now room) = if_running x (λ m. plan_due p s m now room)
plan p s x v o closing = closed x
