-- Epoch change and message: what they do. Assumes nothing.
use Rattle.std.specs.Prelude.{ℕ, ◌+◌, ◌-◌, ◌^◌, Bool, false, cond, not, ◌&&◌, ◌||◌, List, [], ◌∷◌, map, length, is_some, Some, None, Option, ◌==◌, nat_eq, nat_le, nat_lt}
use Rattle.std.specs.Str.{bytes_eq}
use Rattle.forms.specs.declared.faults.Fault.{Fault}
use Rattle.forms.specs.Values.{Ack, TipAck}
use Rattle.forms.specs.Reading as forms
use Rattle.tips.specs.Faults.{faults}
use Rattle.provider.specs.Answers.{Answers}
use Rattle.provider.specs.Laws.{position}
use Rattle.rules.specs.Lists.{those, first, any, opt, highest, placed}
use Rattle.rules.specs.State.{Bytes, Seat, Pending, Deadline, Settings, Mem, low, pending_at, is_pending, is_certified, ack_of, differs, sooner}
use Rattle.rules.specs.Acts.{Act, block, hear}
use Rattle.rules.specs.Rules.{Work, idle, then, own, move, store}
use Rattle.rules.specs.Plans.{Answer, ok, refused, bad_message, stays, Plan, refuse, carry, refusal, or_refuse}
use Rattle.rules.specs.Opening.{late, known, keys_of, outside, by_reading}

-- the recorded tip of a key, or 0
abbrev pub seat_tip : List Seat → Bytes → ℕ
seat_tip xs k = opt (first (λ x. bytes_eq k x.key) xs) 0 (λ x. x.tip)

-- the deadlines, with one now for each verified, uncertified height that has none
abbrev pub newly_due : Mem → ℕ → List Pending → List Deadline → List Deadline
newly_due m now [] ds = ds
newly_due m now (x ∷ xs) ds =
    newly_due m now xs
    (cond (is_some x.verified && not (is_certified m x.height || any (λ d. nat_eq d.height x.height) ds))
    (placed sooner (record { time = now; height = x.height }) ds) ds)

-- 4 Clock, 10 EpochBack, 5 UnknownEpoch, 11 SetSize
abbrev pub epoch_tests : Answers → Mem → ℕ → ℕ → List (ℕ × Bool)
epoch_tests p m e now =
    (4, late now) ∷ (10, nat_lt e m.epoch) ∷ (5, not (known p e)) ∷ (11, not (length (keys_of p e) == length m.seats)) ∷ []

abbrev pub epoch_refusal : Answers → Mem → ℕ → ℕ → ℕ
epoch_refusal p m e now = refusal (epoch_tests p m e now)

-- stayers keep their tips and joiners begin at 0; acks below epoch − lo go
abbrev pub in_epoch : Answers → Settings → Mem → ℕ → ℕ → Mem
in_epoch p s m e now = record {
  epoch = e;
  tip = m.tip;
  seats = map (λ k. record { key = k; tip = seat_tip m.seats k }) (keys_of p e);
  pending = m.pending;
  acks = those (λ a. nat_le (e - s.older) a.epoch) m.acks;
  certs = m.certs;
  deadlines = cond (is_some (own p e)) (newly_due m now m.pending m.deadlines) m.deadlines;
  wanted = m.wanted;
}

abbrev pub plan_epoch : Answers → Settings → Mem → ℕ → ℕ → Plan
plan_epoch p s m e now = or_refuse (epoch_refusal p m e now) (carry s (idle (in_epoch p s m e now)) ok)

-- a told tip counts if its sender's seat records a lower one
abbrev pub counts : Mem → Bytes → ℕ → Bool
counts m k t = any (λ x. bytes_eq k x.key && nat_lt x.tip t) m.seats

-- the (f + 1)-th largest: the largest that f + 1 reach
abbrev pub safe_tip : List Seat → ℕ
safe_tip xs = highest (λ x. x.tip) 0 (those (λ x. nat_le (faults (length xs) + 1) (length (those (λ y. nat_le x.tip y.tip) xs))) xs)

abbrev pub with_seats : List Seat → Mem → Mem
with_seats xs m = record { epoch = m.epoch; tip = m.tip; seats = xs; pending = m.pending; acks = m.acks; certs = m.certs; deadlines = m.deadlines; wanted = m.wanted }

-- the told tip replaces that alone
abbrev pub seat_told : Bytes → ℕ → Mem → Mem
seat_told k t m = with_seats (map (λ x. cond (bytes_eq k x.key) (record { key = x.key; tip = t }) x) m.seats) m

-- where the safe tip has passed the tip, move there
abbrev pub to_safe_tip : Settings → Mem → Work
to_safe_tip s m = cond (nat_lt m.tip (safe_tip m.seats)) (move s (safe_tip m.seats) m) (idle m)

-- the tip of a message
abbrev pub tip_told : Settings → Bytes → ℕ → Mem → Work
tip_told s k t m =
    cond (counts m k t)
    (to_safe_tip s (seat_told k t m))
    (idle m)

-- a key's position is the signer i
abbrev pub is_at : Option ℕ → ℕ → Bool
is_at None i = false
is_at (Some j) i = j == i

-- the checks of an ack, in order: 14 AckEpochOutsideBounds, 5 UnknownEpoch, 15 UnknownValidator, 16 PeerMismatch, 17 AckCertified, 18 AckHeight, 17, 19 AckDigest, 20 AckDuplicate, 21 InvalidAckSignature
abbrev pub checks : Answers → Settings → Bytes → Ack → Mem → List (ℕ × Bool)
checks p s k a m =
    (14, outside s m.epoch a.epoch)
    ∷ (5, not (known p a.epoch))
    ∷ (15, not (is_some (position k (keys_of p a.epoch))))
    ∷ (16, not (is_at (position k (keys_of p a.epoch)) a.signer))
    ∷ (17, nat_lt a.height (low s m.tip))
    ∷ (18, nat_le (m.tip + s.window) a.height)
    ∷ (17, is_certified m a.height)
    ∷ (19, differs (pending_at m a.height) a.digest)
    ∷ (20, is_some (ack_of m a.height a.epoch a.signer))
    ∷ (21, not (p.verifying.accepts a.epoch a.signer a.height a.digest a.signature))
    ∷ []

abbrev pub checked : Answers → Settings → Bytes → Ack → Mem → ℕ
checked p s k a m = refusal (checks p s k a m)

-- PeerMismatch and InvalidAckSignature block the sender
abbrev pub blocked : Bytes → ℕ → List Act
blocked k n = cond (n == 16 || n == 21) (block k ∷ []) []

-- an ack that passed every check is remembered as heard
abbrev pub hearing : Ack → Mem → Work
hearing a m = record { mem = m; acts = hear a ∷ [] }

-- an ack after its message's tip: refused, or heard and stored
abbrev pub ack_told : Answers → Settings → Bytes → Ack → Mem → Work
ack_told p s k a m =
    cond (checked p s k a m == 0)
    (then (hearing a m) (store p s a))
    (record { mem = m; acts = blocked k (checked p s k a m) })

-- what the ack's checks answer; 22 NotPending where it passed them and its height is not pending
abbrev pub ack_answer : Answers → Settings → Bytes → Ack → Mem → Answer
ack_answer p s k a m =
    cond (checked p s k a m == 0) (cond (is_pending m a.height) ok (refused 22)) (refused (checked p s k a m))

-- 9 OutShort
abbrev pub refused_short : ℕ → ℕ
refused_short room = refusal ((9, nat_lt room 2048) ∷ [])

-- a tip or a height of 2^62 or above: 13 TooHigh
abbrev pub too_high : TipAck → Bool
too_high t = nat_le (2 ^ 62) t.tip || nat_le (2 ^ 62) t.ack.height

-- a message that is read: its tip first, then its ack
abbrev pub told : Answers → Settings → Bytes → TipAck → Mem → Work
told p s k t m = then (tip_told s k t.tip m) (ack_told p s k t.ack)

abbrev pub plan_told : Answers → Settings → Mem → Bytes → TipAck → Plan
plan_told p s m k t =
    cond (too_high t) (refuse 13) (carry s (told p s k t m) (ack_answer p s k t.ack (tip_told s k t.tip m).mem))

-- a message that cannot be read blocks its sender: 12 Decode
abbrev pub undecoded : Bytes → Fault → Plan
undecoded k w = record { acts = block k ∷ []; after = stays; answer = bad_message w }

abbrev pub plan_message : Answers → Settings → Mem → Bytes → Bytes → ℕ → Plan
plan_message p s m k b room = or_refuse (refused_short room) (by_reading (forms.message b) (undecoded k) (plan_told p s m k))
