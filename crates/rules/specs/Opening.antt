-- Opening: what the journal's records leave, and what an opening does. Assumes nothing.
use Rattle.std.specs.Prelude.{ℕ, ◌+◌, ◌-◌, ◌^◌, min, Bool, true, false, cond, not, ◌&&◌, ◌||◌, List, [], ◌∷◌, ◌++◌, map, length, is_some, Some, None, Ok, Err, Option, Result, ◌==◌, nat_eq, nat_le, nat_lt}
use Rattle.std.specs.Str.{bytes_eq}
use Rattle.forms.specs.declared.faults.Fault.{Fault}
use Rattle.forms.specs.Values.{Ack, Cert, Activity, ack, certified, tip}
use Rattle.forms.specs.Reading as forms
use Rattle.forms.specs.Writing.{write}
use Rattle.journal.specs.declared.places.Overrun.{Overrun}
use Rattle.journal.specs.Log.{Log, Placed, reading}
use Rattle.provider.specs.Answers.{Answers}
use Rattle.rules.specs.Lists.{those, first, any, opt, highest, from, placed}
use Rattle.rules.specs.State.{Bytes, Settings, allowed, Mem, Engine, shut, running, halted, low, ack_below}
use Rattle.rules.specs.Acts.{read, tell}
use Rattle.rules.specs.Rules.{keys, own, fill}
use Rattle.rules.specs.Plans.{Answer, ok, refused, bad_record, overran, stays, runs, Plan, refusal, or_refuse}

-- a clock reading that is too late
abbrev pub late : ℕ → Bool
late clock = nat_le (2 ^ 62) clock

-- whether an epoch is known, and its keys
abbrev pub known : Answers → ℕ → Bool
known p e = is_some (keys p e)

abbrev pub keys_of : Answers → ℕ → List Bytes
keys_of p e = opt (keys p e) [] (λ ks. ks)

-- whether e is outside the bounds around the current epoch: more than `older` before it, or more than `newer` after it
abbrev pub outside : Settings → ℕ → ℕ → Bool
outside s now e = nat_lt e (now - s.older) || nat_lt (min (2 ^ 64 - 1) (now + s.newer)) e

-- the tips, certificates and acks that records tell of, in reading order
abbrev pub tips_in : List Activity → List ℕ
tips_in [] = []
tips_in (ack a ∷ xs) = tips_in xs
tips_in (certified c ∷ xs) = tips_in xs
tips_in (tip t ∷ xs) = t ∷ tips_in xs

abbrev pub certs_in : List Activity → List Cert
certs_in [] = []
certs_in (ack a ∷ xs) = certs_in xs
certs_in (certified c ∷ xs) = c ∷ certs_in xs
certs_in (tip t ∷ xs) = certs_in xs

abbrev pub acks_in : List Activity → List Ack
acks_in [] = []
acks_in (ack a ∷ xs) = a ∷ acks_in xs
acks_in (certified c ∷ xs) = acks_in xs
acks_in (tip t ∷ xs) = acks_in xs

-- all in a table, a later one in the place of an earlier
abbrev pub tabled : {A : Type 0} → (A → A → Bool) → List A → List A → List A
tabled below table [] = table
tabled below table (x ∷ xs) = tabled below (placed below x table) xs

-- the highest recorded tip, or 0
abbrev pub top_of : List Activity → ℕ
top_of xs = highest (λ x. x) 0 (tips_in xs)

abbrev pub cert_below : Cert → Cert → Bool
cert_below c d = nat_lt c.height d.height

-- the certificates from tip − A up
abbrev pub certs_left : Settings → List Activity → List Cert
certs_left s xs = tabled cert_below [] (those (λ c. nat_le (low s (top_of xs)) c.height) (certs_in xs))

-- the acks from tip − A up, of heights without a certificate, in reading order
abbrev pub acks_left : Settings → List Activity → List Ack
acks_left s xs =
    those (λ a. nat_le (low s (top_of xs)) a.height && not (any (λ c. nat_eq c.height a.height) (certs_left s xs))) (acks_in xs)

-- what the records leave
pub record Found : Type 0 where
  pub top : ℕ
  pub certs : List Cert
  pub acks : List Ack

abbrev pub found : Settings → List Activity → Found
found s xs = record { top = top_of xs; certs = certs_left s xs; acks = acks_left s xs }

-- whether an ack is of this height, epoch and signer
abbrev pub is_of : ℕ → ℕ → ℕ → Ack → Bool
is_of h e i a = a.height == h && (a.epoch == e && a.signer == i)

-- the digest of the first own ack of the epoch for a height, if there is one
abbrev pub own_digest : Answers → ℕ → List Ack → ℕ → Option Bytes
own_digest p e acks h = opt (own p e) None (λ i. opt (first (is_of h e i) acks) None (λ a. Some a.digest))

-- the acks that are stored: where an own ack gives a digest, only those that agree with it
abbrev pub kept_acks : Answers → ℕ → List Ack → List Ack
kept_acks p e acks = tabled ack_below [] (those (λ a. opt (own_digest p e acks a.height) true (λ d. bytes_eq d a.digest)) acks)

-- the highest of tip, last ack + 1 and last certificate + 1
abbrev pub end_of : Found → ℕ
end_of f = highest (λ a. a.height + 1) (highest (λ c. c.height + 1) f.top f.certs) f.acks

-- heights without a certificate that have an ack, or lie from the tip to the end
abbrev pub is_left : Found → ℕ → Bool
is_left f h =
    not (any (λ c. nat_eq c.height h) f.certs)
    && (any (λ a. nat_eq a.height h) f.acks || (nat_le f.top h && nat_lt h (end_of f)))

abbrev pub heights_left : Settings → Found → List ℕ
heights_left s f = those (is_left f) (from (low s f.top) (f.top + s.window - low s f.top))

-- what the engine knows then, over the heights hs: those with an own digest are verified and due now, the others want slips
abbrev pub opened_over : Answers → ℕ → ℕ → Found → List ℕ → Mem
opened_over p e now f hs = record {
  epoch = e;
  tip = f.top;
  seats = map (λ k. record { key = k; tip = 0 }) (keys_of p e);
  pending = map (λ h. record { height = h; verified = own_digest p e f.acks h }) hs;
  acks = kept_acks p e f.acks;
  certs = f.certs;
  deadlines = map (λ h. record { time = now; height = h }) (those (λ h. is_some (own_digest p e f.acks h)) hs);
  wanted = those (λ h. not (is_some (own_digest p e f.acks h))) hs;
}

abbrev pub opened : Answers → Settings → ℕ → ℕ → Found → Mem
opened p s e now f = opened_over p e now f (heights_left s f)

-- the length of what is told, each record behind a kind byte and two length bytes
abbrev pub told_length : List Activity → ℕ
told_length [] = 0
told_length (x ∷ xs) = 3 + length (write x) + told_length xs

-- a height that is kept lies at tip + W or above
abbrev pub too_far : Settings → Found → Bool
too_far s f = any (λ c. nat_le (f.top + s.window) c.height) f.certs || any (λ a. nat_le (f.top + s.window) a.height) f.acks

-- how many stored acks lie outside the epoch bounds
abbrev pub strays : Answers → Settings → ℕ → Found → ℕ
strays p s e f = length (those (λ a. outside s e a.epoch) (kept_acks p e f.acks))

-- 7 JournalHeight, 8 Crowded, 9 OutShort
abbrev pub found_tests : Answers → Settings → ℕ → ℕ → List Activity → List (ℕ × Bool)
found_tests p s e room xs = (7, too_far s (found s xs)) ∷ (8, nat_lt 128 (strays p s e (found s xs))) ∷ (9, nat_lt room (told_length xs)) ∷ []

abbrev pub found_refusal : Answers → Settings → ℕ → ℕ → List Activity → ℕ
found_refusal p s e room xs = refusal (found_tests p s e room xs)

abbrev pub open_with : Answers → Settings → ℕ → ℕ → ℕ → List Activity → Plan
open_with p s e now room xs =
    cond (found_refusal p s e room xs == 0)
    (record { acts = read None ∷ map tell xs; after = runs (fill s (opened p s e now (found s xs))); answer = ok })
    (record { acts = read None ∷ []; after = stays; answer = refused (found_refusal p s e room xs) })

-- reading stops, at a record that says nothing or at an overrun: 6 JournalRecord
abbrev pub unreadable : Option Overrun → Answer → Plan
unreadable o a = record { acts = read o ∷ []; after = stays; answer = a }

abbrev pub at_end : Answers → Settings → ℕ → ℕ → ℕ → List Activity → Option Overrun → Plan
at_end p s e now room xs None = open_with p s e now room xs
at_end p s e now room xs (Some x) = unreadable (Some x) (overran x)

abbrev pub by_reading : {A B : Type 0} → Result A Fault → (Fault → B) → (A → B) → B
by_reading (Ok x) w f = f x
by_reading (Err e) w f = w e

-- the records are read one by one, up to the first that says nothing
abbrev pub open_from : Answers → Settings → ℕ → ℕ → ℕ → List Activity → Option Overrun → List Placed → Plan
open_from p s e now room xs o [] = at_end p s e now room xs o
open_from p s e now room xs o (r ∷ rs) =
    by_reading (forms.read r.bytes)
    (λ w. unreadable o (bad_record r.section r.number w))
    (λ x. open_from p s e now room (xs ++ (x ∷ [])) o rs)

-- whether a record stands before an overrun
abbrev pub before : Option Overrun → Placed → Bool
before None r = true
before (Some x) r = nat_lt r.section x.place.section || (r.section == x.place.section && nat_lt r.number x.place.number)

abbrev pub is_shut : Engine → Bool
is_shut shut = true
is_shut (running m k) = false
is_shut (halted k) = false

-- 2 Running, 3 Settings, 4 Clock, 5 UnknownEpoch: nothing is read
abbrev pub opening_tests : Answers → Settings → Engine → ℕ → ℕ → List (ℕ × Bool)
opening_tests p s x e now = (2, not (is_shut x)) ∷ (3, not (allowed s)) ∷ (4, late now) ∷ (5, not (known p e)) ∷ []

abbrev pub opening_refusal : Answers → Settings → Engine → ℕ → ℕ → ℕ
opening_refusal p s x e now = refusal (opening_tests p s x e now)

abbrev pub plan_opening : Answers → Settings → Engine → Log → Option Overrun → ℕ → ℕ → ℕ → Plan
plan_opening p s x v o e now room =
    or_refuse (opening_refusal p s x e now)
    (open_from p s e now room [] o (those (before o) (reading v.sections)))
