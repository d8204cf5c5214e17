-- What every run keeps: certificates agree and are backed, own acks agree, slips balance. Assumes nothing.
use Rattle.std.specs.Prelude.{◌≡◌, ℕ, ◌+◌, ◌<◌, ◌≤◌, Bool, true, false, cond, ◌&&◌, ◌⊎◌, List, [], ◌∷◌, ◌++◌, length, Some, None, Option, nat_lt, slice_index_or, All}
use mathlib.Core.List.{Memᴰ}
use Rattle.forms.specs.Values.{Ack, Cert, ack, certified}
use Rattle.tips.specs.Faults.{quorum}
use Rattle.provider.specs.Answers.{Answers}
use Rattle.provider.specs.Laws.{Lawful}
use Rattle.rules.specs.Lists.{those, opt}
use Rattle.rules.specs.State.{Bytes, Settings, Desk, Engine, no_slips, desk_of}
use Rattle.rules.specs.Acts.{Act, append, sync, prune, sync_all, read, tell, send, block, hand_out, take_back, lodge, fetch, drop_below, hear, sign, make, fail, Ended, whole, at_desk}
use Rattle.rules.specs.Rules.{keys, own}
use Rattle.rules.specs.Plans.{Event, opening, epoch_change, message, taking, fetching, handing_back, cancelling, lodging, due, closing, Answer, ok, slip, refused, bad_record, overran, bad_message, power_off}
use Rattle.rules.specs.Runs.{Sys, Run, Deed, called, cut, is_off}

-- all acts that were carried out, in order
abbrev pub acts_in : List Deed → List Act
acts_in [] = []
acts_in (called r e a done ∷ past) = acts_in past ++ done
acts_in (cut ∷ past) = acts_in past

-- an act was carried out
abbrev pub Happened : Act → List Deed → Type 0
Happened a past = Memᴰ a (acts_in past)

abbrev pub Distinct : List ℕ → Type 0
Distinct [] = Unit {0}
Distinct (x ∷ xs) = (Memᴰ x xs → ⊥) × Distinct xs

-- a signer of an epoch stands behind a certificate: their ack passed the checks in a message, or the engine signed it
abbrev pub Behind : List Deed → Cert → ℕ → ℕ → Type 0
Behind past c e i =
    (a : Ack) × (Happened (hear a) past ⊎ Happened (sign a) past)
    × (a.epoch ≡ e) × (a.signer ≡ i) × (a.height ≡ c.height) × (a.digest ≡ c.digest)

-- n − f or more distinct signers of one epoch stand behind a certificate
abbrev pub Backed : Answers → List Deed → Cert → Type 0
Backed p past c =
    (e : ℕ) × ((ks : List Bytes) × ((is : List ℕ) × (keys p e ≡ Some ks) × Distinct is × (quorum (length ks) ≤ length is)
    × All (λ i. (i < length ks) × Behind past c e i) is))

-- all certificates told for a height are one, byte for byte, and each is backed
abbrev pub CertificatesAgree : Answers → List Deed → Type 0
CertificatesAgree p past =
    ((c d : Cert) → Happened (tell (certified c)) past → Happened (tell (certified d)) past → c.height ≡ d.height →
    (c.digest ≡ d.digest) × (c.bytes ≡ d.bytes))
    × ((c : Cert) → Happened (tell (certified c)) past → Backed p past c)

-- an ack that the engine sent or told
abbrev pub Shown : Ack → List Deed → Type 0
Shown a past = Happened (tell (ack a)) past ⊎ ((t : ℕ) × Happened (send t a) past)

-- an opening or an epoch change that was carried out
abbrev pub Accepted : ℕ → List Deed → Type 0
Accepted e past =
    (((now room : ℕ) × ((done : List Act) × Memᴰ (called whole (opening e now room) ok done) past)))
    ⊎ ((now : ℕ) × ((done : List Act) × Memᴰ (called whole (epoch_change e now) ok done) past))

-- no opening names an epoch below one accepted earlier
abbrev pub Rising : List Deed → Type 0
Rising [] = Unit {0}
Rising (cut ∷ past) = Rising past
Rising (called r x a done ∷ past) = ((e now room : ℕ) → x ≡ opening e now room → a ≡ ok → (f : ℕ) → Accepted f past → f ≤ e) × Rising past

-- the key of the own signer of some epoch
abbrev pub OwnKey : Answers → Bytes → Type 0
OwnKey p k = (e : ℕ) × ((i : ℕ) × ((ks : List Bytes) × (own p e ≡ Some i) × (keys p e ≡ Some ks) × (i < length ks) × (slice_index_or ks i [] ≡ k)))

-- no message came under a key of the engine's own
abbrev pub NoneUnderOwnKey : Answers → List Deed → Type 0
NoneUnderOwnKey p past =
    (k b : Bytes) (room : ℕ) (r : Ended) (a : Answer) (done : List Act) → Memᴰ (called r (message k b room) a done) past → OwnKey p k → ⊥

-- in one epoch, all own acks that the engine sends or tells for a height bear one digest, if no opening names an epoch below one accepted earlier and no message comes under its own key
abbrev pub OwnAcksAgree : Answers → List Deed → Type 0
OwnAcksAgree p past =
    Rising past → NoneUnderOwnKey p past → (a b : Ack) → Shown a past → Shown b past →
    own p a.epoch ≡ Some a.signer → own p b.epoch ≡ Some b.signer →
    a.epoch ≡ b.epoch → a.height ≡ b.height → a.digest ≡ b.digest

abbrev pub is_ok : Answer → Bool
is_ok ok = true
is_ok (slip h) = false
is_ok (refused n) = false
is_ok (bad_record s n f) = false
is_ok (overran x) = false
is_ok (bad_message f) = false
is_ok power_off = false

abbrev pub is_opening : Event → Bool
is_opening (opening e now room) = true
is_opening (epoch_change e now) = false
is_opening (message k b room) = false
is_opening taking = false
is_opening fetching = false
is_opening (handing_back h d now room) = false
is_opening (cancelling h) = false
is_opening (lodging h) = false
is_opening (due now room) = false
is_opening closing = false

-- the acts since the last opening carried out, in order; none where a cut came since, or none was
abbrev pub since_opening : List Deed → Option (List Act)
since_opening [] = None
since_opening (cut ∷ past) = None
since_opening (called r e a done ∷ past) =
    cond (is_off r) None
    (cond (is_opening e && is_ok a) (Some []) (opt (since_opening past) None (λ acts. Some (acts ++ done))))

abbrev pub handed_by : Act → List ℕ
handed_by (append s x) = []
handed_by (sync s) = []
handed_by (prune s) = []
handed_by sync_all = []
handed_by (read o) = []
handed_by (tell a) = []
handed_by (send t a) = []
handed_by (block k) = []
handed_by (hand_out h) = h ∷ []
handed_by (take_back h) = []
handed_by (lodge h) = []
handed_by (fetch h) = []
handed_by (drop_below h) = []
handed_by (hear a) = []
handed_by (sign a) = []
handed_by (make c) = []
handed_by fail = []

-- the heights whose slips were handed out
abbrev pub handed_out : List Act → List ℕ
handed_out [] = []
handed_out (a ∷ acts) = handed_by a ++ handed_out acts

abbrev pub back_by : Act → Desk → ℕ
back_by (append s x) k = 0
back_by (sync s) k = 0
back_by (prune s) k = 0
back_by sync_all k = 0
back_by (read o) k = 0
back_by (tell a) k = 0
back_by (send t a) k = 0
back_by (block x) k = 0
back_by (hand_out h) k = 0
back_by (take_back h) k = 1
back_by (lodge h) k = 0
back_by (fetch h) k = 0
back_by (drop_below h) k = length (those (λ x. nat_lt x h) k.lodged)
back_by (hear a) k = 0
back_by (sign a) k = 0
back_by (make c) k = 0
back_by fail k = 0

-- how many slips came back: those handed back, and those lodged whose height was dropped
abbrev pub came_back : Desk → List Act → ℕ
came_back k [] = 0
came_back k (a ∷ acts) = back_by a k + came_back (at_desk a k) acts

-- since the last opening carried out, if no cut came: slips handed out are those back and those counted as out, and no height had two
abbrev pub SlipsBalance : Engine → List Deed → Type 0
SlipsBalance x past =
    (acts : List Act) → since_opening past ≡ Some acts →
    (length (handed_out acts) ≡ came_back no_slips acts + (desk_of x).out) × Distinct (handed_out acts)

-- every run of every lawful provider keeps all three promises
abbrev pub Promises : Type 0
Promises =
    (p : Answers) (s : Settings) (x : Sys) (past : List Deed) → Lawful p → Run p s x past →
    CertificatesAgree p past × OwnAcksAgree p past × SlipsBalance x.engine past

-- the third of them, which asks nothing of the provider
abbrev pub SlipsLaw : Type 0
SlipsLaw = (p : Answers) (s : Settings) (x : Sys) (past : List Deed) → Run p s x past → SlipsBalance x.engine past
