-- The engine's rules: the acts of each, and what the engine knows after them. Assumes nothing.
use Rattle.std.specs.Prelude.{ℕ, zero, suc, ◌+◌, ◌-◌, cond, not, ◌&&◌, ◌||◌, List, [], ◌∷◌, ◌++◌, map, length, Some, None, Option, ◌==◌, nat_eq, nat_le, nat_lt}
use Rattle.std.specs.Str.{bytes_eq}
use Rattle.forms.specs.Values.{Ack, Cert, Activity, ack, certified, tip}
use Rattle.tips.specs.Faults.{quorum}
use Rattle.provider.specs.Answers.{Answers, Attested}
use Rattle.rules.specs.Lists.{those, opt, placed}
use Rattle.rules.specs.State.{Bytes, Pending, Deadline, Settings, Mem, low, section, pending_at, is_pending, is_certified, ack_of, differs, next, ack_below, sooner}
use Rattle.rules.specs.Acts.{Act, append, sync, prune, tell, send, drop_below, sign, make, fail}

-- the keys of an epoch, if it is known, and its own signer, if there is one
abbrev pub keys : Answers → ℕ → Option (List Bytes)
keys p e = p.verifying.keys e

abbrev pub own : Answers → ℕ → Option ℕ
own p e = p.signing.own e

-- a signature with its signer
abbrev pub attested : Ack → Attested
attested a = record { signer = a.signer; signature = a.signature }

-- a piece of work: its acts, and what the engine knows once they are carried out
pub record Work : Type 0 where
  pub mem : Mem
  pub acts : List Act

abbrev pub idle : Mem → Work
idle m = record { mem = m; acts = [] }

-- one after the other
abbrev pub then : Work → (Mem → Work) → Work
then w f = record { mem = (f w.mem).mem; acts = w.acts ++ (f w.mem).acts }

-- a record is appended and made durable
abbrev pub recorded : Settings → ℕ → Activity → List Act
recorded s h a = append (section s h) a ∷ sync (section s h) ∷ []

-- what is below a height is dropped
abbrev pub dropped : ℕ → ℕ → Mem → Mem
dropped b t m = record {
  epoch = m.epoch;
  tip = t;
  seats = m.seats;
  pending = those (λ p. nat_le b p.height) m.pending;
  acks = those (λ a. nat_le b a.height) m.acks;
  certs = those (λ c. nat_le b c.height) m.certs;
  deadlines = those (λ d. nat_le b d.height) m.deadlines;
  wanted = those (nat_le b) m.wanted;
}

abbrev pub with_acks : List Ack → Mem → Mem
with_acks xs m = record { epoch = m.epoch; tip = m.tip; seats = m.seats; pending = m.pending; acks = xs; certs = m.certs; deadlines = m.deadlines; wanted = m.wanted }

abbrev pub with_certs : List Cert → Mem → Mem
with_certs xs m = record { epoch = m.epoch; tip = m.tip; seats = m.seats; pending = m.pending; acks = m.acks; certs = xs; deadlines = m.deadlines; wanted = m.wanted }

abbrev pub with_deadlines : List Deadline → Mem → Mem
with_deadlines xs m = record { epoch = m.epoch; tip = m.tip; seats = m.seats; pending = m.pending; acks = m.acks; certs = m.certs; deadlines = xs; wanted = m.wanted }

abbrev pub with_pending : List Pending → Mem → Mem
with_pending xs m = record { epoch = m.epoch; tip = m.tip; seats = m.seats; pending = xs; acks = m.acks; certs = m.certs; deadlines = m.deadlines; wanted = m.wanted }

-- Move to t
abbrev pub move : Settings → ℕ → Mem → Work
move s t m = record {
  mem = dropped (low s t) t m;
  acts = drop_below (low s t) ∷ (recorded s t (tip t) ++ (tell (tip t) ∷ prune (section s (low s t)) ∷ []));
}

-- the first uncertified height from t on; n bounds the search
abbrev pub first_free : ℕ → ℕ → Mem → ℕ
first_free zero t m = t
first_free (suc n) t m = cond (is_certified m t) (first_free n (t + 1) m) t

abbrev pub with_cert : Cert → Mem → Mem
with_cert c m = with_certs (placed (λ a b. nat_lt a.height b.height) c m.certs) m

-- a certificate that was made is recorded, made durable, and told
abbrev pub announced : Settings → Cert → Mem → Work
announced s c m = record { mem = m; acts = make c ∷ (recorded s c.height (certified c) ++ (tell (certified c) ∷ [])) }

-- where h is the tip, move to the first uncertified height above
abbrev pub go_on : Settings → ℕ → Mem → Work
go_on s h m = cond (h == m.tip) (move s (first_free (length m.certs) (h + 1) m) m) (idle m)

-- Certify: unless certified, append, sync, tell, and if it is the tip, move on
abbrev pub certify : Settings → Cert → Mem → Work
certify s c m = cond (is_certified m c.height) (idle m) (then (announced s c (with_cert c m)) (go_on s c.height))

-- the stored acks of the same height, epoch and digest
abbrev pub agreeing : Ack → List Ack → List Ack
agreeing a xs = those (λ b. (b.height == a.height) && (b.epoch == a.epoch && bytes_eq b.digest a.digest)) xs

abbrev pub assembled : Settings → Ack → Option Bytes → Mem → Work
assembled s a None m = record { mem = m; acts = fail ∷ [] }
assembled s a (Some c) m = certify s (record { height = a.height; digest = a.digest; bytes = c }) m

-- Store
abbrev pub counted : Answers → Settings → Ack → ℕ → Mem → Work
counted p s a n m =
    cond (nat_le (quorum n) (length (agreeing a m.acks))) (assembled s a (p.signing.assemble a.epoch (map attested (agreeing a m.acks))) m) (idle m)

abbrev pub store : Answers → Settings → Ack → Mem → Work
store p s a m =
    opt (keys p a.epoch) (idle m) (λ ks.
    cond (not (is_pending m a.height) || differs (pending_at m a.height) a.digest) (idle m)
    (opt (ack_of m a.height a.epoch a.signer) (counted p s a (length ks) (with_acks (placed ack_below a m.acks) m)) (λ b. idle m)))

-- the own ack of the current epoch, if there is an own signer
abbrev pub own_ack : Answers → Mem → ℕ → Bytes → Option Ack
own_ack p m h d =
    opt (own p m.epoch) None (λ i.
    opt (p.signing.sign m.epoch h d) None (λ g.
    Some (record { height = h; epoch = m.epoch; signer = i; digest = d; signature = g })))

-- Sign
abbrev pub signed : Settings → Ack → List Act
signed s a = sign a ∷ recorded s a.height (ack a)

abbrev pub signing : Settings → Ack → Mem → Work
signing s a m = record { mem = m; acts = signed s a }

abbrev pub sending : Ack → Mem → Work
sending a m = record { mem = m; acts = send m.tip a ∷ [] }

-- Fill: n bounds the number of heights
abbrev pub fill_by : ℕ → Settings → Mem → Mem
fill_by zero s m = m
fill_by (suc n) s m =
    cond (nat_lt (next m - m.tip) s.window)
    (fill_by n s (record {
      epoch = m.epoch;
      tip = m.tip;
      seats = m.seats;
      pending = m.pending ++ (record { height = next m; verified = None } ∷ []);
      acks = m.acks;
      certs = m.certs;
      deadlines = m.deadlines;
      wanted = m.wanted ++ (next m ∷ []);
    }))
    m

abbrev pub fill : Settings → Mem → Mem
fill s m = fill_by s.window s m

-- a deadline for a height that is pending
abbrev pub due_at : ℕ → ℕ → Mem → Mem
due_at t h m =
    cond (is_pending m h)
    (with_deadlines (placed sooner (record { time = t; height = h }) (those (λ d. not (d.height == h)) m.deadlines)) m)
    m

-- A digest comes for a height that is pending and unverified. Its acks that agree are stored again, by epoch and signer, up to the end of an epoch in which it is certified
abbrev pub restore_from : Answers → Settings → Bytes → ℕ → List Ack → Mem → Work
restore_from p s d e [] m = idle m
restore_from p s d e (a ∷ rest) m =
    cond (not (a.epoch == e) && is_certified m a.height) (idle m)
    (cond (bytes_eq a.digest d)
    (then (store p s a m) (restore_from p s d a.epoch rest))
    (restore_from p s d a.epoch rest m))

abbrev pub restore : Answers → Settings → Bytes → List Ack → Mem → Work
restore p s d [] m = idle m
restore p s d (a ∷ rest) m = restore_from p s d a.epoch (a ∷ rest) m

abbrev pub verified : ℕ → Bytes → List Pending → List Pending
verified h d ps = map (λ x. cond (x.height == h) (record { height = h; verified = Some d }) x) ps

-- then, with an own signer: sign, deadline, store, send
abbrev pub sign_and_send : Answers → Settings → ℕ → ℕ → Bytes → Mem → Work
sign_and_send p s now h d m =
    opt (own_ack p m h d) (idle m) (λ a.
    then (then (signing s a (due_at (now + s.timeout) h m)) (store p s a)) (sending a))

-- the height is verified; its acks are set aside
abbrev pub cleared : ℕ → Bytes → Mem → Mem
cleared h d m = with_pending (verified h d m.pending) (with_acks (those (λ a. not (a.height == h)) m.acks) m)

abbrev pub digest_for : Answers → Settings → ℕ → ℕ → Bytes → Mem → Work
digest_for p s now h d m =
    opt (pending_at m h) (idle m) (λ x.
    opt x.verified
    (then (restore p s d (those (λ a. nat_eq a.height h) m.acks) (cleared h d m)) (sign_and_send p s now h d))
    (λ _. idle m))

-- Due, at a height whose deadline was taken away: the stored own ack of this epoch, or a new one
abbrev pub rebroadcast : Answers → Settings → ℕ → ℕ → Mem → Work
rebroadcast p s now h m =
    opt (pending_at m h) (idle m) (λ x. opt x.verified (idle m) (λ d. opt (own_ack p m h d) (idle m) (λ a.
    opt (ack_of m h a.epoch a.signer)
    (then (then (signing s a m) (store p s a)) (λ y. sending a (due_at (now + s.timeout) h y)))
    (λ b. sending b (due_at (now + s.timeout) h m)))))
