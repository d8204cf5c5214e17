-- The engine signs in its own epoch only. Assumes nothing.
use Rattle.std.proofs.Common.{◌≡◌, ℕ, zero, suc, ◌+◌, ◌-◌, Bool, true, false, not, ◌&&◌, ◌||◌, eqb, ltb, leb, List, [], ◌∷◌, map, length, Some, None, Option, sym, refl, ap, ◌∙◌, subst, inl, inr}
use Rattle.std.specs.List.{AllByRecursion}
use mathlib.Core.Bool.{false≢true}
use mathlib.Core.List.Memᴰ
use mathlib.Core.List.{Memᴰ}
use Rattle.std.specs.Str.{bytes_eq}
use Rattle.forms.specs.Values.{Ack, Cert, TipAck}
use Rattle.forms.specs.Reading as forms
use Rattle.journal.specs.Log.{Log, Bytes}
use Rattle.tips.specs.Faults.{quorum}
use Rattle.provider.specs.Answers.{Answers}
use Rattle.rules.specs.Lists.{those, placed}
use Rattle.rules.specs.State.{Settings, Mem, Desk, next, is_pending, is_certified, pending_at, ack_of, differs, ack_below}
use Rattle.rules.specs.Acts.{Act, append, sync, prune, sync_all, read, tell, send, block, hand_out, take_back, lodge, fetch, drop_below, hear, sign, make, fail, Ended, Space, Did, in_log, at_desk}
use Rattle.rules.specs.Rules.{keys, attested, Work, idle, then, move, first_free, with_acks, with_cert, announced, go_on, certify, agreeing, assembled, counted, store, own_ack, signing, sending, fill_by, due_at, restore_from, restore, cleared, sign_and_send, digest_for, rebroadcast, with_deadlines}
use Rattle.rules.specs.Plans.{After, stays, runs, closes, Plan, Answer, ok, refused, refuse, carry, or_refuse}
use Rattle.rules.specs.Message.{counts, safe_tip, seat_told, to_safe_tip, tip_told, checked, hearing, ack_told, ack_answer, refused_short, too_high, told, plan_told, undecoded, plan_message}
use Rattle.rules.specs.Calls.{take_first, fetch_first, put_by, refused_late, taken_back, plan_digest, plan_cancel, plan_due, plan_closing}
use Rattle.rules.proofs.Calm.{by_cond, by_opt, by_front, by_read}
use Rattle.rules.proofs.Digests.{mine, core_due}
use Rattle.rules.proofs.Keeps.{opt_both}

abbrev is_sign : Act → Bool
is_sign (append t x) = false
is_sign (sync t) = false
is_sign (prune t) = false
is_sign sync_all = false
is_sign (read o) = false
is_sign (tell x) = false
is_sign (send t a) = false
is_sign (block k) = false
is_sign (hand_out h) = false
is_sign (take_back h) = false
is_sign (lodge h) = false
is_sign (fetch h) = false
is_sign (drop_below h) = false
is_sign (hear a) = false
is_sign (sign a) = true
is_sign (make c) = false
is_sign fail = false

-- acts that sign nothing
abbrev pub Unsigned : List Act → Type 0
Unsigned l = AllByRecursion (λ a. is_sign a ≡ false) l

pub unsigned : (l : List Act) (a : Ack) → Unsigned l → Memᴰ (sign a) l → ⊥
unsigned [] a u m = Memᴰ.not-nil m
unsigned (x ∷ l) a u (Memᴰ.head e) = false≢true (sym u.0 ∙ ap is_sign (sym e))
unsigned (x ∷ l) a u (Memᴰ.tail m) = unsigned l a u.1 m

-- what was carried out was planned
pub did_in : (room : Space) (acts : List Act) (v : Log) (k : Desk) (r : Ended) (done : List Act) (w : Log) (j : Desk) (x : Act) → Did room acts v k r done w j → Memᴰ x done → Memᴰ x acts
did_in room [] v k r done w j x (_, e, _, _) m = subst (Memᴰ x) e m
did_in room (a ∷ acts) v k r done w j x (inl (_, e, _)) m = absurd (Memᴰ.not-nil (subst (Memᴰ x) e m))
did_in room (a ∷ acts) v k r done w j x (inr (_, (rest, e, d))) m = go (subst (Memᴰ x) e m) (λ n. did_in room acts (in_log a v) (at_desk a k) r rest w j x d n)
  where
    go : Memᴰ x (a ∷ rest) → (Memᴰ x rest → Memᴰ x acts) → Memᴰ x (a ∷ acts)
    go (Memᴰ.head q) f = Memᴰ.head q
    go (Memᴰ.tail n) f = Memᴰ.tail (f n)

-- a piece of work signs in the engine's epoch, which stays
record S (e : ℕ) (w : Work) : Type 0 where
  signs : (a : Ack) → Memᴰ (sign a) w.acts → a.epoch ≡ e
  epoch : w.mem.epoch ≡ e

none : (e : ℕ) (w : Work) → Unsigned w.acts → w.mem.epoch ≡ e → S e w
none e w u q = record { signs = λ a m. absurd (unsigned w.acts a u m); epoch = q }

still : (m : Mem) → S m.epoch (idle m)
still m = none m.epoch (idle m) tt refl

s_then : (e : ℕ) (w : Work) (f : Mem → Work) → S e w → ((n : Mem) → n.epoch ≡ e → S e (f n)) → S e (then w f)
s_then e w f x y = record {
  signs = λ a m. elim (Memᴰ.append_cases w.acts m) [ inl u ↦ x.signs a u | inr u ↦ (y w.mem x.epoch).signs a u ];
  epoch = (y w.mem x.epoch).epoch;
}

at : (e : ℕ) (m : Mem) (w : Work) → m.epoch ≡ e → S m.epoch w → S e w
at e m w q x = subst (λ k. S k w) q x

s_move : (s : Settings) (t : ℕ) (m : Mem) → S m.epoch (move s t m)
s_move s t m = none m.epoch (move s t m) (refl, (refl, (refl, (refl, (refl, tt))))) refl

s_certify : (s : Settings) (c : Cert) (m : Mem) → S m.epoch (certify s c m)
s_certify s c m =
    by_cond (S m.epoch) (is_certified m c.height) (idle m) (then (announced s c (with_cert c m)) (go_on s c.height)) (still m)
    (s_then m.epoch (announced s c (with_cert c m)) (go_on s c.height) (none m.epoch (announced s c (with_cert c m)) (refl, (refl, (refl, (refl, tt)))) refl)
    (λ n q. at m.epoch n _ q (by_cond (S n.epoch) (eqb c.height n.tip) (move s (first_free (length n.certs) (c.height + 1) n) n) (idle n) (s_move s _ n) (still n))))

s_assembled : (s : Settings) (a : Ack) (o : Option Bytes) (m : Mem) → S m.epoch (assembled s a o m)
s_assembled s a None m = none m.epoch (assembled s a None m) (refl, tt) refl
s_assembled s a (Some c) m = s_certify s _ m

s_counted : (p : Answers) (s : Settings) (a : Ack) (n : ℕ) (m : Mem) → S m.epoch (counted p s a n m)
s_counted p s a n m = by_cond (S m.epoch) (leb (quorum n) (length (agreeing a m.acks))) _ (idle m) (s_assembled s a (p.signing.assemble a.epoch (map attested (agreeing a m.acks))) m) (still m)

s_store : (p : Answers) (s : Settings) (a : Ack) (m : Mem) → S m.epoch (store p s a m)
s_store p s a m =
    by_opt (S m.epoch) (keys p a.epoch) (idle m) _ (still m)
    (λ ks. by_cond (S m.epoch) (not (is_pending m a.height) || differs (pending_at m a.height) a.digest) (idle m) _ (still m)
    (by_opt (S m.epoch) (ack_of m a.height a.epoch a.signer) _ _ (s_counted p s a (length ks) (with_acks (placed ack_below a m.acks) m)) (λ b. still m)))

s_restore-from : (p : Answers) (s : Settings) (d : Bytes) (e : ℕ) (l : List Ack) (m : Mem) → S m.epoch (restore_from p s d e l m)
s_restore-from p s d e [] m = still m
s_restore-from p s d e (a ∷ l) m =
    by_cond (S m.epoch) (not (eqb a.epoch e) && is_certified m a.height) (idle m) _ (still m)
    (by_cond (S m.epoch) (bytes_eq a.digest d) _ _
    (s_then m.epoch (store p s a m) (restore_from p s d a.epoch l) (s_store p s a m) (λ n q. at m.epoch n _ q (s_restore-from p s d a.epoch l n)))
    (s_restore-from p s d a.epoch l m))

s_restore : (p : Answers) (s : Settings) (d : Bytes) (l : List Ack) (m : Mem) → S m.epoch (restore p s d l m)
s_restore p s d [] m = still m
s_restore p s d (a ∷ l) m = s_restore-from p s d a.epoch (a ∷ l) m

due-epoch : (t h : ℕ) (m : Mem) → (due_at t h m).epoch ≡ m.epoch
due-epoch t h m = ap (λ k. k.epoch) (core_due t h m)

s_signing : (s : Settings) (a : Ack) (e : ℕ) (m : Mem) → a.epoch ≡ e → m.epoch ≡ e → S e (signing s a m)
s_signing s a e m q r = record { signs = λ b n. go b n; epoch = r }
  where
    go : (b : Ack) → Memᴰ (sign b) (signing s a m).acts → b.epoch ≡ e
    go b (Memᴰ.head f) = let z : b ≡ a = cc in ap (λ k. k.epoch) z ∙ q
    go b (Memᴰ.tail n) = absurd (unsigned _ b (refl, (refl, tt)) n)

s_sign-send : (p : Answers) (s : Settings) (now h : ℕ) (d : Bytes) (m : Mem) → S m.epoch (sign_and_send p s now h d m)
s_sign-send p s now h d m =
    opt_both (S m.epoch) (own_ack p m h d) (idle m) _ (λ _. still m)
    (λ a q.
    let k = mine p m h d a q in
    let due = due_at (now + s.timeout) h m in
    s_then m.epoch (then (signing s a due) (store p s a)) (sending a)
    (s_then m.epoch (signing s a due) (store p s a) (s_signing s a m.epoch due k.epoch (due-epoch (now + s.timeout) h m)) (λ n r. at m.epoch n _ r (s_store p s a n)))
    (λ n r. none m.epoch (sending a n) (refl, tt) r))

s_digest : (p : Answers) (s : Settings) (now h : ℕ) (d : Bytes) (m : Mem) → S m.epoch (digest_for p s now h d m)
s_digest p s now h d m =
    by_opt (S m.epoch) (pending_at m h) (idle m) _ (still m)
    (λ x. by_opt (S m.epoch) x.verified _ _
    (s_then m.epoch (restore p s d (those (λ a. eqb a.height h) m.acks) (cleared h d m)) (sign_and_send p s now h d)
    (s_restore p s d (those (λ a. eqb a.height h) m.acks) (cleared h d m)) (λ n q. at m.epoch n _ q (s_sign-send p s now h d n)))
    (λ _. still m))

s_rebroadcast : (p : Answers) (s : Settings) (now h : ℕ) (m : Mem) → S m.epoch (rebroadcast p s now h m)
s_rebroadcast p s now h m =
    by_opt (S m.epoch) (pending_at m h) (idle m) _ (still m)
    (λ x. by_opt (S m.epoch) x.verified (idle m) _ (still m)
    (λ d. opt_both (S m.epoch) (own_ack p m h d) (idle m) _ (λ _. still m)
    (λ a q.
    let k = mine p m h d a q in
    by_opt (S m.epoch) (ack_of m h a.epoch a.signer) _ _
    (s_then m.epoch (then (signing s a m) (store p s a)) (λ y. sending a (due_at (now + s.timeout) h y))
    (s_then m.epoch (signing s a m) (store p s a) (s_signing s a m.epoch m k.epoch refl) (λ n r. at m.epoch n _ r (s_store p s a n)))
    (λ n r. none m.epoch (sending a (due_at (now + s.timeout) h n)) (refl, tt) (due-epoch (now + s.timeout) h n ∙ r)))
    (λ b. none m.epoch (sending b (due_at (now + s.timeout) h m)) (refl, tt) (due-epoch (now + s.timeout) h m)))))

s_told : (p : Answers) (s : Settings) (k : Bytes) (t : TipAck) (m : Mem) → S m.epoch (told p s k t m)
s_told p s k t m =
    s_then m.epoch (tip_told s k t.tip m) (ack_told p s k t.ack)
    (by_cond (S m.epoch) (counts m k t.tip) (to_safe_tip s (seat_told k t.tip m)) (idle m)
    (by_cond (S m.epoch) (ltb m.tip (safe_tip (seat_told k t.tip m).seats)) (move s (safe_tip (seat_told k t.tip m).seats) (seat_told k t.tip m)) (idle (seat_told k t.tip m)) (s_move s _ (seat_told k t.tip m)) (still (seat_told k t.tip m)))
    (still m))
    (λ n q. at m.epoch n _ q
    (by_cond (S n.epoch) (eqb (checked p s k t.ack n) 0) _ _
    (s_then n.epoch (hearing t.ack n) (store p s t.ack) (none n.epoch (hearing t.ack n) (refl, tt) refl) (λ o r. at n.epoch o _ r (s_store p s t.ack o)))
    (none n.epoch _ (by_cond Unsigned (eqb (checked p s k t.ack n) 16 || eqb (checked p s k t.ack n) 21) (block k ∷ []) [] (refl, tt) tt) refl)))

pub fill-epoch : (n : ℕ) (s : Settings) (m : Mem) → (fill_by n s m).epoch ≡ m.epoch
fill-epoch zero s m = refl
fill-epoch (suc n) s m = by_cond (λ z. z.epoch ≡ m.epoch) (ltb (next m - m.tip) s.window) _ m (fill-epoch n s _) refl

-- a plan of a running engine that changes no epoch
abbrev pub SameEpoch : ℕ → After → Type 0
SameEpoch e stays = Unit {0}
SameEpoch e (runs n) = n.epoch ≡ e
SameEpoch e closes = Unit {0}

pub record Steady (e : ℕ) (pl : Plan) : Type 0 where
  pub signs : (a : Ack) → Memᴰ (sign a) pl.acts → a.epoch ≡ e
  pub epoch : SameEpoch e pl.after

idly : (e : ℕ) (pl : Plan) → Unsigned pl.acts → SameEpoch e pl.after → Steady e pl
idly e pl u q = record { signs = λ a m. absurd (unsigned pl.acts a u m); epoch = q }

carried : (s : Settings) (w : Work) (a : Answer) (e : ℕ) → S e w → Steady e (carry s w a)
carried s w a e x = record { signs = x.signs; epoch = fill-epoch s.window s w.mem ∙ x.epoch }

or_steady : (e n : ℕ) (pl : Plan) → Steady e pl → Steady e (or_refuse n pl)
or_steady e zero pl x = x
or_steady e (suc n) pl x = idly e (refuse (suc n)) tt tt

pub steady_message : (p : Answers) (s : Settings) (m : Mem) (k b : Bytes) (room : ℕ) → Steady m.epoch (plan_message p s m k b room)
steady_message p s m k b room =
    or_steady m.epoch (refused_short room) _ (by_read (Steady m.epoch) (forms.message b) (undecoded k) (plan_told p s m k) (λ w. idly m.epoch (undecoded k w) (refl, tt) tt)
    (λ t. by_cond (Steady m.epoch) (too_high t) (refuse 13) _ (idly m.epoch (refuse 13) tt tt) (carried s (told p s k t m) (ack_answer p s k t.ack (tip_told s k t.tip m).mem) m.epoch (s_told p s k t m))))

pub steady_taking : (m : Mem) (l : List ℕ) → Steady m.epoch (take_first m l)
steady_taking m [] = idly m.epoch (refuse 23) tt tt
steady_taking m (h ∷ l) = idly m.epoch (take_first m (h ∷ l)) (refl, tt) refl

pub steady_fetching : (e : ℕ) (l : List ℕ) → Steady e (fetch_first l)
steady_fetching e [] = idly e (refuse 23) tt tt
steady_fetching e (h ∷ l) = idly e (fetch_first (h ∷ l)) (refl, tt) tt

pub steady_put : (m : Mem) (h : ℕ) (a : Answer) → Steady m.epoch (put_by m h a)
steady_put m h a = idly m.epoch (put_by m h a) (by_cond Unsigned (is_pending m h) (lodge h ∷ []) (take_back h ∷ []) (refl, tt) (refl, tt)) tt

pub steady_digest : (p : Answers) (s : Settings) (m : Mem) (h : ℕ) (d : Bytes) (now room : ℕ) → Steady m.epoch (plan_digest p s m h d now room)
steady_digest p s m h d now room =
    by_cond (Steady m.epoch) (eqb (refused_late now room) 0) _ _
    (carried s (then (taken_back h m) (digest_for p s now h d)) ok m.epoch (s_then m.epoch (taken_back h m) (digest_for p s now h d) (none m.epoch (taken_back h m) (refl, tt) refl) (λ n q. at m.epoch n _ q (s_digest p s now h d n))))
    (steady_put m h (refused (refused_late now room)))

pub steady_cancel : (s : Settings) (m : Mem) (h : ℕ) → Steady m.epoch (plan_cancel s m h)
steady_cancel s m h = carried s (taken_back h m) ok m.epoch (none m.epoch (taken_back h m) (refl, tt) refl)

pub steady_due : (p : Answers) (s : Settings) (m : Mem) (now room : ℕ) → Steady m.epoch (plan_due p s m now room)
steady_due p s m now room =
    or_steady m.epoch (refused_late now room) _
    (by_front (Steady m.epoch) m.deadlines (refuse 25) _ (idly m.epoch (refuse 25) tt tt)
    (λ d ds. by_cond (Steady m.epoch) (ltb now d.time) (refuse 25) _ (idly m.epoch (refuse 25) tt tt) (carried s (rebroadcast p s now d.height (with_deadlines ds m)) ok m.epoch (s_rebroadcast p s now d.height (with_deadlines ds m)))))

pub steady_closing : (e : ℕ) (k : Desk) → Steady e (plan_closing k)
steady_closing e k = by_cond (Steady e) (eqb k.out 0) (record { acts = sync_all ∷ []; after = closes; answer = ok }) (refuse 26) (idly e _ (refl, tt) tt) (idly e (refuse 26) tt tt)
