-- The rules leave the caller's slips alone. Assumes nothing.
use Rattle.std.proofs.Common.{◌≡◌, ℕ, zero, suc, ◌+◌, Bool, true, false, cond, not, ◌&&◌, ◌||◌, eqb, ltb, leb, List, [], ◌∷◌, ◌++◌, map, length, Some, None, Ok, Err, Option, Result, refl}
use Rattle.rules.proofs.Flow.{Calm, calm_append}
use Rattle.forms.specs.Values.{Ack, Cert, Activity, TipAck}
use Rattle.forms.specs.Reading as forms
use Rattle.journal.specs.declared.places.Overrun.{Overrun}
use Rattle.forms.specs.declared.faults.Fault.{Fault}
use Rattle.journal.specs.Log.{Log, Placed, reading}
use Rattle.provider.specs.Answers.{Answers}
use Rattle.rules.specs.Acts.{tell, sync_all, read}
use Rattle.rules.specs.Calls.{refused_late, plan_due, plan_closing}
use Rattle.rules.specs.Lists.{those, opt, front}
use Rattle.rules.specs.Message.{hearing, seat_told, counts, safe_tip, epoch_refusal, in_epoch, refused_short, too_high, plan_epoch, tip_told, to_safe_tip, ack_told, checked, blocked, plan_message, plan_told}
use Rattle.rules.specs.Opening.{found_refusal, opening_refusal, by_reading, open_with, open_from, plan_opening, unreadable, at_end, before}
use Rattle.rules.specs.Plans.{runs, closes, After, stays, Answer, Plan, refuse, or_refuse, carry, ok}
use Rattle.rules.specs.Rules.{announced, signing, sending, with_cert, first_free, Work, idle, then, move, certify, assembled, agreeing, counted, store, own_ack, restore_from, restore, cleared, sign_and_send, digest_for, rebroadcast, due_at, with_deadlines, keys, attested}
use Rattle.rules.specs.State.{Bytes, Settings, Mem, Desk, Engine, is_pending, is_certified, pending_at, ack_of, differs}
use Rattle.std.specs.Str.{bytes_eq}
use Rattle.tips.specs.Faults.{quorum}

-- by cases
pub by_cond : {A : Type 0} (P : A → Type 0) (b : Bool) (x y : A) → P x → P y → P (cond b x y)
by_cond P true x y p q = p
by_cond P false x y p q = q

pub by_opt : {A B : Type 0} (P : B → Type 0) (o : Option A) (n : B) (f : A → B) → P n → ((x : A) → P (f x)) → P (opt o n f)
by_opt P None n f p q = p
by_opt P (Some x) n f p q = q x

pub by_front : {A B : Type 0} (P : B → Type 0) (l : List A) (n : B) (f : A → List A → B) → P n → ((x : A) (xs : List A) → P (f x xs)) → P (front l n f)
by_front P [] n f p q = p
by_front P (x ∷ xs) n f p q = q x xs

pub by_read : {A B : Type 0} (P : B → Type 0) (r : Result A Fault) (w : Fault → B) (f : A → B) → ((e : Fault) → P (w e)) → ((x : A) → P (f x)) → P (by_reading r w f)
by_read P (Ok x) w f p q = q x
by_read P (Err e) w f p q = p e

record W (w : Work) : Type 0 where
  calm : Calm w.acts

still : (m : Mem) → W (idle m)
still m = record { calm = tt }

calm_then : (w : Work) (f : Mem → Work) → W w → ((m : Mem) → W (f m)) → W (then w f)
calm_then w f c d = record { calm = calm_append w.acts (f w.mem).acts c.calm (d w.mem).calm }

calm_move : (s : Settings) (t : ℕ) (m : Mem) → W (move s t m)
calm_move s t m = record {
  calm =
      ((λ n k. tt, λ n. refl, refl), ((λ n k. tt, λ n. refl, refl), ((λ n k. tt, λ n. refl, refl), ((λ n k. tt, λ n. refl, refl), ((λ n k. tt, λ n. refl, refl), tt)))));
}

calm_told : (s : Settings) (c : Cert) (m : Mem) → W (announced s c m)
calm_told s c m = record { calm = ((λ n k. tt, λ n. refl, refl), ((λ n k. tt, λ n. refl, refl), ((λ n k. tt, λ n. refl, refl), ((λ n k. tt, λ n. refl, refl), tt)))) }

calm_certify : (s : Settings) (c : Cert) (m : Mem) → W (certify s c m)
calm_certify s c m =
    by_cond W (is_certified m c.height) _ _ (still m)
    (calm_then _ _ (calm_told s c (with_cert c m)) (λ n. by_cond W (eqb c.height n.tip) _ _ (calm_move s (first_free (length n.certs) (c.height + 1) n) n) (still n)))

calm_assembled : (s : Settings) (a : Ack) (o : Option Bytes) (m : Mem) → W (assembled s a o m)
calm_assembled s a None m = record { calm = ((λ n k. tt, λ n. refl, refl), tt) }
calm_assembled s a (Some c) m = calm_certify s _ m

calm_counted : (p : Answers) (s : Settings) (a : Ack) (n : ℕ) (m : Mem) → W (counted p s a n m)
calm_counted p s a n m = by_cond W (leb (quorum n) (length (agreeing a m.acks))) _ _ (calm_assembled s a (p.signing.assemble a.epoch (map attested (agreeing a m.acks))) m) (still m)

calm_store : (p : Answers) (s : Settings) (a : Ack) (m : Mem) → W (store p s a m)
calm_store p s a m =
    by_opt W (keys p a.epoch) _ _ (still m) (λ ks. by_cond W (not (is_pending m a.height) || differs (pending_at m a.height) a.digest) _ _ (still m)
    (by_opt W (ack_of m a.height a.epoch a.signer) _ _ (calm_counted p s a (length ks) _) (λ b. still m)))

calm_signing : (s : Settings) (a : Ack) (m : Mem) → W (signing s a m)
calm_signing s a m = record { calm = ((λ n k. tt, λ n. refl, refl), ((λ n k. tt, λ n. refl, refl), ((λ n k. tt, λ n. refl, refl), tt))) }

calm_sending : (a : Ack) (m : Mem) → W (sending a m)
calm_sending a m = record { calm = ((λ n k. tt, λ n. refl, refl), tt) }

calm_hearing : (a : Ack) (m : Mem) → W (hearing a m)
calm_hearing a m = record { calm = ((λ n k. tt, λ n. refl, refl), tt) }

calm_restore-from : (p : Answers) (s : Settings) (d : Bytes) (e : ℕ) (l : List Ack) (m : Mem) → W (restore_from p s d e l m)
calm_restore-from p s d e [] m = still m
calm_restore-from p s d e (a ∷ rest) m =
    by_cond W (not (eqb a.epoch e) && is_certified m a.height) _ _ (still m)
    (by_cond W (bytes_eq a.digest d) _ _
    (calm_then (store p s a m) (restore_from p s d a.epoch rest) (calm_store p s a m) (calm_restore-from p s d a.epoch rest))
    (calm_restore-from p s d a.epoch rest m))

calm_restore : (p : Answers) (s : Settings) (d : Bytes) (l : List Ack) (m : Mem) → W (restore p s d l m)
calm_restore p s d [] m = still m
calm_restore p s d (a ∷ rest) m = calm_restore-from p s d a.epoch (a ∷ rest) m

calm_send : (p : Answers) (s : Settings) (now h : ℕ) (d : Bytes) (m : Mem) → W (sign_and_send p s now h d m)
calm_send p s now h d m =
    by_opt W (own_ack p m h d) _ _ (still m) (λ a.
    calm_then _ (sending a) (calm_then (signing s a (due_at (now + s.timeout) h m)) (store p s a) (calm_signing s a (due_at (now + s.timeout) h m)) (calm_store p s a)) (λ x. calm_sending a x))

calm_digest_for : (p : Answers) (s : Settings) (now h : ℕ) (d : Bytes) (m : Mem) → W (digest_for p s now h d m)
calm_digest_for p s now h d m =
    by_opt W (pending_at m h) _ _ (still m) (λ x. by_opt W x.verified _ _
    (calm_then (restore p s d (those (λ a. eqb a.height h) m.acks) (cleared h d m)) (sign_and_send p s now h d) (calm_restore p s d (those (λ a. eqb a.height h) m.acks) (cleared h d m)) (calm_send p s now h d))
    (λ _. still m))

pub calm_digest : (p : Answers) (s : Settings) (now h : ℕ) (d : Bytes) (m : Mem) → Calm (digest_for p s now h d m).acts
calm_digest p s now h d m = (calm_digest_for p s now h d m).calm

calm_rebroadcast : (p : Answers) (s : Settings) (now h : ℕ) (m : Mem) → W (rebroadcast p s now h m)
calm_rebroadcast p s now h m =
    by_opt W (pending_at m h) _ _ (still m) (λ x. by_opt W x.verified _ _ (still m) (λ d. by_opt W (own_ack p m h d) _ _ (still m) (λ a.
    by_opt W (ack_of m h a.epoch a.signer) _ _
    (calm_then _ (λ y. sending a (due_at (now + s.timeout) h y)) (calm_then (signing s a m) (store p s a) (calm_signing s a m) (calm_store p s a)) (λ x. calm_sending a (due_at (now + s.timeout) h x)))
    (λ b. calm_sending b (due_at (now + s.timeout) h m)))))

abbrev pub shuts : After → Bool
shuts stays = false
shuts (runs m) = false
shuts closes = true

pub record P (pl : Plan) : Type 0 where
  pub calm : Calm pl.acts
  pub stay : shuts pl.after ≡ false

none_done : (n : ℕ) → P (refuse n)
none_done n = record { calm = tt; stay = refl }

carried : (s : Settings) (w : Work) (a : Answer) → W w → P (carry s w a)
carried s w a c = record { calm = c.calm; stay = refl }

calm_or : (n : ℕ) (pl : Plan) → P pl → P (or_refuse n pl)
calm_or zero pl c = c
calm_or (suc n) pl c = none_done (suc n)

calm_tells : (l : List Activity) → Calm (map tell l)
calm_tells [] = tt
calm_tells (x ∷ l) = ((λ n k. tt, λ n. refl, refl), calm_tells l)

all_told : (l : List Activity) (m : Mem) (a : Answer) → P (record { acts = read None ∷ map tell l; after = runs m; answer = a })
all_told l m a = record { calm = ((λ n k. tt, λ n. refl, refl), calm_tells l); stay = refl }

just_read : (o : Option Overrun) (a : Answer) → P (unreadable o a)
just_read o a = record { calm = ((λ n k. tt, λ n. refl, refl), tt); stay = refl }

calm_open_with : (p : Answers) (s : Settings) (e now room : ℕ) (l : List Activity) → P (open_with p s e now room l)
calm_open_with p s e now room l = by_cond P (eqb (found_refusal p s e room l) 0) _ _ (all_told l _ _) (just_read None _)

calm_at-end : (p : Answers) (s : Settings) (e now room : ℕ) (l : List Activity) (o : Option Overrun) → P (at_end p s e now room l o)
calm_at-end p s e now room l None = calm_open_with p s e now room l
calm_at-end p s e now room l (Some x) = just_read (Some x) _

calm_open_from : (p : Answers) (s : Settings) (e now room : ℕ) (l : List Activity) (o : Option Overrun) (rs : List Placed) → P (open_from p s e now room l o rs)
calm_open_from p s e now room l o [] = calm_at-end p s e now room l o
calm_open_from p s e now room l o (r ∷ rs) =
    by_read P (forms.read r.bytes) _ _ (λ w. just_read o _) (λ x. calm_open_from p s e now room (l ++ (x ∷ [])) o rs)

pub calm_opening : (p : Answers) (s : Settings) (x : Engine) (v : Log) (o : Option Overrun) (e now room : ℕ) → P (plan_opening p s x v o e now room)
calm_opening p s x v o e now room = calm_or (opening_refusal p s x e now) _ (calm_open_from p s e now room [] o (those (before o) (reading v.sections)))

pub calm_epoch : (p : Answers) (s : Settings) (m : Mem) (e now : ℕ) → P (plan_epoch p s m e now)
calm_epoch p s m e now = calm_or (epoch_refusal p m e now) _ (carried s _ ok (still (in_epoch p s m e now)))

calm_safe : (s : Settings) (m : Mem) → W (to_safe_tip s m)
calm_safe s m = by_cond W (ltb m.tip (safe_tip m.seats)) _ _ (calm_move s (safe_tip m.seats) m) (still m)

calm_tip : (s : Settings) (k : Bytes) (t : ℕ) (m : Mem) → W (tip_told s k t m)
calm_tip s k t m = by_cond W (counts m k t) _ _ (calm_safe s (seat_told k t m)) (still m)

calm_blocked : (k : Bytes) (n : ℕ) → Calm (blocked k n)
calm_blocked k n = by_cond Calm (eqb n 16 || eqb n 21) _ _ ((λ n k. tt, λ n. refl, refl), tt) tt

calm_ack : (p : Answers) (s : Settings) (k : Bytes) (a : Ack) (m : Mem) → W (ack_told p s k a m)
calm_ack p s k a m =
    by_cond W (eqb (checked p s k a m) 0) _ _
    (calm_then (hearing a m) (store p s a) (calm_hearing a m) (calm_store p s a)) (record { calm = calm_blocked k (checked p s k a m) })

calm_plan-told : (p : Answers) (s : Settings) (m : Mem) (k : Bytes) (t : TipAck) → P (plan_told p s m k t)
calm_plan-told p s m k t = by_cond P (too_high t) _ _ (none_done 13) (carried s _ _ (calm_then (tip_told s k t.tip m) (ack_told p s k t.ack) (calm_tip s k t.tip m) (calm_ack p s k t.ack)))

pub calm_message : (p : Answers) (s : Settings) (m : Mem) (k b : Bytes) (room : ℕ) → P (plan_message p s m k b room)
calm_message p s m k b room =
    calm_or (refused_short room) _ (by_read P (forms.message b) _ _ (λ w. record { calm = ((λ n k. tt, λ n. refl, refl), tt); stay = refl })
    (calm_plan-told p s m k))

pub calm_due : (p : Answers) (s : Settings) (m : Mem) (now room : ℕ) → P (plan_due p s m now room)
calm_due p s m now room =
    calm_or (refused_late now room) _ (by_front P m.deadlines _ _ (none_done 25) (λ d ds. by_cond P (ltb now d.time) _ _ (none_done 25) (carried s _ _ (calm_rebroadcast p s now d.height (with_deadlines ds m)))))

pub calm_closing : (k : Desk) → Calm (plan_closing k).acts
calm_closing k = by_cond (λ pl. Calm pl.acts) (eqb k.out 0) (record { acts = sync_all ∷ []; after = closes; answer = ok }) (refuse 26) ((λ n k. tt, λ n. refl, refl), tt) tt
