-- What each call writes fits into 2,048 bytes. Assumes nothing.
use Rattle.std.proofs.Common.{◌≡◌, ℕ, zero, suc, ◌+◌, ◌^◌, ◌<◌, ◌≤◌, Bool, true, false, cond, not, ◌&&◌, ◌||◌, eqb, ltb, leb, List, [], ◌∷◌, ◌++◌, length, Some, None, refl, ap, subst, inl, inr, ⊎_elim, arith, length-append, All}
use Rattle.std.proofs.lemmas.List.Elements.{All-head, All-tail, All-weaker}
use Rattle.std.specs.Str.{bytes_eq}
use Rattle.std.proofs.lemmas.Bool.{cond_both, eqb-true, leb-false, or_parts, and_parts}
use Rattle.forms.specs.Values.{Ack, TipAck}
use Rattle.forms.specs.Reading as forms
use Rattle.forms.specs.Reading.{top_number}
use Rattle.journal.specs.Log.{Log}
use Rattle.provider.specs.Answers.{Answers}
use Rattle.provider.specs.Laws.{Lawful}
use Rattle.rules.specs.Lists.{those, highest}
use Rattle.rules.specs.State.{Bytes, Seat, Settings, allowed, Mem, Desk, Engine, shut, running, halted, pending_at, is_pending, is_certified, ack_of}
use Rattle.rules.specs.Acts.{Act, send, block, Ended, Space, Did, in_log, at_desk}
use Rattle.rules.specs.Rules.{Work, idle, then, own_ack, signing, store, due_at, with_deadlines, restore_from, restore, sign_and_send, cleared, digest_for, rebroadcast}
use Rattle.rules.specs.Plans.{Event, opening, epoch_change, message, taking, fetching, handing_back, cancelling, lodging, due, closing, Plan, refuse, or_refuse}
use Rattle.rules.specs.Message.{epoch_refusal, counts, safe_tip, seat_told, tip_told, checked, blocked, hearing, ack_told, refused_short, too_high, plan_told, plan_message}
use Rattle.rules.specs.Calls.{take_first, fetch_first, refused_late, plan_digest, plan_due, plan}
use Rattle.rules.specs.Runs.{Run, Deed, Sized}
use Rattle.rules.specs.Promises.{is_opening}
use Rattle.rules.specs.Output.{written, output, OutputFits}
use Rattle.rules.specs.Room.{InWindow, Formed, Neat}
use Rattle.rules.proofs.Calm.{by_cond, by_opt, by_front}
use Rattle.rules.proofs.Tables.{opt_both, all-those, all_sieved, first_of}
use Rattle.rules.proofs.Tidy.{N, own_fact, verified-size, in_window, k_restore, n_cleared}
use Rattle.rules.proofs.Decoded.{message-sized}
use Rattle.rules.proofs.Neat.{neat, if_read, formed, seats-told}
use Rattle.rules.proofs.Room.{bounds, acks_fit}
use Rattle.rules.proofs.Limits.{low_heights}
use Rattle.rules.proofs.Output.{size, size-append, top, size_send, U, Spent, Q, q_idle, q_then, u_move, size-move, q_store}

-- work that certifies a height once at most, and sends one ack
record T (h : ℕ) (m : Mem) (w : Work) : Type 0 where
  most : size w.acts ≤ 1225
  spent : Spent h m → size w.acts ≤ 139

t_idle : (h : ℕ) (m : Mem) → T h m (idle m)
t_idle h m = record { most = omega arith; spent = λ _. omega arith }

t_sent : (h : ℕ) (m n : Mem) (t : ℕ) (w : Work) (a : Ack) → Q h m w → t ≤ top → a.height ≤ top → Formed a → T h m (record { mem = n; acts = w.acts ++ (send t a ∷ []) })
t_sent h m n t w a q l k f =
    let z = size-append w.acts (send t a ∷ []) in
    let y = length-append (written (send t a)) [] in
    let x = size_send t a l k f in
    record { most = omega (arith, q.most); spent = λ v. omega (arith, (q.spent v).0) }

u_due : (t h : ℕ) (m : Mem) → U m.tip m.certs → U (due_at t h m).tip (due_at t h m).certs
u_due t h m u = by_cond (λ n. U n.tip n.certs) (is_pending m h) _ m u u

same-spent : (t h : ℕ) (m : Mem) → Spent h m → Spent h (due_at t h m)
same-spent t h m x = by_cond (Spent h) (is_pending m h) _ m x x

q_signing : (s : Settings) (h : ℕ) (a : Ack) (m n : Mem) → U n.tip n.certs → (Spent h m → Spent h n) → Q h m (signing s a n)
q_signing s h a m n u f = record { most = omega arith; small = u; spent = λ x. (refl, f x); used = inl refl }

module _ (p : Answers) (lawful : Lawful p) (s : Settings) where
  q_store-at : (h : ℕ) (a : Ack) (m : Mem) → a.height ≡ h → h < top → length a.digest ≡ 32 → U m.tip m.certs → Q h m (store p s a m)
  q_store-at h a m e l d u = subst (λ z. Q z m (store p s a m)) e (q_store p lawful s a m (omega arith) d u)

  q_restore-from : (h : ℕ) (d : Bytes) (c : ℕ) (l : List Ack) (m : Mem) → h < top → All (λ a. (a.height ≡ h) × Formed a) l → U m.tip m.certs → Q h m (restore_from p s d c l m)
  q_restore-from h d c [] m b g u = q_idle h m u
  q_restore-from h d c (a ∷ rest) m b all u =
      let P : Ack → Type 0 = λ a. (a.height ≡ h) × Formed a in
      let g = All-head P a rest all in
      let gs = All-tail P a rest all in
      by_cond (Q h m) (not (eqb a.epoch c) && is_certified m a.height) _ _ (q_idle h m u)
      (by_cond (Q h m) (bytes_eq a.digest d) _ _
      (q_then h m (store p s a m) (restore_from p s d a.epoch rest) (q_store-at h a m g.0 b g.1.digest u) (q_restore-from h d a.epoch rest _ b gs))
      (q_restore-from h d a.epoch rest m b gs u))

  q_restore : (h : ℕ) (d : Bytes) (l : List Ack) (m : Mem) → h < top → All (λ a. (a.height ≡ h) × Formed a) l → U m.tip m.certs → Q h m (restore p s d l m)
  q_restore h d [] m b g u = q_idle h m u
  q_restore h d (a ∷ rest) m b g u = q_restore-from h d a.epoch (a ∷ rest) m b g u

  t_send : (e n now h : ℕ) (d : Bytes) (m : Mem) → h < top → length d ≡ 32 → N s e n m → U m.tip m.certs → T h m (sign_and_send p s now h d m)
  t_send e n now h d m b size x u =
      opt_both (T h m) (own_ack p m h d) _ _ (λ _. t_idle h m) (λ a q.
      let f = own_fact p lawful m h d a (omega (arith, x.same, x.tidy.small)) size q in
      let w = q_then h m (signing s a (due_at (now + s.timeout) h m)) (store p s a) (q_signing s h a m (due_at (now + s.timeout) h m) (u_due _ h m u) (same-spent _ h m)) (q_store-at h a _ f.2 b f.1.digest) in
      t_sent h m _ _ _ a w w.small.tip (omega (arith, f.2)) f.1)

  size-digest : (e now h : ℕ) (d : Bytes) (m : Mem) → length d ≡ 32 → N s e 128 m → (is_pending m h ≡ true → h < top) → U m.tip m.certs → size (digest_for p s now h d m).acts ≤ 1225
  size-digest e now h d m len x b u =
      let l = those (λ a. eqb a.height h) m.acks in
      let formed-l : All (λ a. (a.height ≡ h) × Formed a) l =
      all_sieved (λ a. InWindow s m.tip a.height × Formed a) (λ a. (a.height ≡ h) × Formed a) (λ a. eqb a.height h) (λ a q k. (eqb-true a.height h q, k.1)) m.acks x.tidy.near in
      opt_both (λ w. size w.acts ≤ 1225) (pending_at m h) (idle m) _ (λ _. omega arith) (λ z r.
      by_opt (λ w. size w.acts ≤ 1225) z.verified _ (λ _. idle m)
      (let hb = b (ap (λ o. elim o [ None ↦ false | Some _ ↦ true ]) r) in
      let q = q_restore h d l (cleared h d m) hb formed-l u in
      let k = k_restore s e p d l _ (cleared h d m) (All-weaker (λ a. (a.height ≡ h) × Formed a) Formed (λ a y. y.1) l formed-l) (n_cleared p lawful s e 128 h d m len x) in
      let t = t_send e _ now h d (restore p s d l (cleared h d m)).mem hb len k.kept q.small in
      let za = size-append (restore p s d l (cleared h d m)).acts (sign_and_send p s now h d (restore p s d l (cleared h d m)).mem).acts in
      ⊎_elim (λ o. omega (arith, o, t.most, za)) (λ o. omega (arith, q.most, t.spent o, za)) q.used)
      (λ _. omega arith))

  size-rebroadcast : (e now h : ℕ) (m : Mem) → N s e 128 m → (is_pending m h ≡ true → h < top) → U m.tip m.certs → size (rebroadcast p s now h m).acts ≤ 1225
  size-rebroadcast e now h m x b u =
      let S : Work → Type 0 = λ w. size w.acts ≤ 1225 in
      opt_both S (pending_at m h) (idle m) _ (λ _. omega arith) (λ z r. opt_both S z.verified (idle m) _ (λ _. omega arith) (λ d v. opt_both S (own_ack p m h d) (idle m) _ (λ _. omega arith) (λ a q.
      let hb = b (ap (λ o. elim o [ None ↦ false | Some _ ↦ true ]) r) in
      let len = verified-size p lawful s e 128 h d z m x r v in
      let f = own_fact p lawful m h d a (omega (arith, x.same, x.tidy.small)) len q in
      opt_both S (ack_of m h a.epoch a.signer) _ _
      (λ _.
      let w = q_then h m (signing s a m) (store p s a) (q_signing s h a m m u (λ y. y)) (q_store-at h a _ f.2 hb f.1.digest) in
      (t_sent h m m _ (then (signing s a m) (store p s a)) a w (u_due (now + s.timeout) h _ w.small).tip (omega (arith, f.2)) f.1).most)
      (λ c o.
      let k = first_of (λ a. InWindow s m.tip a.height × Formed a) (λ y. eqb y.height h && (eqb y.epoch a.epoch && eqb y.signer a.signer)) m.acks c x.tidy.near o in
      let i = eqb-true c.height h (and_parts (eqb c.height h) _ k.1).0 in
      omega (arith, size_send (due_at (now + s.timeout) h m).tip c (u_due (now + s.timeout) h m u).tip (omega arith) k.0.1, length-append (written (send (due_at (now + s.timeout) h m).tip c)) [])))))

-- the tip of a message
high_below : {A : Type 0} (f : A → ℕ) (b n : ℕ) (xs : List A) → n < b → All (λ x. f x < b) xs → highest f n xs < b
high_below {A = A} f b n [] l a = l
high_below {A = A} f b n (x ∷ xs) l a =
    let P = λ (x : A). f x < b in
    let k = All-head P x xs a in
    let i = high_below f b n xs l (All-tail P x xs a) in
    omega arith

safe_below : (xs : List Seat) (p : Seat → Bool) → All (λ x. x.tip < 2 ^ 62) xs → highest (λ x. x.tip) 0 (those p xs) < 2 ^ 62
safe_below xs p a = high_below (λ x. x.tip) (2 ^ 62) 0 (those p xs) (omega arith) (all-those (λ x. x.tip < 2 ^ 62) p xs a)

record V (w : Work) : Type 0 where
  most : size w.acts ≤ 14
  small : U w.mem.tip w.mem.certs

v_tip : (s : Settings) (k : Bytes) (t : ℕ) (m : Mem) → t < 2 ^ 62 → All (λ x. x.tip < 2 ^ 62) m.seats → U m.tip m.certs → V (tip_told s k t m)
v_tip s k t m l a u =
    let o = seat_told k t m in
    let b : safe_tip o.seats < 2 ^ 62 = safe_below o.seats _ (seats-told k t m.seats l a) in
    by_cond V (counts m k t) _ _
    (by_cond V (ltb o.tip (safe_tip o.seats)) _ _ (record { most = size-move s (safe_tip o.seats) o (omega arith); small = u_move s (safe_tip o.seats) o (omega arith) u }) (record { most = omega arith; small = u }))
    (record { most = omega arith; small = u })

size-blocked : (k : Bytes) (n : ℕ) → length k ≡ 32 → size (blocked k n) ≤ 35
size-blocked k n l = by_cond (λ acts. size acts ≤ 35) (eqb n 16 || eqb n 21) (block k ∷ []) [] (omega (arith, length-append (written (block k)) [])) (omega arith)

record Z (pl : Plan) : Type 0 where
  fits : size pl.acts ≤ 2048

z_none : (n : ℕ) → Z (refuse n)
z_none n = record { fits = omega arith }

z_or : (n : ℕ) (pl : Plan) → Z pl → Z (or_refuse n pl)
z_or zero pl z = z
z_or (suc n) pl z = z_none (suc n)

module _ (p : Answers) (lawful : Lawful p) (s : Settings) (allow : allowed s ≡ true) (m : Mem) (n : Neat s m) (low-tip : m.tip < 2 ^ 63) where
  u : U m.tip m.certs
  u = let b = bounds s allow in record { tip = omega arith; certs = All-weaker (λ c. InWindow s m.tip c.height) (λ c. c.height < top) (λ c k. omega (arith, k.1, b.0)) m.certs n.certified }

  pending-below : (h : ℕ) → is_pending m h ≡ true → h < top
  pending-below h q = let b = bounds s allow in omega (arith, b.0, (in_window s m.epoch 128 h m (neat s m n) q).1)

  size-ack : (k : Bytes) (a : Ack) (o : Mem) → length k ≡ 32 → a.height < top → Formed a → U o.tip o.certs → size (ack_told p s k a o).acts ≤ 1086
  size-ack k a o l h f v =
      by_cond (λ w. size w.acts ≤ 1086) (eqb (checked p s k a o) 0) (then (hearing a o) (store p s a)) _ (q_store p lawful s a o h f.digest v).most (omega (arith, size-blocked k (checked p s k a o) l))

  z_told : (k : Bytes) (t : TipAck) → length k ≡ 32 → Formed t.ack → Z (plan_told p s m k t)
  z_told k t l f =
      cond_both (too_high t) (refuse 13) _ Z (λ _. z_none 13) (λ q.
      let o = or_parts (leb (2 ^ 62) t.tip) (leb (2 ^ 62) t.ack.height) q in
      let v = v_tip s k t.tip m (leb-false (2 ^ 62) t.tip o.0) n.told u in
      let z = size-append (tip_told s k t.tip m).acts (ack_told p s k t.ack (tip_told s k t.tip m).mem).acts in
      let y = leb-false (2 ^ 62) t.ack.height o.1 in
      record { fits = omega (arith, v.most, z, size-ack k t.ack (tip_told s k t.tip m).mem l (omega arith) f v.small) })

  z_message : (k b : Bytes) (room : ℕ) → length k ≡ 32 → Z (plan_message p s m k b room)
  z_message k b room l =
      z_or (refused_short room) _ (if_read Z _ (forms.message b) _ _ (message-sized b) (λ w. record { fits = omega (arith, length-append (written (block k)) []) }) (λ t z. z_told k t l (formed top_number t.ack z.ack)))

  z_digest : (h : ℕ) (d : Bytes) (now room : ℕ) → length d ≡ 32 → Z (plan_digest p s m h d now room)
  z_digest h d now room l =
      by_cond Z (eqb (refused_late now room) 0) _ _ (record { fits = omega (arith, size-digest p lawful s m.epoch now h d m l (neat s m n) (pending-below h) u) })
      (record { fits = by_cond (λ acts. size acts ≤ 2048) (is_pending m h) _ _ (omega arith) (omega arith) })

  z_due : (now room : ℕ) → Z (plan_due p s m now room)
  z_due now room =
      z_or (refused_late now room) _ (by_front Z m.deadlines _ _ (z_none 25) (λ d ds. by_cond Z (ltb now d.time) _ _ (z_none 25)
      (record { fits = omega (arith, size-rebroadcast p lawful s m.epoch now d.height (with_deadlines ds m) (record { same = refl; tidy = n }) (pending-below d.height) u) })))

  z_taking : (hs : List ℕ) → Z (take_first m hs)
  z_taking [] = z_none 23
  z_taking (h ∷ hs) = record { fits = omega arith }

z_fetching : (hs : List ℕ) → Z (fetch_first hs)
z_fetching [] = z_none 23
z_fetching (h ∷ hs) = record { fits = omega arith }

z_returned : (b : Bool) (n : ℕ) (pl : Plan) → Z pl → Z (cond b (refuse n) pl)
z_returned b n pl z = by_cond Z b (refuse n) pl (z_none n) z

-- what the engine's state must keep
abbrev Fit : Settings → Engine → Type 0
Fit s shut = Unit {0}
Fit s (running m k) = (allowed s ≡ true) × Neat s m × (m.tip < 2 ^ 63)
Fit s (halted k) = Unit {0}

z_plan : (p : Answers) → Lawful p → (s : Settings) (x : Engine) (v : Log) (e : Event) → Fit s x → Sized e → is_opening e ≡ false → Z (plan p s x v None e)
z_plan p l s x v (opening e now room) f z o = let y : ◌≡◌ {A = ℕ} 0 1 = cc in absurd (omega arith)
z_plan p l s (running m k) v (epoch_change e now) (a, n, t) z o = z_or (epoch_refusal p m e now) _ (record { fits = omega arith })
z_plan p l s (running m k) v (message c b room) (a, n, t) z o = z_message p l s a m n t c b room z.0
z_plan p l s (running m k) v taking (a, n, t) z o = z_taking p l s a m n t m.wanted
z_plan p l s (running m k) v fetching (a, n, t) z o = z_fetching k.lodged
z_plan p l s (running m k) v (handing_back h d now room) (a, n, t) z o = z_returned (eqb k.out 0) 24 _ (z_digest p l s a m n t h d now room z)
z_plan p l s (running m k) v (cancelling h) (a, n, t) z o = z_returned (eqb k.out 0) 24 _ (record { fits = omega arith })
z_plan p l s (running m k) v (lodging h) (a, n, t) z o = z_returned (eqb k.out 0) 24 _ (record { fits = by_cond (λ acts. size acts ≤ 2048) (is_pending m h) _ _ (omega arith) (omega arith) })
z_plan p l s (running m k) v (due now room) (a, n, t) z o = z_due p l s a m n t now room
z_plan p l s (running m k) v closing (a, n, t) z o = by_cond Z (eqb k.out 0) _ _ (record { fits = omega arith }) (z_none 26)
z_plan p l s shut v (epoch_change e now) f z o = z_none 1
z_plan p l s shut v (message c b room) f z o = z_none 1
z_plan p l s shut v taking f z o = z_none 1
z_plan p l s shut v fetching f z o = z_none 23
z_plan p l s shut v (handing_back h d now room) f z o = z_none 24
z_plan p l s shut v (cancelling h) f z o = z_none 24
z_plan p l s shut v (lodging h) f z o = z_none 24
z_plan p l s shut v (due now room) f z o = z_none 1
z_plan p l s shut v closing f z o = z_none 1
z_plan p l s (halted k) v (epoch_change e now) f z o = z_none 1
z_plan p l s (halted k) v (message c b room) f z o = z_none 1
z_plan p l s (halted k) v taking f z o = z_none 1
z_plan p l s (halted k) v fetching f z o = z_fetching k.lodged
z_plan p l s (halted k) v (handing_back h d now room) f z o = z_returned (eqb k.out 0) 24 _ (record { fits = omega arith })
z_plan p l s (halted k) v (cancelling h) f z o = z_returned (eqb k.out 0) 24 _ (record { fits = omega arith })
z_plan p l s (halted k) v (lodging h) f z o = z_returned (eqb k.out 0) 24 _ (record { fits = omega arith })
z_plan p l s (halted k) v (due now room) f z o = z_none 1
z_plan p l s (halted k) v closing f z o = by_cond Z (eqb k.out 0) _ _ (record { fits = omega arith }) (z_none 26)

-- what was carried out is a first part of what was planned
did-size : (room : Space) (acts : List Act) (v : Log) (k : Desk) (r : Ended) (done : List Act) (w : Log) (j : Desk) → Did room acts v k r done w j → size done ≤ size acts
did-size room [] v k r done w j (_, e, _, _) = omega (arith, ap size e)
did-size room (a ∷ acts) v k r done w j (inl (_, e, _)) = omega (arith, ap size e)
did-size room (a ∷ acts) v k r done w j (inr (_, (rest, e, d))) =
    omega (arith, ap size e, length-append (written a) (output rest), length-append (written a) (output acts), did-size room acts (in_log a v) (at_desk a k) r rest w j d)

fit : (p : Answers) (s : Settings) (past : List Deed) (v : Log) (x : Engine) → Lawful p → Run p s (record { engine = x; log = v }) past → Fit s x
fit p s past v shut l run = tt
fit p s past v (running m k) l run =
    let i = acks_fit.0 p s (record { engine = running m k; log = v }) past l run m k refl in
    let h = low_heights p s past v (running m k) l run in
    (i.0, i.1, omega (arith, h.0))
fit p s past v (halted k) l run = tt

pub output-fits : OutputFits
output-fits p s x past l run room e a done y z o c =
    let f = (z_plan p l s x.engine x.log e (fit p s past x.log x.engine l run) z o).fits in
    omega (arith, f, did-size room _ x.log _ c.ended done y.log c.desk c.did)
