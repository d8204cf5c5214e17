-- Whatever is told is durable when it is told. Assumes nothing.
use Rattle.std.proofs.Common.{◌≡◌, ℕ, zero, suc, ◌+◌, not, ◌&&◌, ◌||◌, eqb, ltb, leb, List, [], ◌∷◌, ◌++◌, map, length, Some, None, Option, sym, refl, ◌∙◌, subst, inl, inr}
use mathlib.Core.List.Memᴰ
use mathlib.Core.List.{Memᴰ}
use Rattle.std.specs.Str.{bytes_eq}
use Rattle.forms.specs.Values.{Ack, Cert, Activity, TipAck, certified, tip}
use Rattle.forms.specs.Reading as forms
use Rattle.forms.specs.Writing.{write}
use Rattle.tips.specs.Faults.{quorum}
use Rattle.journal.specs.Log.{Log, Section, Placed, reading, appended, synced, all_synced}
use Rattle.provider.specs.Answers.{Answers}
use Rattle.rules.specs.Lists.{those}
use Rattle.rules.specs.State.{Bytes, Settings, Mem, Desk, Engine, shut, running, halted, section, is_pending, is_certified, pending_at, ack_of, differs}
use Rattle.rules.specs.Acts.{Act, tell, sync_all, take_back, lodge, in_log}
use Rattle.rules.specs.Rules.{announced, signing, sending, with_cert, first_free, Work, idle, then, move, certify, assembled, agreeing, counted, store, own_ack, restore_from, restore, cleared, sign_and_send, digest_for, rebroadcast, due_at, with_deadlines, keys, attested}
use Rattle.rules.specs.Plans.{Event, opening, epoch_change, message, taking, fetching, handing_back, cancelling, lodging, due, closing, Answer, Plan, refuse, or_refuse, carry, closes, ok}
use Rattle.rules.specs.Opening.{found_refusal, opening_refusal, open_with, open_from, plan_opening, before}
use Rattle.rules.specs.Message.{hearing, seat_told, counts, safe_tip, epoch_refusal, in_epoch, refused_short, too_high, plan_epoch, tip_told, to_safe_tip, ack_told, checked, plan_message, plan_told}
use Rattle.rules.specs.Calls.{plan, refused_late, plan_due, plan_closing, take_first, fetch_first, taken_back, plan_digest, put_by, counted_back}
use Rattle.rules.specs.Limits.{height_in, Readable}
use Rattle.rules.specs.Durable.{Durable, ToldSafely, ToldDurable}
use Rattle.rules.proofs.Calm.{by_cond, by_opt, by_front, by_read}
use Rattle.rules.proofs.Members.{those_in}
use Rattle.rules.proofs.Recs.{Has, In, new-appended, new-synced, new-all, reading_in}
use Rattle.rules.proofs.Events.{read_both}
use Rattle.rules.proofs.Limits.{records_fit}

durable_in : (n : ℕ) (b : Bytes) (xs : List Section) → Has (λ x. x.durable) n b xs → (x : Section) × Memᴰ x xs × (x.number ≡ n) × Memᴰ b x.durable
durable_in n b [] i = absurd i
durable_in n b (x ∷ xs) (inl u) = (x, Memᴰ.head refl, u.0, u.1)
durable_in n b (x ∷ xs) (inr u) = let z = durable_in n b xs u in (z.0, Memᴰ.tail z.1, z.2, z.3)

-- what was appended and synced is durable
fresh : (n : ℕ) (b : Bytes) (v : Log) → Durable n b (synced n (appended n b v))
fresh n b v = durable_in n b (synced n (appended n b v)).sections (new-synced n b (appended n b v) (new-appended n b v))

module _ (s : Settings) where
  -- acts that tell nothing too early, whatever the journal holds
  record W (w : Work) : Type 0 where
    safe : (v : Log) → ToldSafely s w.acts v

  after_both : (xs ys : List Act) (v : Log) → ToldSafely s xs v → ((u : Log) → ToldSafely s ys u) → ToldSafely s (xs ++ ys) v
  after_both [] ys v a b = b v
  after_both (x ∷ xs) ys v a b = (a.0, after_both xs ys (in_log x v) a.1 b)

  still : (m : Mem) → W (idle m)
  still m = record { safe = λ v. tt }

  both : (w : Work) (f : Mem → Work) → W w → ((m : Mem) → W (f m)) → W (then w f)
  both w f c d = record { safe = λ v. after_both w.acts (f w.mem).acts v (c.safe v) (d w.mem).safe }

  w_move : (t : ℕ) (m : Mem) → W (move s t m)
  w_move t m = record { safe = λ v. (tt, (tt, (tt, (fresh (section s t) (write (tip t)) v, (tt, tt))))) }

  w_announced : (c : Cert) (m : Mem) → W (announced s c m)
  w_announced c m = record { safe = λ v. (tt, (tt, (tt, (fresh (section s c.height) (write (certified c)) v, tt)))) }

  w_certify : (c : Cert) (m : Mem) → W (certify s c m)
  w_certify c m =
      by_cond W (is_certified m c.height) _ _ (still m)
      (both _ _ (w_announced c (with_cert c m)) (λ n. by_cond W (eqb c.height n.tip) _ _ (w_move (first_free (length n.certs) (c.height + 1) n) n) (still n)))

  w_assembled : (a : Ack) (o : Option Bytes) (m : Mem) → W (assembled s a o m)
  w_assembled a None m = record { safe = λ v. (tt, tt) }
  w_assembled a (Some c) m = w_certify _ m

  w_signing : (a : Ack) (m : Mem) → W (signing s a m)
  w_signing a m = record { safe = λ v. (tt, (tt, (tt, tt))) }

  w_sending : (a : Ack) (m : Mem) → W (sending a m)
  w_sending a m = record { safe = λ v. (tt, tt) }

  w_hearing : (a : Ack) (m : Mem) → W (hearing a m)
  w_hearing a m = record { safe = λ v. (tt, tt) }

  w_taken : (h : ℕ) (m : Mem) → W (taken_back h m)
  w_taken h m = record { safe = λ v. (tt, tt) }

  w_safe_tip : (m : Mem) → W (to_safe_tip s m)
  w_safe_tip m = by_cond W (ltb m.tip (safe_tip m.seats)) _ _ (w_move (safe_tip m.seats) m) (still m)

  w_tip : (k : Bytes) (t : ℕ) (m : Mem) → W (tip_told s k t m)
  w_tip k t m = by_cond W (counts m k t) _ _ (w_safe_tip (seat_told k t m)) (still m)

  record P (pl : Plan) : Type 0 where
    safe : (v : Log) → ToldSafely s pl.acts v

  none_done : (n : ℕ) → P (refuse n)
  none_done n = record { safe = λ v. tt }

  carried : (w : Work) (a : Answer) → W w → P (carry s w a)
  carried w a c = record { safe = c.safe }

  p_or : (n : ℕ) (pl : Plan) → P pl → P (or_refuse n pl)
  p_or zero pl c = c
  p_or (suc n) pl c = none_done (suc n)

  p_put : (m : Mem) (h : ℕ) (a : Answer) → P (put_by m h a)
  p_put m h a = record { safe = λ v. by_cond (λ acts. ToldSafely s acts v) (is_pending m h) (lodge h ∷ []) (take_back h ∷ []) (tt, tt) (tt, tt) }

  p_take : (m : Mem) (hs : List ℕ) → P (take_first m hs)
  p_take m [] = none_done 23
  p_take m (h ∷ hs) = record { safe = λ v. (tt, tt) }

  p_fetch : (hs : List ℕ) → P (fetch_first hs)
  p_fetch [] = none_done 23
  p_fetch (h ∷ hs) = record { safe = λ v. (tt, tt) }

  p_back : (h : ℕ) → P (counted_back h)
  p_back h = record { safe = λ v. (tt, tt) }

  p_closing : (k : Desk) → P (plan_closing k)
  p_closing k = by_cond P (eqb k.out 0) (record { acts = sync_all ∷ []; after = closes; answer = ok }) (refuse 26) (record { safe = λ v. (tt, tt) }) (none_done 26)

  module _ (p : Answers) where
    w_counted : (a : Ack) (n : ℕ) (m : Mem) → W (counted p s a n m)
    w_counted a n m = by_cond W (leb (quorum n) (length (agreeing a m.acks))) _ _ (w_assembled a (p.signing.assemble a.epoch (map attested (agreeing a m.acks))) m) (still m)

    w_store : (a : Ack) (m : Mem) → W (store p s a m)
    w_store a m =
        by_opt W (keys p a.epoch) _ _ (still m) (λ ks. by_cond W (not (is_pending m a.height) || differs (pending_at m a.height) a.digest) _ _ (still m)
        (by_opt W (ack_of m a.height a.epoch a.signer) _ _ (w_counted a (length ks) _) (λ b. still m)))

    w_restore-from : (d : Bytes) (e : ℕ) (l : List Ack) (m : Mem) → W (restore_from p s d e l m)
    w_restore-from d e [] m = still m
    w_restore-from d e (a ∷ rest) m =
        by_cond W (not (eqb a.epoch e) && is_certified m a.height) _ _ (still m)
        (by_cond W (bytes_eq a.digest d) _ _
        (both (store p s a m) (restore_from p s d a.epoch rest) (w_store a m) (w_restore-from d a.epoch rest))
        (w_restore-from d a.epoch rest m))

    w_restore : (d : Bytes) (l : List Ack) (m : Mem) → W (restore p s d l m)
    w_restore d [] m = still m
    w_restore d (a ∷ rest) m = w_restore-from d a.epoch (a ∷ rest) m

    w_send : (now h : ℕ) (d : Bytes) (m : Mem) → W (sign_and_send p s now h d m)
    w_send now h d m =
        by_opt W (own_ack p m h d) _ _ (still m) (λ a.
        both _ (sending a) (both (signing s a (due_at (now + s.timeout) h m)) (store p s a) (w_signing a (due_at (now + s.timeout) h m)) (w_store a)) (λ x. w_sending a x))

    w_digest : (now h : ℕ) (d : Bytes) (m : Mem) → W (digest_for p s now h d m)
    w_digest now h d m =
        by_opt W (pending_at m h) _ _ (still m) (λ x. by_opt W x.verified _ _
        (both (restore p s d (those (λ a. eqb a.height h) m.acks) (cleared h d m)) (sign_and_send p s now h d) (w_restore d (those (λ a. eqb a.height h) m.acks) (cleared h d m)) (w_send now h d))
        (λ _. still m))

    w_rebroadcast : (now h : ℕ) (m : Mem) → W (rebroadcast p s now h m)
    w_rebroadcast now h m =
        by_opt W (pending_at m h) _ _ (still m) (λ x. by_opt W x.verified _ _ (still m) (λ d. by_opt W (own_ack p m h d) _ _ (still m) (λ a.
        by_opt W (ack_of m h a.epoch a.signer) _ _
        (both _ (λ y. sending a (due_at (now + s.timeout) h y)) (both (signing s a m) (store p s a) (w_signing a m) (w_store a)) (λ x. w_sending a (due_at (now + s.timeout) h x)))
        (λ b. w_sending b (due_at (now + s.timeout) h m)))))

    w_ack : (k : Bytes) (a : Ack) (m : Mem) → W (ack_told p s k a m)
    w_ack k a m =
        by_cond W (eqb (checked p s k a m) 0) _ _
        (both (hearing a m) (store p s a) (w_hearing a m) (w_store a))
        (record { safe = λ v. by_cond (λ acts. ToldSafely s acts v) (eqb (checked p s k a m) 16 || eqb (checked p s k a m) 21) _ _ (tt, tt) tt })

    p_epoch : (m : Mem) (e now : ℕ) → P (plan_epoch p s m e now)
    p_epoch m e now = p_or (epoch_refusal p m e now) _ (carried _ ok (still (in_epoch p s m e now)))

    p_told : (m : Mem) (k : Bytes) (t : TipAck) → P (plan_told p s m k t)
    p_told m k t = by_cond P (too_high t) _ _ (none_done 13) (carried _ _ (both (tip_told s k t.tip m) (ack_told p s k t.ack) (w_tip k t.tip m) (w_ack k t.ack)))

    p_message : (m : Mem) (k b : Bytes) (room : ℕ) → P (plan_message p s m k b room)
    p_message m k b room = p_or (refused_short room) _ (by_read P (forms.message b) _ _ (λ w. record { safe = λ v. (tt, tt) }) (p_told m k))

    p_digest : (m : Mem) (h : ℕ) (d : Bytes) (now room : ℕ) → P (plan_digest p s m h d now room)
    p_digest m h d now room =
        by_cond P (eqb (refused_late now room) 0) _ _ (carried _ ok (both (taken_back h m) (digest_for p s now h d) (w_taken h m) (w_digest now h d)))
        (p_put m h _)

    p_due : (m : Mem) (now room : ℕ) → P (plan_due p s m now room)
    p_due m now room =
        p_or (refused_late now room) _ (by_front P m.deadlines _ _ (none_done 25) (λ d ds. by_cond P (ltb now d.time) _ _ (none_done 25) (carried _ _ (w_rebroadcast now d.height (with_deadlines ds m)))))

    -- an opening tells what it has read
    module _ (e now room : ℕ) (v : Log) (all : (r : Placed) → Memᴰ r (reading v.sections) → Readable s r) where
      abbrev There : Activity → Type 0
      There x = In (section s (height_in x)) (write x) v

      tells : (l : List Activity) → ((x : Activity) → Memᴰ x l → There x) → ToldSafely s (map tell l) (all_synced v)
      tells [] f = tt
      tells (x ∷ l) f =
          (durable_in _ _ (all_synced v).sections (new-all (section s (height_in x)) (write x) v (f x (Memᴰ.head refl))), tells l (λ y n. f y (Memᴰ.tail n)))

      o_with : (xs : List Activity) → ((x : Activity) → Memᴰ x xs → There x) → ToldSafely s (open_with p s e now room xs).acts v
      o_with xs f = by_cond (λ (pl : Plan). ToldSafely s pl.acts v) (eqb (found_refusal p s e room xs) 0) _ _ (tt, tells xs f) (tt, tt)

      o_from : (xs : List Activity) (rs : List Placed) → ((x : Activity) → Memᴰ x xs → There x) → ((r : Placed) → Memᴰ r rs → Memᴰ r (reading v.sections)) →
          ToldSafely s (open_from p s e now room xs None rs).acts v
      o_from xs [] f here = o_with xs f
      o_from xs (r ∷ rs) f here =
          read_both (λ (pl : Plan). ToldSafely s pl.acts v) (forms.read r.bytes) _ _ (λ w _. (tt, tt))
          (λ y q.
          let z = all r (here r (Memᴰ.head refl)) in
          let same : y ≡ z.says = (let b = z.back in cc) in
          let there : There z.says = subst (λ n. In n (write z.says) v) z.placed (subst (λ b. In r.section b v) z.written (reading_in v r (here r (Memᴰ.head refl)))) in
          o_from (xs ++ (y ∷ [])) rs
          (λ x n. elim (Memᴰ.append_cases xs n) [ inl o ↦ f x o | inr o ↦ subst There (sym (Memᴰ.eq_of_singleton o ∙ same)) there ])
          (λ k n. here k (Memᴰ.tail n)))

      o_plan : (x : Engine) → ToldSafely s (plan_opening p s x v None e now room).acts v
      o_plan x = go (opening_refusal p s x e now)
        where
          go : (n : ℕ) → ToldSafely s (or_refuse n (open_from p s e now room [] None (those (before None) (reading v.sections)))).acts v
          go zero = o_from [] (those (before None) (reading v.sections)) (λ x n. absurd (Memᴰ.not-nil n)) (λ r n. (those_in (before None) r (reading v.sections) n).0)
          go (suc n) = tt

    told : (x : Engine) (v : Log) → ((r : Placed) → Memᴰ r (reading v.sections) → Readable s r) → (e : Event) → ToldSafely s (plan p s x v None e).acts v
    told x v all (opening e now room) = o_plan e now room v all x
    told shut v all (epoch_change e now) = tt
    told (running m k) v all (epoch_change e now) = (p_epoch m e now).safe v
    told (halted k) v all (epoch_change e now) = tt
    told shut v all (message k b room) = tt
    told (running m d) v all (message k b room) = (p_message m k b room).safe v
    told (halted d) v all (message k b room) = tt
    told shut v all taking = tt
    told (running m k) v all taking = (p_take m m.wanted).safe v
    told (halted k) v all taking = tt
    told shut v all fetching = tt
    told (running m k) v all fetching = (p_fetch k.lodged).safe v
    told (halted k) v all fetching = (p_fetch k.lodged).safe v
    told shut v all (handing_back h d now room) = tt
    told (running m k) v all (handing_back h d now room) = (by_cond P (eqb k.out 0) (refuse 24) _ (none_done 24) (p_digest m h d now room)).safe v
    told (halted k) v all (handing_back h d now room) = (by_cond P (eqb k.out 0) (refuse 24) _ (none_done 24) (p_back h)).safe v
    told shut v all (cancelling h) = tt
    told (running m k) v all (cancelling h) = (by_cond P (eqb k.out 0) (refuse 24) _ (none_done 24) (carried _ ok (w_taken h m))).safe v
    told (halted k) v all (cancelling h) = (by_cond P (eqb k.out 0) (refuse 24) _ (none_done 24) (p_back h)).safe v
    told shut v all (lodging h) = tt
    told (running m k) v all (lodging h) = (by_cond P (eqb k.out 0) (refuse 24) _ (none_done 24) (p_put m h ok)).safe v
    told (halted k) v all (lodging h) = (by_cond P (eqb k.out 0) (refuse 24) _ (none_done 24) (p_back h)).safe v
    told shut v all (due now room) = tt
    told (running m k) v all (due now room) = (p_due m now room).safe v
    told (halted k) v all (due now room) = tt
    told shut v all closing = tt
    told (running m k) v all closing = (p_closing k).safe v
    told (halted k) v all closing = (p_closing k).safe v

pub told-durable : ToldDurable
told-durable p s x past law run e = told s p x.engine x.log (records_fit p s x past law run).0 e
