-- Wanted heights only go up. Assumes nothing.
use Rattle.std.proofs.Common.{◌≡◌, ℕ, zero, suc, ◌+◌, ◌-◌, ◌≤◌, Bool, false, cond, not, ◌&&◌, ◌||◌, eqb, ltb, leb, List, [], ◌∷◌, ◌++◌, map, length, is_some, Some, None, Option, refl, arith, ltb-false, ltb-true, eqb-true, leb-false}
use Rattle.std.proofs.lemmas.Bool.{cond_both}
use Rattle.rules.proofs.Calm.{by_cond, by_opt, by_front, by_read}
use Rattle.forms.specs.Values.{Ack, Cert, Activity, TipAck}
use Rattle.forms.specs.Reading as forms
use Rattle.journal.specs.declared.places.Overrun.{Overrun}
use Rattle.journal.specs.Log.{Log, Placed, reading}
use Rattle.provider.specs.Answers.{Answers}
use Rattle.rules.specs.Acts.{sync_all}
use Rattle.rules.specs.Calls.{refused_late, plan_digest, plan_due, plan_closing, plan_cancel}
use Rattle.rules.specs.Lists.{those, from, highest, placed}
use Rattle.rules.specs.Message.{plan_epoch, epoch_refusal, in_epoch, counts, seat_told, safe_tip, to_safe_tip, tip_told, checked, hearing, ack_told, ack_answer, refused_short, too_high, plan_message, plan_told, told}
use Rattle.rules.specs.Opening.{Found, found, heights_left, own_digest, opened, open_with, at_end, open_from, found_refusal, opening_refusal, before, plan_opening}
use Rattle.rules.specs.Plans.{After, stays, runs, closes, Plan, Answer, refuse, or_refuse, carry, ok}
use Rattle.rules.specs.Rules.{announced, dropped, Work, idle, then, move, first_free, with_cert, certify, assembled, agreeing, counted, store, with_acks, with_deadlines, own_ack, restore_from, restore, cleared, signing, sending, sign_and_send, digest_for, rebroadcast, due_at, fill_by, fill, keys, attested}
use Rattle.rules.specs.State.{Bytes, Pending, Settings, Mem, Desk, Engine, is_pending, is_certified, pending_at, ack_of, differs, ack_below, next, low}
use Rattle.std.specs.Str.{bytes_eq}
use Rattle.tips.specs.Faults.{quorum}

-- from b on, in strictly ascending order, and below top
abbrev pub Asc : ℕ → List ℕ → ℕ → Type 0
Asc b [] top = b ≤ top
Asc b (h ∷ hs) top = (b ≤ h) × Asc (h + 1) hs top

pub asc_down : (b c : ℕ) (l : List ℕ) (top : ℕ) → c ≤ b → Asc b l top → Asc c l top
asc_down b c [] top e a = omega arith
asc_down b c (h ∷ l) top e (f, a) = (omega arith, a)

asc_top : (b : ℕ) (l : List ℕ) (s t : ℕ) → s ≤ t → Asc b l s → Asc b l t
asc_top b [] s t e a = omega arith
asc_top b (h ∷ l) s t e (f, a) = (f, asc_top (h + 1) l s t e a)

asc_those : (p : ℕ → Bool) (b : ℕ) (l : List ℕ) (top : ℕ) → Asc b l top → Asc b (those p l) top
asc_those p b [] top a = a
asc_those p b (h ∷ l) top (f, a) =
    let i = asc_those p (h + 1) l top a in
    by_cond (λ z. Asc b z top) (p h) (h ∷ those p l) (those p l) (f, i) (asc_down (h + 1) b (those p l) top (omega arith) i)

asc_push : (b : ℕ) (l : List ℕ) (top : ℕ) → Asc b l top → Asc b (l ++ (top ∷ [])) (top + 1)
asc_push b [] top a = (a, omega arith)
asc_push b (h ∷ l) top (f, a) = (f, asc_push (h + 1) l top a)

asc_from : (a n : ℕ) → Asc a (from a n) (a + n)
asc_from a zero = omega arith
asc_from a (suc n) = (omega arith, asc_top (a + 1) (from (a + 1) n) (a + 1 + n) (a + suc n) (omega arith) (asc_from (a + 1) n))

asc_own : (b : ℕ) (l : List ℕ) (s t : ℕ) → Asc b l s → b ≤ t → highest (λ x. x + 1) 0 l ≤ t → Asc b l t
asc_own b [] s t a e f = e
asc_own b (h ∷ l) s t (g, a) e f = (g, asc_own (h + 1) l s t a (omega arith) (omega arith))

-- highest
pub high_base : {A : Type 0} (f : A → ℕ) (n : ℕ) (l : List A) → n ≤ highest f n l
high_base f n [] = omega arith
high_base f n (x ∷ l) = let i = high_base f n l in omega arith

pub high_more : {A : Type 0} (f : A → ℕ) (n m : ℕ) (l : List A) → n ≤ m → highest f n l ≤ highest f m l
high_more f n m [] e = e
high_more f n m (x ∷ l) e = let i = high_more f n m l e in omega arith

pub high_those : {A : Type 0} (f : A → ℕ) (p : A → Bool) (n m : ℕ) (l : List A) → n ≤ m → ((x : A) → p x ≡ false → f x ≤ m) → highest f n l ≤ highest f m (those p l)
high_those f p n m [] e g = e
high_those f p n m (x ∷ l) e g =
    let i = high_those f p n m l e g in
    let j = high_base f m (those p l) in
    cond_both (p x) (x ∷ those p l) (those p l) (λ z. highest f n (x ∷ l) ≤ highest f m z) (λ _. omega arith) (λ q. let k = g x q in omega arith)

pub high_push : {A : Type 0} (f : A → ℕ) (n : ℕ) (l : List A) (x : A) → f x ≤ highest f n (l ++ (x ∷ []))
high_push f n [] x = omega arith
high_push f n (y ∷ l) x = let i = high_push f n l x in omega arith

pub high_map : {A B : Type 0} (f : A → ℕ) (g : B → ℕ) (k : A → B) (n : ℕ) (l : List A) → ((x : A) → f x ≤ g (k x)) → highest f n l ≤ highest g n (map k l)
high_map f g k n [] e = omega arith
high_map f g k n (x ∷ l) e = let i = high_map f g k n l e in let j = e x in omega arith

pub high_placed : (n : ℕ) (c : Cert) (l : List Cert) → highest (λ x. x.height + 1) n l ≤ highest (λ x. x.height + 1) n (placed (λ a b. ltb a.height b.height) c l)
high_placed n c [] = omega arith
high_placed n c (y ∷ l) =
    let i = high_placed n c l in
    let Q : List Cert → Type 0 = λ z. highest (λ x. x.height + 1) n (y ∷ l) ≤ highest (λ x. x.height + 1) n z in
    cond_both (ltb c.height y.height) (c ∷ y ∷ l) _ Q (λ _. omega arith)
    (λ a. cond_both (ltb y.height c.height) (y ∷ placed (λ a b. ltb a.height b.height) c l) (c ∷ l) Q (λ _. omega arith)
    (λ b. let u = ltb-false c.height y.height a in let v = ltb-false y.height c.height b in omega arith))

-- what is wanted stays in order
abbrev pub Grows : Mem → Mem → Type 0
Grows m n = (b : ℕ) → Asc b m.wanted (next m) → Asc b n.wanted (next n)

record G (m : Mem) (w : Work) : Type 0 where
  grow : Grows m w.mem

still : (m : Mem) → G m (idle m)
still m = record { grow = λ b a. a }

grow_then : (m : Mem) (w : Work) (f : Mem → Work) → G m w → ((n : Mem) → G n (f n)) → G m (then w f)
grow_then m w f g h = record { grow = λ b a. (h w.mem).grow b (g.grow b a) }

pub next-dropped : (c t : ℕ) (m : Mem) → m.tip ≤ t → c ≤ t → next m ≤ next (dropped c t m)
next-dropped c t m e f =
    let certs = high_those (λ x. x.height + 1) (λ x. leb c x.height) m.tip t m.certs e (λ x q. let u = leb-false c x.height q in omega arith) in
    let base = high_base (λ x. x.height + 1) t (those (λ x. leb c x.height) m.certs) in
    high_those (λ x. x.height + 1) (λ x. leb c x.height) (highest (λ x. x.height + 1) m.tip m.certs) (highest (λ x. x.height + 1) t (those (λ x. leb c x.height) m.certs)) m.pending certs
    (λ x q. let u = leb-false c x.height q in omega arith)

grow_move : (s : Settings) (t : ℕ) (m : Mem) → m.tip ≤ t → G m (move s t m)
grow_move s t m e = record {
  grow = λ b a. asc_top b (those (leb (low s t)) m.wanted) (next m) (next (dropped (low s t) t m)) (next-dropped (low s t) t m e (omega arith)) (asc_those (leb (low s t)) b m.wanted (next m) a);
}

pub free-above : (n t : ℕ) (m : Mem) → t ≤ first_free n t m
free-above zero t m = omega arith
free-above (suc n) t m = let i = free-above n (t + 1) m in by_cond (λ z. t ≤ z) (is_certified m t) (first_free n (t + 1) m) t (omega arith) (omega arith)

grow_cert : (c : Cert) (m : Mem) → Grows m (with_cert c m)
grow_cert c m b a =
    asc_top b m.wanted (next m) (next (with_cert c m)) (high_more (λ x. x.height + 1) _ _ m.pending (high_placed m.tip c m.certs)) a

grow_certify : (s : Settings) (c : Cert) (m : Mem) → G m (certify s c m)
grow_certify s c m =
    by_cond (G m) (is_certified m c.height) _ _ (still m)
    (grow_then m (announced s c (with_cert c m)) _ (record { grow = grow_cert c m })
    (λ n. let t = first_free (length n.certs) (c.height + 1) n in
    cond_both (eqb c.height n.tip) (move s t n) (idle n) (G n)
    (λ q. let u = eqb-true c.height n.tip q in let v = free-above (length n.certs) (c.height + 1) n in grow_move s t n (omega arith)) (λ _. still n)))

grow_assembled : (s : Settings) (a : Ack) (o : Option Bytes) (m : Mem) → G m (assembled s a o m)
grow_assembled s a None m = record { grow = λ b x. x }
grow_assembled s a (Some c) m = grow_certify s _ m

grow_counted : (p : Answers) (s : Settings) (a : Ack) (n : ℕ) (m : Mem) → G m (counted p s a n m)
grow_counted p s a n m = by_cond (G m) (leb (quorum n) (length (agreeing a m.acks))) _ _ (grow_assembled s a (p.signing.assemble a.epoch (map attested (agreeing a m.acks))) m) (still m)

-- acks are nothing to what is wanted
with_new : (p : Answers) (s : Settings) (a : Ack) (n : ℕ) (m : Mem) → G m (counted p s a n (with_acks (placed ack_below a m.acks) m))
with_new p s a n m = record { grow = λ b x. (grow_counted p s a n (with_acks (placed ack_below a m.acks) m)).grow b x }

grow_store : (p : Answers) (s : Settings) (a : Ack) (m : Mem) → G m (store p s a m)
grow_store p s a m =
    by_opt (G m) (keys p a.epoch) _ _ (still m) (λ ks. by_cond (G m) (not (is_pending m a.height) || differs (pending_at m a.height) a.digest) _ _ (still m)
    (by_opt (G m) (ack_of m a.height a.epoch a.signer) _ _ (with_new p s a (length ks) m) (λ b. still m)))

grow_restore-from : (p : Answers) (s : Settings) (d : Bytes) (e : ℕ) (l : List Ack) (m : Mem) → G m (restore_from p s d e l m)
grow_restore-from p s d e [] m = still m
grow_restore-from p s d e (a ∷ rest) m =
    by_cond (G m) (not (eqb a.epoch e) && is_certified m a.height) _ _ (still m)
    (by_cond (G m) (bytes_eq a.digest d) _ _
    (grow_then m (store p s a m) (restore_from p s d a.epoch rest) (grow_store p s a m) (grow_restore-from p s d a.epoch rest))
    (grow_restore-from p s d a.epoch rest m))

grow_restore : (p : Answers) (s : Settings) (d : Bytes) (l : List Ack) (m : Mem) → G m (restore p s d l m)
grow_restore p s d [] m = still m
grow_restore p s d (a ∷ rest) m = grow_restore-from p s d a.epoch (a ∷ rest) m

grow_due : (t h : ℕ) (m : Mem) → Grows m (due_at t h m)
grow_due t h m = by_cond (Grows m) (is_pending m h) _ _ (λ b a. a) (λ b a. a)

grow_send : (p : Answers) (s : Settings) (now h : ℕ) (d : Bytes) (m : Mem) → G m (sign_and_send p s now h d m)
grow_send p s now h d m =
    by_opt (G m) (own_ack p m h d) _ _ (still m) (λ a.
    grow_then m _ (sending a) (grow_then m (signing s a (due_at (now + s.timeout) h m)) (store p s a) (record { grow = grow_due (now + s.timeout) h m }) (grow_store p s a)) (λ x. record { grow = λ b y. y }))

grow_cleared : (h : ℕ) (d : Bytes) (m : Mem) → Grows m (cleared h d m)
grow_cleared h d m b a =
    asc_top b m.wanted (next m) (next (cleared h d m))
    (high_map (λ x. x.height + 1) (λ x. x.height + 1) (λ x. cond (eqb x.height h) (record { height = h; verified = Some d }) x) _ m.pending
    (λ x. cond_both (eqb x.height h) (record { height = h; verified = Some d }) x (λ z. x.height + 1 ≤ z.height + 1) (λ q. let u = eqb-true x.height h q in omega arith) (λ _. omega arith)))
    a

pub grow_digest : (p : Answers) (s : Settings) (now h : ℕ) (d : Bytes) (m : Mem) → Grows m (digest_for p s now h d m).mem
grow_digest p s now h d m = done.grow
  where
    done : G m (digest_for p s now h d m)
    done =
        by_opt (G m) (pending_at m h) _ _ (still m) (λ x. by_opt (G m) x.verified _ _
        (grow_then m (restore p s d (those (λ a. eqb a.height h) m.acks) (cleared h d m)) (sign_and_send p s now h d)
        (record { grow = λ b a. (grow_restore p s d (those (λ a. eqb a.height h) m.acks) (cleared h d m)).grow b (grow_cleared h d m b a) }) (grow_send p s now h d))
        (λ _. still m))

grow_rebroadcast : (p : Answers) (s : Settings) (now h : ℕ) (m : Mem) → G m (rebroadcast p s now h m)
grow_rebroadcast p s now h m =
    by_opt (G m) (pending_at m h) _ _ (still m) (λ x. by_opt (G m) x.verified _ _ (still m) (λ d. by_opt (G m) (own_ack p m h d) _ _ (still m) (λ a.
    by_opt (G m) (ack_of m h a.epoch a.signer) _ _
    (grow_then m _ (λ y. sending a (due_at (now + s.timeout) h y)) (grow_then m (signing s a m) (store p s a) (record { grow = λ b y. y }) (grow_store p s a))
    (λ x. record { grow = grow_due (now + s.timeout) h x }))
    (λ b. record { grow = grow_due (now + s.timeout) h m }))))

grow_fill_by : (n : ℕ) (s : Settings) (m : Mem) → Grows m (fill_by n s m)
grow_fill_by zero s m = λ b a. a
grow_fill_by (suc n) s m =
    by_cond (Grows m) (ltb (next m - m.tip) s.window) _ _
    (λ b a. grow_fill_by n s _ b
    (asc_top b (m.wanted ++ (next m ∷ [])) (next m + 1) _ (high_push (λ x. x.height + 1) (highest (λ x. x.height + 1) m.tip m.certs) m.pending (record { height = next m; verified = None })) (asc_push b m.wanted (next m) a)))
    (λ b a. a)

pub grow_fill : (s : Settings) (m n : Mem) → Grows m n → Grows m (fill s n)
grow_fill s m n g b a = grow_fill_by s.window s n b (g b a)

-- plans
abbrev pub Onward : Mem → After → Type 0
Onward m stays = Unit {0}
Onward m (runs n) = Grows m n
Onward m closes = Unit {0}

pub record O (m : Mem) (pl : Plan) : Type 0 where
  pub on : Onward m pl.after

not_done : (m : Mem) (n : ℕ) → O m (refuse n)
not_done m n = record { on = tt }

on_carry : (s : Settings) (m : Mem) (w : Work) (a : Answer) → G m w → O m (carry s w a)
on_carry s m w a g = record { on = grow_fill s m w.mem g.grow }

on_or : (m : Mem) (n : ℕ) (pl : Plan) → O m pl → O m (or_refuse n pl)
on_or m zero pl o = o
on_or m (suc n) pl o = not_done m (suc n)

pub on_epoch : (p : Answers) (s : Settings) (m : Mem) (e now : ℕ) → O m (plan_epoch p s m e now)
on_epoch p s m e now = on_or m (epoch_refusal p m e now) _ (on_carry s m (idle (in_epoch p s m e now)) ok (record { grow = λ b a. a }))

grow_safe : (s : Settings) (m : Mem) → G m (to_safe_tip s m)
grow_safe s m =
    cond_both (ltb m.tip (safe_tip m.seats)) (move s (safe_tip m.seats) m) (idle m) (G m)
    (λ q. let u = ltb-true m.tip (safe_tip m.seats) q in grow_move s (safe_tip m.seats) m (omega arith)) (λ _. still m)

grow_tip : (s : Settings) (k : Bytes) (t : ℕ) (m : Mem) → G m (tip_told s k t m)
grow_tip s k t m = by_cond (G m) (counts m k t) _ _ (record { grow = λ b a. (grow_safe s (seat_told k t m)).grow b a }) (still m)

grow_ack : (p : Answers) (s : Settings) (k : Bytes) (a : Ack) (m : Mem) → G m (ack_told p s k a m)
grow_ack p s k a m =
    by_cond (G m) (eqb (checked p s k a m) 0) _ _
    (grow_then m (hearing a m) (store p s a) (record { grow = λ b x. x }) (grow_store p s a)) (record { grow = λ b x. x })

on_told : (p : Answers) (s : Settings) (m : Mem) (k : Bytes) (t : TipAck) → O m (plan_told p s m k t)
on_told p s m k t =
    by_cond (O m) (too_high t) _ _ (not_done m 13)
    (on_carry s m (told p s k t m) (ack_answer p s k t.ack (tip_told s k t.tip m).mem)
    (grow_then m (tip_told s k t.tip m) (ack_told p s k t.ack) (grow_tip s k t.tip m) (grow_ack p s k t.ack)))

pub on_message : (p : Answers) (s : Settings) (m : Mem) (k b : Bytes) (room : ℕ) → O m (plan_message p s m k b room)
on_message p s m k b room = on_or m (refused_short room) _ (by_read (O m) (forms.message b) _ _ (λ w. record { on = tt }) (on_told p s m k))

pub on_due : (p : Answers) (s : Settings) (m : Mem) (now room : ℕ) → O m (plan_due p s m now room)
on_due p s m now room =
    on_or m (refused_late now room) _ (by_front (O m) m.deadlines _ _ (not_done m 25) (λ d ds. by_cond (O m) (ltb now d.time) _ _ (not_done m 25)
    (on_carry s m (rebroadcast p s now d.height (with_deadlines ds m)) ok (record { grow = λ b a. (grow_rebroadcast p s now d.height (with_deadlines ds m)).grow b a }))))

pub on_digest : (p : Answers) (s : Settings) (m : Mem) (h : ℕ) (d : Bytes) (now room : ℕ) → O m (plan_digest p s m h d now room)
on_digest p s m h d now room =
    by_cond (O m) (eqb (refused_late now room) 0) _ _ (record { on = grow_fill s m _ (grow_digest p s now h d m) }) (record { on = tt })

pub on_cancel : (s : Settings) (m : Mem) (h : ℕ) → O m (plan_cancel s m h)
on_cancel s m h = record { on = grow_fill s m m (λ b a. a) }

pub on_close : (m : Mem) (k : Desk) → O m (plan_closing k)
on_close m k = by_cond (O m) (eqb k.out 0) (record { acts = sync_all ∷ []; after = closes; answer = ok }) (refuse 26) (record { on = tt }) (record { on = tt })

-- an opening begins in order
abbrev pub Begins : After → Type 0
Begins stays = Unit {0}
Begins (runs n) = Asc 0 n.wanted (next n)
Begins closes = Unit {0}

-- an engine that runs after it was carried out
abbrev pub Says : After → Answer → Type 0
Says stays a = Unit {0}
Says (runs n) a = a ≡ ok
Says closes a = Unit {0}

pub record B (pl : Plan) : Type 0 where
  pub says : Says pl.after pl.answer
  pub start : Begins pl.after

asc_opened : (p : Answers) (s : Settings) (e now : ℕ) (f : Found) → Asc 0 (opened p s e now f).wanted (next (opened p s e now f))
asc_opened p s e now f =
    let hs = heights_left s f in
    let b = low s f.top in
    let c = highest (λ x. x.height + 1) f.top f.certs in
    let own : ℕ → Pending = λ h. record { height = h; verified = own_digest p e f.acks h } in
    let top = next (opened p s e now f) in
    let all : Asc b hs (b + (f.top + s.window - b)) = asc_those _ b (from b (f.top + s.window - b)) (b + (f.top + s.window - b)) (asc_from b (f.top + s.window - b)) in
    let g1 : c ≤ top = high_base (λ x. x.height + 1) c (map own hs) in
    let g2 : f.top ≤ c = high_base (λ x. x.height + 1) f.top f.certs in
    let g3 : highest (λ x. x + 1) c hs ≤ top = high_map (λ x. x + 1) (λ x. x.height + 1) own c hs (λ x. omega arith) in
    let g4 : highest (λ x. x + 1) 0 hs ≤ highest (λ x. x + 1) c hs = high_more (λ x. x + 1) 0 c hs (omega arith) in
    asc_those (λ h. not (is_some (own_digest p e f.acks h))) 0 hs top
    (asc_down b 0 hs top (omega arith) (asc_own b hs (b + (f.top + s.window - b)) top all (omega arith) (omega arith)))

begins_with : (p : Answers) (s : Settings) (e now room : ℕ) (l : List Activity) → B (open_with p s e now room l)
begins_with p s e now room l =
    by_cond B (eqb (found_refusal p s e room l) 0) _ _
    (record { says = refl; start = grow_fill s (opened p s e now (found s l)) (opened p s e now (found s l)) (λ b a. a) 0 (asc_opened p s e now (found s l)) }) (record { says = tt; start = tt })

begins-end : (p : Answers) (s : Settings) (e now room : ℕ) (l : List Activity) (o : Option Overrun) → B (at_end p s e now room l o)
begins-end p s e now room l None = begins_with p s e now room l
begins-end p s e now room l (Some x) = record { says = tt; start = tt }

begins-from : (p : Answers) (s : Settings) (e now room : ℕ) (l : List Activity) (o : Option Overrun) (rs : List Placed) → B (open_from p s e now room l o rs)
begins-from p s e now room l o [] = begins-end p s e now room l o
begins-from p s e now room l o (r ∷ rs) = by_read B (forms.read r.bytes) _ _ (λ w. record { says = tt; start = tt }) (λ x. begins-from p s e now room (l ++ (x ∷ [])) o rs)

begins_or : (n : ℕ) (pl : Plan) → B pl → B (or_refuse n pl)
begins_or zero pl b = b
begins_or (suc n) pl b = record { says = tt; start = tt }

pub begins : (p : Answers) (s : Settings) (x : Engine) (v : Log) (o : Option Overrun) (e now room : ℕ) → B (plan_opening p s x v o e now room)
begins p s x v o e now room = begins_or (opening_refusal p s x e now) _ (begins-from p s e now room [] o (those (before o) (reading v.sections)))
