-- Every call leaves a running engine's tables neat. Assumes nothing.
use Rattle.std.proofs.Common.{◌≡◌, ℕ, zero, suc, ◌+◌, ◌-◌, ◌^◌, ◌<◌, ◌≤◌, Bool, true, false, cond, not, ◌&&◌, eqb, ltb, leb, List, [], ◌∷◌, ◌++◌, map, length, Some, None, Ok, Err, Option, Result, sym, refl, ap, ◌∙◌, subst, arith, All, get_or}
use Rattle.std.proofs.lemmas.List.Elements.{All-nil, All-cons, All-head, All-tail, All-weaker, All-map, All-push}
use Rattle.std.specs.Str.{bytes_eq}
use Rattle.std.proofs.lemmas.Bool.{cond_both, eqb-true, ltb-true, ltb-false, leb-true, leb-false, or_parts, not-false, and_parts}
use Rattle.std.proofs.lemmas.Bool.Decides.{nat_tests}
use Rattle.forms.specs.declared.faults.Fault.{Fault}
use Rattle.forms.specs.Values.{Ack, Activity, ack, certified, tip, TipAck}
use Rattle.forms.specs.Reading as forms
use Rattle.forms.specs.Reading.{top_number, top_height}
use Rattle.forms.specs.Sizes.{SizedAck, Sized as forms-Sized}
use Rattle.journal.specs.declared.places.Overrun.{Overrun}
use Rattle.journal.specs.Log.{Log, Placed, reading}
use Rattle.provider.specs.Answers.{Answers}
use Rattle.provider.specs.Laws.{Lawful}
use Rattle.rules.specs.Lists.{those, first, any, opt, from}
use Rattle.rules.specs.State.{Bytes, Seat, Settings, allowed, Mem, Desk, Engine, running, low, ack_below}
use Rattle.rules.specs.Rules.{Work, idle, own, move, store, with_deadlines, fill}
use Rattle.rules.specs.Plans.{Event, opening, epoch_change, message, taking, fetching, handing_back, cancelling, lodging, due, closing, Answer, ok, After, stays, runs, closes, Plan, refuse, or_refuse, carry}
use Rattle.rules.specs.Opening.{late, keys_of, outside, by_reading, acks_in, certs_in, certs_left, cert_below, found, is_of, own_digest, is_left, heights_left, opened, too_far, strays, found_refusal, open_with, at_end, open_from, opening_refusal, before, plan_opening, is_shut}
use Rattle.rules.specs.Message.{seat_tip, epoch_refusal, in_epoch, plan_epoch, counts, safe_tip, seat_told, tip_told, checked, hearing, ack_told, refused_short, too_high, told, plan_told, plan_message}
use Rattle.rules.specs.Calls.{take_first, fetch_first, refused_late, taken_back, plan_digest, plan_cancel, plan_due, plan}
use Rattle.rules.specs.Runs.{Sized}
use Rattle.rules.specs.Room.{InWindow, Formed, DigestSized, Tidy, Neat}
use Rattle.rules.proofs.Calm.{by_cond, by_opt, by_front}
use Rattle.rules.proofs.Pigeons.{count-those}
use Rattle.rules.proofs.Tables.{opt_both, all_everything, first_of, all-those, all_sieved, all-tabled, all_none, all_from, ascends-those, ascends-tabled}
use Rattle.rules.proofs.Tidy.{N, K, out, k_then, k_move, k_store_inside, k_digest, k_rebroadcast, n_fill}
use Rattle.rules.proofs.Decoded.{IfOk, read-sized, message-sized}

-- a check that passed
pub passed : (b : Bool) (n x : ℕ) → cond b (suc n) x ≡ 0 → (b ≡ false) × (x ≡ 0)
passed true n x e = absurd (omega arith)
passed false n x e = (refl, e)

-- what becomes of the engine
abbrev pub Good : Settings → After → Type 0
Good s stays = Unit {0}
Good s (runs m) = (allowed s ≡ true) × Neat s m
Good s closes = Unit {0}

pub record Y (s : Settings) (pl : Plan) : Type 0 where
  pub good : Good s pl.after

pub none_done : (s : Settings) (n : ℕ) → Y s (refuse n)
none_done s n = record { good = tt }

y_or : (s : Settings) (n : ℕ) (pl : Plan) → (n ≡ 0 → Y s pl) → Y s (or_refuse n pl)
y_or s zero pl y = y refl
y_or s (suc n) pl y = none_done s (suc n)

at-epoch : (s : Settings) (e : ℕ) (m : Mem) → N s e 128 m → Neat s m
at-epoch s e m x = subst (λ z. Tidy s z 128 m.tip m.acks m.pending m.certs m.seats) (sym x.same) x.tidy

pub neat : (s : Settings) (m : Mem) → Neat s m → N s m.epoch 128 m
neat s m t = record { same = refl; tidy = t }

y_carry : (s : Settings) (e : ℕ) (w : Work) (a : Answer) → allowed s ≡ true → K s e 128 w → Y s (carry s w a)
y_carry s e w a l k = record { good = (l, at-epoch s e (fill s w.mem) (n_fill s e 128 w.mem k.kept)) }

module _ (p : Answers) (lawful : Lawful p) (s : Settings) (allow : allowed s ≡ true) (m : Mem) (neat-m : Neat s m) where
  same : N s m.epoch 128 m
  same = neat s m neat-m

  y_digest : (h : ℕ) (d : Bytes) (now room : ℕ) → length d ≡ 32 → Y s (plan_digest p s m h d now room)
  y_digest h d now room size =
      by_cond (Y s) (eqb (refused_late now room) 0) _ _
      (y_carry s m.epoch _ ok allow (k_then s m.epoch 128 128 (taken_back h m) _ (record { kept = same }) (λ o x. k_digest p lawful s m.epoch 128 now h d o size x)))
      (record { good = tt })

  y_due : (now room : ℕ) → Y s (plan_due p s m now room)
  y_due now room =
      y_or s (refused_late now room) _ (λ _. by_front (Y s) m.deadlines _ _ (none_done s 25) (λ d ds. by_cond (Y s) (ltb now d.time) _ _ (none_done s 25)
      (y_carry s m.epoch _ ok allow (k_rebroadcast p lawful s m.epoch 128 now d.height (with_deadlines ds m) (record { same = refl; tidy = neat-m })))))

  y_cancel : (h : ℕ) → Y s (plan_cancel s m h)
  y_cancel h = y_carry s m.epoch (taken_back h m) ok allow (record { kept = same })

  y_taking : (hs : List ℕ) → Y s (take_first m hs)
  y_taking [] = none_done s 23
  y_taking (h ∷ hs) = record { good = (allow, neat-m) }

pub y_fetching : (s : Settings) (hs : List ℕ) → Y s (fetch_first hs)
y_fetching s [] = none_done s 23
y_fetching s (h ∷ hs) = record { good = tt }

-- what is read has the sizes of its form
pub if_read : {A B : Type 0} (P : B → Type 0) (Q : A → Type 0) (r : Result A Fault) (w : Fault → B) (f : A → B) → IfOk Q r → ((e : Fault) → P (w e)) → ((x : A) → Q x → P (f x)) → P (by_reading r w f)
if_read P Q (Ok x) w f k p q = q x k
if_read P Q (Err e) w f k p q = p e

pub formed : (most : ℕ) (a : Ack) → SizedAck most a → Formed a
formed most a z = record { epoch = omega (arith, z.epoch); signer = omega (arith, z.signer); digest = z.digest; signature = z.signature }

-- a message
pub seats-told : (k : Bytes) (t : ℕ) (xs : List Seat) → t < 2 ^ 62 → All (λ x. x.tip < 2 ^ 62) xs → All (λ x. x.tip < 2 ^ 62) (map (λ x. cond (bytes_eq k x.key) (record { key = x.key; tip = t }) x) xs)
seats-told k t xs l a =
    All-map (λ x. x.tip < 2 ^ 62) (λ x. cond (bytes_eq k x.key) (record { key = x.key; tip = t }) x) xs
    (All-weaker (λ x. x.tip < 2 ^ 62) _ (λ x g. by_cond (λ z. z.tip < 2 ^ 62) (bytes_eq k x.key) (record { key = x.key; tip = t }) x l g) xs a)

-- an ack that passed every check is inside the epoch bounds
inside : (p : Answers) (s : Settings) (k : Bytes) (a : Ack) (m : Mem) → checked p s k a m ≡ 0 → outside s m.epoch a.epoch ≡ false
inside p s k a m q = (passed (outside s m.epoch a.epoch) 13 _ q).0

module _ (s : Settings) (e : ℕ) where
  k_tip : (k : Bytes) (t : ℕ) (m : Mem) → t < 2 ^ 62 → N s e 128 m → K s e 128 (tip_told s k t m)
  k_tip k t m l x =
      let y = x.tidy in
      let o = seat_told k t m in
      let z : N s e 128 o = record { same = x.same; tidy = record { small = y.small; ordered = y.ordered; near = y.near; few = y.few; window = y.window; certified = y.certified; told = seats-told k t m.seats l y.told } } in
      by_cond (K s e 128) (counts m k t) _ _
      (cond_both (ltb o.tip (safe_tip o.seats)) (move s (safe_tip o.seats) o) (idle o) (K s e 128)
      (λ q. let u = ltb-true o.tip (safe_tip o.seats) q in k_move s e 128 (safe_tip o.seats) o (omega arith) z) (λ _. record { kept = z }))
      (record { kept = x })

  k_ack : (p : Answers) (k : Bytes) (a : Ack) → Formed a → (m : Mem) → N s e 128 m → K s e 128 (ack_told p s k a m)
  k_ack p k a g m x =
      cond_both (eqb (checked p s k a m) 0) _ _ (K s e 128)
      (λ q. let f = inside p s k a m (eqb-true (checked p s k a m) 0 q) in
      k_then s e 128 128 (hearing a m) (store p s a) (record { kept = x }) (λ o y. k_store_inside s e p 128 a o g (ap (λ n. outside s n a.epoch) (sym x.same) ∙ f) y))
      (λ _. record { kept = x })

module _ (p : Answers) (lawful : Lawful p) (s : Settings) (allow : allowed s ≡ true) (m : Mem) (neat-m : Neat s m) where
  y_told : (k : Bytes) (t : TipAck) → Formed t.ack → Y s (plan_told p s m k t)
  y_told k t g =
      cond_both (too_high t) _ _ (Y s) (λ _. none_done s 13) (λ q.
      let l = leb-false (2 ^ 62) t.tip (or_parts (leb (2 ^ 62) t.tip) (leb (2 ^ 62) t.ack.height) q).0 in
      y_carry s m.epoch (told p s k t m) _ allow
      (k_then s m.epoch 128 128 (tip_told s k t.tip m) _ (k_tip s m.epoch k t.tip m l (neat s m neat-m)) (λ o x. k_ack s m.epoch p k t.ack g o x)))

  y_message : (k b : Bytes) (room : ℕ) → Y s (plan_message p s m k b room)
  y_message k b room = y_or s (refused_short room) _ (λ _. if_read (Y s) _ (forms.message b) _ _ (message-sized b) (λ w. record { good = tt }) (λ t z. y_told k t (formed top_number t.ack z.ack)))

-- an epoch change
later_out : (s : Settings) (e f a : ℕ) → e ≤ f → leb (f - s.older) a ≡ true → outside s f a ≡ true → outside s e a ≡ true
later_out s e f a l p q = grind (arith, nat_tests)

seat_small : (xs : List Seat) (k : Bytes) → All (λ x. x.tip < 2 ^ 62) xs → seat_tip xs k < 2 ^ 62
seat_small [] k a = omega arith
seat_small (x ∷ xs) k a =
    let P : Seat → Type 0 = λ x. x.tip < 2 ^ 62 in
    by_cond (λ o. opt o 0 (λ y. y.tip) < 2 ^ 62) (bytes_eq k x.key) (Some x) _ (All-head P x xs a) (seat_small xs k (All-tail P x xs a))

all-keys : (P : Seat → Type 0) (f : Bytes → Seat) (ks : List Bytes) → ((k : Bytes) → P (f k)) → All P (map f ks)
all-keys P f ks g = All-map P f ks (λ i d l. g (get_or ks i d))

y_epoch : (p : Answers) (s : Settings) → allowed s ≡ true → (m : Mem) → Neat s m → (e now : ℕ) → e < 2 ^ 64 → Y s (plan_epoch p s m e now)
y_epoch p s allow m y e now l =
    y_or s (epoch_refusal p m e now) _ (λ q.
    let c4 = passed (late now) 3 _ q in
    let c10 = passed (ltb e m.epoch) 9 _ c4.1 in
    let u = ltb-false e m.epoch c10.0 in
    y_carry s e (idle (in_epoch p s m e now)) ok allow (record {
      kept = record {
        same = refl;
        tidy = record {
          small = l;
          ordered = ascends-those (λ a. leb (e - s.older) a.epoch) m.acks y.ordered;
          near = all-those (λ a. InWindow s m.tip a.height × Formed a) (λ a. leb (e - s.older) a.epoch) m.acks y.near;
          few = omega (arith, y.few, count-those (λ a. leb (e - s.older) a.epoch) (out s e) (out s m.epoch) (λ a g o. later_out s m.epoch e a.epoch u g o) m.acks);
          window = y.window;
          certified = y.certified;
          told = all-keys (λ x. x.tip < 2 ^ 62) _ (keys_of p e) (λ k. seat_small m.seats k y.told);
        };
      };
    }))

-- an opening
certs-from : (t : ℕ) (xs : List Activity) → All (λ c. t ≤ c.height) (those (λ c. leb t c.height) (certs_in xs))
certs-from t xs = all_sieved (λ _. Unit {0}) (λ c. t ≤ c.height) (λ c. leb t c.height) (λ c q _. leb-true t c.height q) (certs_in xs) (all_everything (certs_in xs))

acks-small : (xs : List Activity) → All forms-Sized xs → All Formed (acks_in xs)
acks-small [] l = All-nil Formed
acks-small (ack a ∷ xs) l = All-cons Formed a (acks_in xs) (formed top_height a (All-head forms-Sized (ack a) xs l)) (acks-small xs (All-tail forms-Sized (ack a) xs l))
acks-small (certified c ∷ xs) l = acks-small xs (All-tail forms-Sized (certified c) xs l)
acks-small (tip t ∷ xs) l = acks-small xs (All-tail forms-Sized (tip t) xs l)

both_hold : {X : Type 0} (P Q R : X → Type 0) → ((x : X) → P x → Q x → R x) → (xs : List X) → All P xs → All Q xs → All R xs
both_hold P Q R h xs a b k d l = h (get_or xs k d) (a k d l) (b k d l)

own-sized : (p : Answers) (e h : ℕ) (acks : List Ack) → All Formed acks → DigestSized (own_digest p e acks h)
own-sized p e h acks l =
    by_opt DigestSized (own p e) None _ tt (λ i. opt_both DigestSized (first (is_of h e i) acks) None _ (λ _. tt) (λ a q. (first_of Formed (is_of h e i) acks a l q).0.digest))

module _ (p : Answers) (s : Settings) (allow : allowed s ≡ true) (e now room : ℕ) (small : e < 2 ^ 64) where
  opened_neat : (xs : List Activity) → All forms-Sized xs → found_refusal p s e room xs ≡ 0 → N s e 128 (opened p s e now (found s xs))
  opened_neat xs sized q =
      let f = found s xs in
      let t = f.top in
      let c7 = passed (too_far s f) 6 _ q in
      let c8 = passed (ltb 128 (strays p s e f)) 7 _ c7.1 in
      let far = or_parts (any (λ c. leb (t + s.window) c.height) f.certs) (any (λ a. leb (t + s.window) a.height) f.acks) c7.0 in
      let certs-low : All (λ c. low s t ≤ c.height) f.certs = all-tabled (λ c. low s t ≤ c.height) cert_below [] _ (All-nil (λ c. low s t ≤ c.height)) (certs-from (low s t) xs) in
      let certs_high = all_none (λ c. leb (t + s.window) c.height) f.certs far.0 in
      let acks-low : All (λ a. (low s t ≤ a.height) × Formed a) f.acks =
      all_sieved Formed (λ a. (low s t ≤ a.height) × Formed a) (λ a. leb (low s t) a.height && not (any (λ c. eqb c.height a.height) (certs_left s xs)))
      (λ a g i. (leb-true (low s t) a.height (and_parts (leb (low s t) a.height) _ g).0, i)) (acks_in xs) (acks-small xs sized) in
      let acks-high = all_none (λ a. leb (t + s.window) a.height) f.acks far.1 in
      let near : All (λ a. InWindow s t a.height × Formed a) f.acks =
      both_hold (λ a. (low s t ≤ a.height) × Formed a) (λ a. leb (t + s.window) a.height ≡ false) (λ a. InWindow s t a.height × Formed a) (λ a i j. ((i.0, leb-false (t + s.window) a.height j), i.1)) f.acks acks-low acks-high in
      record {
        same = refl;
        tidy = record {
          small = small;
          ordered = ascends-tabled [] (those (λ a. opt (own_digest p e f.acks a.height) true (λ d. bytes_eq d a.digest)) f.acks) tt;
          near = all-tabled (λ a. InWindow s t a.height × Formed a) ack_below [] _ (All-nil (λ a. InWindow s t a.height × Formed a)) (all-those (λ a. InWindow s t a.height × Formed a) (λ a. opt (own_digest p e f.acks a.height) true (λ d. bytes_eq d a.digest)) f.acks near);
          few = ltb-false 128 (strays p s e f) c8.0;
          window = All-map (λ x. InWindow s t x.height × DigestSized x.verified) (λ h. record { height = h; verified = own_digest p e f.acks h }) (heights_left s f)
              (all-those (λ h. InWindow s t h × DigestSized (own_digest p e f.acks h)) (is_left f) (from (low s t) (t + s.window - low s t))
              (all_from (λ h. InWindow s t h × DigestSized (own_digest p e f.acks h)) (low s t) (t + s.window - low s t) (λ h i j. ((i, omega arith), own-sized p e h f.acks (All-weaker (λ a. (low s t ≤ a.height) × Formed a) Formed (λ a k. k.1) f.acks acks-low)))));
          certified = both_hold (λ c. low s t ≤ c.height) (λ c. leb (t + s.window) c.height ≡ false) (λ c. InWindow s t c.height) (λ c i j. (i, leb-false (t + s.window) c.height j)) f.certs certs-low certs_high;
          told = all-keys (λ x. x.tip < 2 ^ 62) _ (keys_of p e) (λ k. omega arith);
        };
      }

  y_with : (xs : List Activity) → All forms-Sized xs → Y s (open_with p s e now room xs)
  y_with xs l =
      cond_both (eqb (found_refusal p s e room xs) 0) _ _ (Y s)
      (λ q. record { good = (allow, at-epoch s e _ (n_fill s e 128 _ (opened_neat xs l (eqb-true (found_refusal p s e room xs) 0 q)))) }) (λ _. record { good = tt })

  y_end : (xs : List Activity) (o : Option Overrun) → All forms-Sized xs → Y s (at_end p s e now room xs o)
  y_end xs None l = y_with xs l
  y_end xs (Some x) l = record { good = tt }

  y_from : (xs : List Activity) (o : Option Overrun) (rs : List Placed) → All forms-Sized xs → Y s (open_from p s e now room xs o rs)
  y_from xs o [] l = y_end xs o l
  y_from xs o (r ∷ rs) l = if_read (Y s) forms-Sized (forms.read r.bytes) _ _ (read-sized r.bytes) (λ w. record { good = tt }) (λ x k. y_from (xs ++ (x ∷ [])) o rs (All-push forms-Sized xs x l k))

pub y_opening : (p : Answers) (s : Settings) (x : Engine) (v : Log) (o : Option Overrun) (e now room : ℕ) → e < 2 ^ 64 → Y s (plan_opening p s x v o e now room)
y_opening p s x v o e now room l =
    y_or s (opening_refusal p s x e now) _ (λ q.
    let c2 = passed (not (is_shut x)) 1 _ q in
    let c3 = passed (not (allowed s)) 2 _ c2.1 in
    y_from p s (not-false (allowed s) c3.0) e now room l [] o (those (before o) (reading v.sections)) (All-nil forms-Sized))

-- every call
pub y_plan : (p : Answers) → Lawful p → (s : Settings) (m : Mem) (k : Desk) (v : Log) (e : Event) → allowed s ≡ true → Neat s m → Sized e → Y s (plan p s (running m k) v None e)
y_plan p l s m k v (opening e now room) a n z = y_opening p s (running m k) v None e now room z
y_plan p l s m k v (epoch_change e now) a n z = y_epoch p s a m n e now z
y_plan p l s m k v (message c b room) a n z = y_message p l s a m n c b room
y_plan p l s m k v taking a n z = y_taking p l s a m n m.wanted
y_plan p l s m k v fetching a n z = y_fetching s k.lodged
y_plan p l s m k v (handing_back h d now room) a n z = by_cond (Y s) (eqb k.out 0) _ _ (none_done s 24) (y_digest p l s a m n h d now room z)
y_plan p l s m k v (cancelling h) a n z = by_cond (Y s) (eqb k.out 0) _ _ (none_done s 24) (y_cancel p l s a m n h)
y_plan p l s m k v (lodging h) a n z = by_cond (Y s) (eqb k.out 0) _ _ (none_done s 24) (record { good = tt })
y_plan p l s m k v (due now room) a n z = y_due p l s a m n now room
y_plan p l s m k v closing a n z = by_cond (Y s) (eqb k.out 0) _ _ (record { good = tt }) (none_done s 26)
