-- The rules keep an engine's tables tidy. Assumes nothing.
use Rattle.std.proofs.Common.{◌≡◌, ℕ, zero, suc, ◌+◌, ◌-◌, ◌^◌, ◌<◌, ◌≤◌, min, Bool, true, false, cond, not, ◌&&◌, ◌||◌, eqb, ltb, leb, List, [], ◌∷◌, map, length, Some, None, Option, sym, refl, ap, ◌∙◌, subst, arith, All}
use Rattle.std.proofs.lemmas.List.Elements.{All-head, All-tail, All-weaker, All-map, All-push}
use Rattle.std.specs.Str.{bytes_eq}
use Rattle.std.proofs.lemmas.Bool.{cond_both, eqb-true, ltb-true, leb-true, le-ltb, or_parts, or_from, not-false}
use Rattle.forms.specs.Values.{Ack, Cert}
use Rattle.tips.specs.Faults.{quorum}
use Rattle.provider.specs.Answers.{Answers}
use Rattle.provider.specs.Laws.{Lawful}
use Rattle.rules.specs.Lists.{those, highest, placed}
use Rattle.rules.specs.State.{Bytes, Pending, Deadline, Settings, Mem, low, pending_at, is_pending, is_certified, ack_of, differs, next, ack_below}
use Rattle.rules.specs.Rules.{Work, idle, then, keys, own, attested, dropped, with_acks, with_deadlines, move, first_free, with_cert, announced, certify, agreeing, assembled, counted, store, own_ack, signing, sending, fill_by, fill, due_at, restore_from, restore, sign_and_send, cleared, digest_for, rebroadcast}
use Rattle.rules.specs.Opening.{outside}
use Rattle.rules.specs.Room.{count, InWindow, Formed, DigestSized, Tidy}
use Rattle.rules.proofs.Calm.{by_cond, by_opt}
use Rattle.rules.proofs.Grow.{high_base, free-above}
use Rattle.rules.proofs.Pigeons.{one, count-those, count_both, count-placed}
use Rattle.rules.proofs.Tables.{opt_both, all-those, all_sieved, all_placed, ascends-those, ascends-placed, first_of, found-height}

-- the tables are tidy, in epoch e
pub record N (s : Settings) (e most : ℕ) (m : Mem) : Type 0 where
  pub same : m.epoch ≡ e
  pub tidy : Tidy s e most m.tip m.acks m.pending m.certs m.seats

pub record K (s : Settings) (e most : ℕ) (w : Work) : Type 0 where
  pub kept : N s e most w.mem

abbrev pub out : Settings → ℕ → Ack → Bool
out s e a = outside s e a.epoch

module _ (s : Settings) (e : ℕ) where
  pub more : (n o : ℕ) (m : Mem) → n ≤ o → N s e n m → N s e o m
  more n o m l x =
      let t = x.tidy in
      record { same = x.same; tidy = record { small = t.small; ordered = t.ordered; near = t.near; few = omega (arith, t.few); window = t.window; certified = t.certified; told = t.told } }

  pub k_more : (n o : ℕ) (w : Work) → n ≤ o → K s e n w → K s e o w
  k_more n o w l k = record { kept = more n o w.mem l k.kept }

  still : (n : ℕ) (m : Mem) → N s e n m → K s e n (idle m)
  still n m x = record { kept = x }

  pub k_then : (n o : ℕ) (w : Work) (f : Mem → Work) → K s e n w → ((m : Mem) → N s e n m → K s e o (f m)) → K s e o (then w f)
  k_then n o w f k g = record { kept = (g w.mem k.kept).kept }

  n_deadlines : (n : ℕ) (m : Mem) (ds : List Deadline) → N s e n m → N s e n (with_deadlines ds m)
  n_deadlines n m ds x = record { same = x.same; tidy = x.tidy }

  n_due : (n t h : ℕ) (m : Mem) → N s e n m → N s e n (due_at t h m)
  n_due n t h m x = by_cond (N s e n) (is_pending m h) _ _ (n_deadlines n m _ x) x

  up : (t u h : ℕ) → t ≤ u → leb (low s u) h ≡ true → InWindow s t h → InWindow s u h
  up t u h l e (a, b) = (leb-true (low s u) h e, omega arith)

  pub n_move : (n t : ℕ) (m : Mem) → m.tip ≤ t → N s e n m → N s e n (dropped (low s t) t m)
  n_move n t m l x =
      let y = x.tidy in
      record {
        same = x.same;
        tidy = record {
          small = y.small;
          ordered = ascends-those (λ a. leb (low s t) a.height) m.acks y.ordered;
          near = all_sieved (λ a. InWindow s m.tip a.height × Formed a) (λ a. InWindow s t a.height × Formed a) (λ a. leb (low s t) a.height) (λ a q k. (up m.tip t a.height l q k.0, k.1)) m.acks y.near;
          few = omega (arith, y.few, count-those (λ a. leb (low s t) a.height) (out s e) (out s e) (λ a _ q. q) m.acks);
          window = all_sieved (λ a. InWindow s m.tip a.height × DigestSized a.verified) (λ a. InWindow s t a.height × DigestSized a.verified) (λ a. leb (low s t) a.height) (λ a q k. (up m.tip t a.height l q k.0, k.1)) m.pending y.window;
          certified = all_sieved (λ a. InWindow s m.tip a.height) (λ a. InWindow s t a.height) (λ a. leb (low s t) a.height) (λ a q k. up m.tip t a.height l q k) m.certs y.certified;
          told = y.told;
        };
      }

  pub k_move : (n t : ℕ) (m : Mem) → m.tip ≤ t → N s e n m → K s e n (move s t m)
  k_move n t m l x = record { kept = n_move n t m l x }

  n_cert : (n : ℕ) (c : Cert) (m : Mem) → InWindow s m.tip c.height → N s e n m → N s e n (with_cert c m)
  n_cert n c m i x =
      let y = x.tidy in
      record {
        same = x.same;
        tidy = record {
          small = y.small;
          ordered = y.ordered;
          near = y.near;
          few = y.few;
          window = y.window;
          certified = all_placed (λ c. InWindow s m.tip c.height) (λ a b. ltb a.height b.height) c m.certs i y.certified;
          told = y.told;
        };
      }

module _ (s : Settings) (e : ℕ) where
  k_certify : (n : ℕ) (c : Cert) (m : Mem) → InWindow s m.tip c.height → N s e n m → K s e n (certify s c m)
  k_certify n c m i x =
      by_cond (K s e n) (is_certified m c.height) _ _ (still s e n m x)
      (k_then s e n n (announced s c (with_cert c m)) _ (record { kept = n_cert s e n c m i x })
      (λ o y. let t = first_free (length o.certs) (c.height + 1) o in
      cond_both (eqb c.height o.tip) (move s t o) (idle o) (K s e n)
      (λ q. let u = eqb-true c.height o.tip q in let v = free-above (length o.certs) (c.height + 1) o in k_move s e n t o (omega arith) y) (λ _. still s e n o y)))

  k_assembled : (n : ℕ) (a : Ack) (o : Option Bytes) (m : Mem) → InWindow s m.tip a.height → N s e n m → K s e n (assembled s a o m)
  k_assembled n a None m i x = record { kept = x }
  k_assembled n a (Some c) m i x = k_certify n _ m i x

  k_counted : (p : Answers) (n : ℕ) (a : Ack) (k : ℕ) (m : Mem) → InWindow s m.tip a.height → N s e n m → K s e n (counted p s a k m)
  k_counted p n a k m i x =
      by_cond (K s e n) (leb (quorum k) (length (agreeing a m.acks))) _ _ (k_assembled n a (p.signing.assemble a.epoch (map attested (agreeing a m.acks))) m i x) (still s e n m x)

  abbrev weight : Ack → ℕ
  weight a = cond (out s e a) 1 0

  pub n_placed : (n : ℕ) (a : Ack) (m : Mem) → InWindow s m.tip a.height → Formed a → N s e n m → N s e (n + weight a) (with_acks (placed ack_below a m.acks) m)
  n_placed n a m i g x =
      let y = x.tidy in
      record {
        same = x.same;
        tidy = record {
          small = y.small;
          ordered = ascends-placed a m.acks y.ordered;
          near = all_placed (λ a. InWindow s m.tip a.height × Formed a) ack_below a m.acks (i, g) y.near;
          few = omega (arith, y.few, count-placed ack_below (out s e) a m.acks);
          window = y.window;
          certified = y.certified;
          told = y.told;
        };
      }

  pub in_window : (n h : ℕ) (m : Mem) → N s e n m → is_pending m h ≡ true → InWindow s m.tip h
  in_window n h m x q = found-height (InWindow s m.tip) h m.pending (All-weaker (λ z. InWindow s m.tip z.height × DigestSized z.verified) (λ z. InWindow s m.tip z.height) (λ z k. k.0) m.pending x.tidy.window) q

  pub k_store : (p : Answers) (n : ℕ) (a : Ack) (m : Mem) → Formed a → N s e n m → K s e (n + weight a) (store p s a m)
  k_store p n a m g x =
      let y : N s e (n + weight a) m = more s e n (n + weight a) m (omega arith) x in
      by_opt (K s e (n + weight a)) (keys p a.epoch) _ _ (still s e _ m y) (λ ks.
      cond_both (not (is_pending m a.height) || differs (pending_at m a.height) a.digest) (idle m) _ (K s e (n + weight a)) (λ _. still s e _ m y) (λ q.
      let i = in_window n a.height m x (not-false (is_pending m a.height) (or_parts (not (is_pending m a.height)) (differs (pending_at m a.height) a.digest) q).0) in
      by_opt (K s e (n + weight a)) (ack_of m a.height a.epoch a.signer) _ _
      (k_counted p (n + weight a) a (length ks) _ i (n_placed n a m i g x)) (λ b. still s e _ m y)))

  -- an ack inside the epoch bounds
  pub k_store_inside : (p : Answers) (n : ℕ) (a : Ack) (m : Mem) → Formed a → out s e a ≡ false → N s e n m → K s e n (store p s a m)
  k_store_inside p n a m g q x = let w : weight a ≡ 0 = ap (λ b. cond b 1 0) q in k_more s e (n + weight a) n (store p s a m) (omega arith) (k_store p n a m g x)

  k_restore-from : (p : Answers) (d : Bytes) (c : ℕ) (l : List Ack) (n : ℕ) (m : Mem) → All Formed l → N s e n m → K s e (n + count (out s e) l) (restore_from p s d c l m)
  k_restore-from p d c [] n m g x = record { kept = more s e n _ m (omega arith) x }
  k_restore-from p d c (a ∷ rest) n m all x =
      let o = one (out s e) a rest in
      let g = All-head Formed a rest all in
      let gs = All-tail Formed a rest all in
      by_cond (K s e (n + count (out s e) (a ∷ rest))) (not (eqb a.epoch c) && is_certified m a.height) _ _ (still s e _ m (more s e n _ m (omega arith) x))
      (by_cond (K s e (n + count (out s e) (a ∷ rest))) (bytes_eq a.digest d) _ _
      (k_then s e (n + weight a) _ (store p s a m) (restore_from p s d a.epoch rest) (k_store p n a m g x)
      (λ y z. k_more s e (n + weight a + count (out s e) rest) _ _ (omega arith) (k_restore-from p d a.epoch rest (n + weight a) y gs z)))
      (k_more s e (n + count (out s e) rest) _ _ (omega arith) (k_restore-from p d a.epoch rest n m gs x)))

  pub k_restore : (p : Answers) (d : Bytes) (l : List Ack) (n : ℕ) (m : Mem) → All Formed l → N s e n m → K s e (n + count (out s e) l) (restore p s d l m)
  k_restore p d [] n m g x = record { kept = more s e n _ m (omega arith) x }
  k_restore p d (a ∷ rest) n m g x = k_restore-from p d a.epoch (a ∷ rest) n m g x

-- an own ack is of the current epoch, and of the sizes of its form
abbrev pub Own : Mem → ℕ → Option Ack → Type 0
Own m h None = Unit {0}
Own m h (Some a) = (a.epoch ≡ m.epoch) × Formed a × (a.height ≡ h)

pub own_fact : (p : Answers) → Lawful p → (m : Mem) (h : ℕ) (d : Bytes) (a : Ack) → m.epoch < 2 ^ 64 → length d ≡ 32 → own_ack p m h d ≡ Some a → Own m h (Some a)
own_fact p l m h d a small size q = subst (Own m h) q
    (opt_both (Own m h) (own p m.epoch) None _ (λ _. tt) (λ i o.
    opt_both (Own m h) (p.signing.sign m.epoch h d) None _ (λ _. tt) (λ g r.
    let k = l.member m.epoch i o in
    let z = l.signs m.epoch i h d o in
    let same : z.0 ≡ g = some_same z.0 g (sym z.1 ∙ r) in
    (refl, record { epoch = small; signer = omega (arith, k.2, (l.sound.set m.epoch k.0 k.1).most); digest = size; signature = ap length (sym same) ∙ z.2 }, refl))))
  where
    some_same : (a b : Bytes) → Some a ≡ Some b → a ≡ b
    some_same a b q = cc

pub not_out : (s : Settings) (e : ℕ) → e < 2 ^ 64 → outside s e e ≡ false
not_out s e l =
    or_from (ltb e (e - s.older)) (ltb (min (2 ^ 64 - 1) (e + s.newer)) e)
    (le-ltb e (e - s.older) (omega arith)) (le-ltb (min (2 ^ 64 - 1) (e + s.newer)) e (omega arith))

module _ (p : Answers) (lawful : Lawful p) (s : Settings) (e : ℕ) where
  k_own : (n h : ℕ) (d : Bytes) (a : Ack) (m o : Mem) → length d ≡ 32 → own_ack p m h d ≡ Some a → N s e n m → N s e n o → K s e n (store p s a o)
  k_own n h d a m o size q x y =
      let f = own_fact p lawful m h d a (omega (arith, x.same, x.tidy.small)) size q in
      k_store_inside s e p n a o f.1 (ap (outside s e) (f.0 ∙ x.same) ∙ not_out s e x.tidy.small) y

  k_send : (n now h : ℕ) (d : Bytes) → length d ≡ 32 → (m : Mem) → N s e n m → K s e n (sign_and_send p s now h d m)
  k_send n now h d size m x =
      opt_both (K s e n) (own_ack p m h d) _ _ (λ _. still s e n m x) (λ a q.
      k_then s e n n _ (sending a) (k_then s e n n (signing s a (due_at (now + s.timeout) h m)) (store p s a) (record { kept = n_due s e n _ h m x }) (λ o y. k_own n h d a m o size q x y)) (λ o y. record { kept = y }))

  pub n_cleared : (n h : ℕ) (d : Bytes) (m : Mem) → length d ≡ 32 → N s e n m → N s e (count (out s e) (those (λ a. not (eqb a.height h)) m.acks)) (cleared h d m)
  n_cleared n h d m size x =
      let y = x.tidy in
      record {
        same = x.same;
        tidy = record {
          small = y.small;
          ordered = ascends-those (λ a. not (eqb a.height h)) m.acks y.ordered;
          near = all-those (λ a. InWindow s m.tip a.height × Formed a) (λ a. not (eqb a.height h)) m.acks y.near;
          few = omega arith;
          window = All-map (λ x. InWindow s m.tip x.height × DigestSized x.verified) (λ x. cond (eqb x.height h) (record { height = h; verified = Some d }) x) m.pending
              (All-weaker (λ x. InWindow s m.tip x.height × DigestSized x.verified) (λ x. InWindow s m.tip (cond (eqb x.height h) (record { height = h; verified = Some d }) x).height × DigestSized (cond (eqb x.height h) (record { height = h; verified = Some d }) x).verified) (λ x k. cond_both (eqb x.height h) (record { height = h; verified = Some d }) x (λ z. InWindow s m.tip z.height × DigestSized z.verified) (λ q. (subst (InWindow s m.tip) (eqb-true x.height h q) k.0, size)) (λ _. k)) m.pending y.window);
          certified = y.certified;
          told = y.told;
        };
      }

  pub k_digest : (n now h : ℕ) (d : Bytes) (m : Mem) → length d ≡ 32 → N s e n m → K s e n (digest_for p s now h d m)
  k_digest n now h d m size x =
      let set-aside = those (λ a. eqb a.height h) m.acks in
      let both = count_both (λ a. eqb a.height h) (out s e) m.acks in
      let few = x.tidy.few in
      by_opt (K s e n) (pending_at m h) _ _ (still s e n m x) (λ z. by_opt (K s e n) z.verified _ _
      (k_then s e n n (restore p s d set-aside (cleared h d m)) (sign_and_send p s now h d)
      (k_more s e (count (out s e) (those (λ a. not (eqb a.height h)) m.acks) + count (out s e) set-aside) n _ (omega arith)
      (k_restore s e p d set-aside _ (cleared h d m) (all-those Formed (λ a. eqb a.height h) m.acks (All-weaker (λ a. InWindow s m.tip a.height × Formed a) Formed (λ a k. k.1) m.acks x.tidy.near)) (n_cleared n h d m size x)))
      (k_send n now h d size))
      (λ _. still s e n m x))

  pub verified-size : (n h : ℕ) (d : Bytes) (z : Pending) (m : Mem) → N s e n m → pending_at m h ≡ Some z → z.verified ≡ Some d → length d ≡ 32
  verified-size n h d z m x r v =
      subst DigestSized v (first_of (λ x. InWindow s m.tip x.height × DigestSized x.verified) (λ x. eqb x.height h) m.pending z x.tidy.window r).0.1

  pub k_rebroadcast : (n now h : ℕ) (m : Mem) → N s e n m → K s e n (rebroadcast p s now h m)
  k_rebroadcast n now h m x =
      opt_both (K s e n) (pending_at m h) _ _ (λ _. still s e n m x) (λ z r. opt_both (K s e n) z.verified _ _ (λ _. still s e n m x) (λ d v.
      let size = verified-size n h d z m x r v in
      opt_both (K s e n) (own_ack p m h d) _ _ (λ _. still s e n m x) (λ a q.
      by_opt (K s e n) (ack_of m h a.epoch a.signer) _ _
      (k_then s e n n _ (λ y. sending a (due_at (now + s.timeout) h y)) (k_then s e n n (signing s a m) (store p s a) (record { kept = x }) (λ o y. k_own n h d a m o size q x y))
      (λ o y. record { kept = n_due s e n (now + s.timeout) h o y }))
      (λ b. record { kept = n_due s e n (now + s.timeout) h m x }))))

module _ (s : Settings) (e n : ℕ) where
  pub n_fill_by : (k : ℕ) (m : Mem) → N s e n m → N s e n (fill_by k s m)
  n_fill_by zero m x = x
  n_fill_by (suc k) m x =
      let y = x.tidy in
      let b = high_base (λ c. c.height + 1) m.tip m.certs in
      let c : highest (λ c. c.height + 1) m.tip m.certs ≤ next m = high_base (λ q. q.height + 1) (highest (λ c. c.height + 1) m.tip m.certs) m.pending in
      cond_both (ltb (next m - m.tip) s.window) (fill_by k s _) m (N s e n)
      (λ q. let u = ltb-true (next m - m.tip) s.window q in
      n_fill_by k _ (record {
        same = x.same;
        tidy = record {
          small = y.small;
          ordered = y.ordered;
          near = y.near;
          few = y.few;
          window = All-push (λ x. InWindow s m.tip x.height × DigestSized x.verified) m.pending (record { height = next m; verified = None }) y.window ((omega arith, omega arith), tt);
          certified = y.certified;
          told = y.told;
        };
      }))
      (λ _. x)

  pub n_fill : (m : Mem) → N s e n m → N s e n (fill s m)
  n_fill m x = n_fill_by s.window m x
