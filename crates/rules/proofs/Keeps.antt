-- The rules keep the invariant: certify, store, restore. Assumes nothing.
use Rattle.std.proofs.Common.{◌≡◌, ℕ, zero, suc, ◌+◌, ◌^◌, ◌<◌, ◌≤◌, Bool, true, not, ◌&&◌, ◌||◌, eqb, ltb, leb, List, [], ◌∷◌, map, length, Some, None, Option, sym, refl, ap, ◌∙◌, subst, inl, inr, arith, ltb-true, eqb-true, All}
use Rattle.std.proofs.lemmas.List.Elements.{All-nil, All-cons, All-head, All-tail}
use mathlib.Core.List.Memᴰ
use mathlib.Core.List.{Memᴰ}
use Rattle.std.proofs.lemmas.Slice.Eq.{bytes_eq-Decides}
use Rattle.std.proofs.lemmas.Bool.{cond_both, cases_lt, and_parts, or_parts, not-false}
use Rattle.std.specs.Str.{bytes_eq}
use Rattle.forms.specs.Values.{Ack, Cert}
use Rattle.journal.specs.Log.{Log, Bytes}
use Rattle.tips.specs.Faults.{quorum}
use Rattle.provider.specs.Answers.{Answers, Attested}
use Rattle.provider.specs.Laws.{Ascending, Lawful, signers_of}
use Rattle.rules.specs.Lists.{opt, placed}
use Rattle.rules.specs.State.{Pending, Settings, Mem, low, pending_at, is_pending, is_certified, ack_of, differs, ack_below}
use Rattle.rules.specs.Acts.{Act}
use Rattle.rules.specs.Rules.{keys, own, attested, Work, idle, then, with_acks, move, first_free, with_cert, announced, go_on, certify, agreeing, assembled, counted, store, restore_from, restore}
use Rattle.rules.specs.Promises.{Distinct}
use Rattle.rules.proofs.Grow.{free-above}
use Rattle.rules.proofs.Members.{those_in, placed_in, map_in_lem, first_in, some_first, any_in, of_height}
use Rattle.rules.proofs.Wp.{WP, wp_more, wp_then}
use Rattle.rules.proofs.Ledger.{SizedCert, BackedBy, BehindBy, JInv, firmer}
use Rattle.rules.proofs.Entries.{Back}
use Rattle.rules.proofs.Memory.{Core, core, Sourced, Inv, Step, rest, stride, sourced_on}
use Rattle.rules.proofs.Moves.{announcing, moving}

-- by cases, with what was tested
pub opt_both : {A B : Type 0} (P : B → Type 0) (o : Option A) (n : B) (f : A → B) → (o ≡ None → P n) → ((x : A) → o ≡ Some x → P (f x)) → P (opt o n f)
opt_both P None n f p q = p refl
opt_both P (Some x) n f p q = q x refl

pub each : {A : Type 0} (P : A → Type 0) (xs : List A) → ((x : A) → Memᴰ x xs → P x) → All P xs
each P [] f = All-nil P
each P (x ∷ xs) f = All-cons P x xs (f x (Memᴰ.head refl)) (each P xs (λ y m. f y (Memᴰ.tail m)))

pub one_of : {A : Type 0} (P : A → Type 0) (xs : List A) (x : A) → All P xs → Memᴰ x xs → P x
one_of P [] x a m = absurd (Memᴰ.not-nil m)
one_of P (y ∷ xs) x a (Memᴰ.head e) = subst P (sym e) (All-head P y xs a)
one_of P (y ∷ xs) x a (Memᴰ.tail m) = one_of P xs x (All-tail P y xs a) m

-- numbers that ascend are distinct
rising : (i : ℕ) (xs : List ℕ) → Ascending ltb (i ∷ xs) → (y : ℕ) → Memᴰ y xs → i < y
rising i [] a y m = absurd (Memᴰ.not-nil m)
rising i (x ∷ xs) a y (Memᴰ.head e) = let l = ltb-true i x a.0 in omega arith
rising i (x ∷ xs) a y (Memᴰ.tail m) = let l = ltb-true i x a.0 in let r = rising x xs a.1 y m in omega arith

later : (i : ℕ) (xs : List ℕ) → Ascending ltb (i ∷ xs) → Ascending ltb xs
later i [] a = tt
later i (x ∷ xs) a = a.1

pub distinct : (xs : List ℕ) → Ascending ltb xs → Distinct xs
distinct [] a = tt
distinct (i ∷ xs) a = (λ m. (let r = rising i xs a i m in omega arith), distinct xs (later i xs a))

-- numbers that ascend and are all one are at most one
pub lonely : (o : ℕ) (xs : List ℕ) → Ascending ltb xs → ((i : ℕ) → Memᴰ i xs → i ≡ o) → length xs ≤ 1
lonely o [] a f = omega arith
lonely o (i ∷ []) a f = omega arith
lonely o (i ∷ j ∷ xs) a f = let x = f i (Memᴰ.head refl) in let y = f j (Memᴰ.tail (Memᴰ.head refl)) in let l = ltb-true i j a.0 in absurd (omega arith)

-- an ack among those that agree with another
pub record Agrees (a b : Ack) (xs : List Ack) : Type 0 where
  pub among : Memᴰ b xs
  pub height : b.height ≡ a.height
  pub epoch : b.epoch ≡ a.epoch
  pub digest : b.digest ≡ a.digest

pub agreeing_in : (a b : Ack) (xs : List Ack) → Memᴰ b (agreeing a xs) → Agrees a b xs
agreeing_in a b xs m =
    let t = those_in (λ (b : Ack). eqb b.height a.height && (eqb b.epoch a.epoch && bytes_eq b.digest a.digest)) b xs m in
    let x = and_parts _ _ t.1 in
    let y = and_parts _ _ x.1 in
    record { among = t.0; height = eqb-true _ _ x.0; epoch = eqb-true _ _ y.0; digest = (bytes_eq-Decides b.digest a.digest).0 y.1 }

-- the search for a free height stays low where all certified ones are
free-below : (n t : ℕ) (m : Mem) → t ≤ 2 ^ 62 → ((c : Cert) → Memᴰ c m.certs → c.height < 2 ^ 62) → first_free n t m ≤ 2 ^ 62
free-below zero t m l f = l
free-below (suc n) t m l f =
    cond_both (is_certified m t) (first_free n (t + 1) m) t (λ z. z ≤ 2 ^ 62)
    (λ q. let c = any_in (of_height t) m.certs q in let h = f c.0 c.1 in let e = eqb-true c.0.height t c.2 in free-below n (t + 1) m (omega arith) f)
    (λ _. l)

module _ (back : Back) (p : Answers) (law : Lawful p) (s : Settings) (g : Bool) where
  -- a piece of work, from what was done and the journal's value, keeps the invariant and shows no ack
  abbrev pub Does : List Act → Log → Core → Work → Type 0
  Does hist v k w = WP (JInv p s g) w.acts hist v (λ h u. Inv back p s g h u (core w.mem) × Step back p s g hist v k h u (core w.mem))

  -- it keeps the invariant
  abbrev pub Ends : List Act → Log → Work → Type 0
  Ends hist v w = WP (JInv p s g) w.acts hist v (λ h u. Inv back p s g h u (core w.mem))

  pub does_idle : (hist : List Act) (v : Log) (m : Mem) → Inv back p s g hist v (core m) → Does hist v (core m) (idle m)
  does_idle hist v m i = (i, rest back p s g hist v (core m))

  pub does_then : (hist : List Act) (v : Log) (k : Core) (w : Work) (f : Mem → Work) → Does hist v k w →
      ((h : List Act) (u : Log) → Inv back p s g h u (core w.mem) → Step back p s g hist v k h u (core w.mem) → Does h u (core w.mem) (f w.mem)) → Does hist v k (then w f)
  does_then hist v k w f d e =
      wp_then (JInv p s g) w.acts (f w.mem).acts hist v _
      (wp_more (JInv p s g) w.acts hist v _ _ (λ h u q.
      wp_more (JInv p s g) (f w.mem).acts h u _ _ (λ h' u' r. (r.0, stride back p s g hist v k h u (core w.mem) h' u' (core (f w.mem).mem) q.1 r.1)) (e h u q.0 q.1)) d)

  pub ends_then : (hist : List Act) (v : Log) (k : Core) (w : Work) (f : Mem → Work) → Does hist v k w →
      ((h : List Act) (u : Log) → Inv back p s g h u (core w.mem) → Step back p s g hist v k h u (core w.mem) → Ends h u (f w.mem)) → Ends hist v (then w f)
  ends_then hist v k w f d e =
      wp_then (JInv p s g) w.acts (f w.mem).acts hist v _ (wp_more (JInv p s g) w.acts hist v _ _ (λ h u q. e h u q.0 q.1) d)

  pub does_ends : (hist : List Act) (v : Log) (k : Core) (w : Work) → Does hist v k w → Ends hist v w
  does_ends hist v k w d = wp_more (JInv p s g) w.acts hist v _ _ (λ h u q. q.0) d

  pub certifying : (hist : List Act) (v : Log) (m : Mem) (c : Cert) → Inv back p s g hist v (core m) → SizedCert c → BackedBy p s g hist c → low s m.tip ≤ c.height → Does hist v (core m) (certify s c m)
  certifying hist v m c i size bk l =
      cond_both (is_certified m c.height) (idle m) _ (Does hist v (core m)) (λ _. does_idle hist v m i)
      (λ new. does_then hist v (core m) (announced s c (with_cert c m)) (go_on s c.height) (announcing back p s g hist v m c i size bk l new)
      (λ h u j _. cond_both (eqb c.height (with_cert c m).tip) (move s (first_free (length (with_cert c m).certs) (c.height + 1) (with_cert c m)) (with_cert c m)) (idle (with_cert c m)) (Does h u (core (with_cert c m)))
      (λ q. (let e = eqb-true c.height m.tip q in let a = free-above (length (with_cert c m).certs) (c.height + 1) (with_cert c m) in let b = size.high in
      moving back p s g h u (with_cert c m) _ j (omega arith) (free-below (length (with_cert c m).certs) (c.height + 1) (with_cert c m) (omega arith) j.high)))
      (λ _. does_idle h u (with_cert c m) j)))

  -- a stored ack more
  with_ack : (hist : List Act) (v : Log) (m : Mem) (a : Ack) → Inv back p s g hist v (core m) → Sourced back p s g hist v a → low s m.tip ≤ a.height → Inv back p s g hist v (core (with_acks (placed ack_below a m.acks) m))
  with_ack hist v m a i c l = record {
    jour = i.jour;
    pos = i.pos;
    wide = i.wide;
    top = i.top;
    epoch = i.epoch;
    tips = i.tips;
    certs = i.certs;
    high = i.high;
    seats = i.seats;
    over = i.over;
    under = i.under;
    same = i.same;
    digests = i.digests;
    acks = λ x n. elim (placed_in ack_below a x m.acks n) [ inl e ↦ subst (Sourced back p s g hist v) (sym e) c | inr o ↦ i.acks x o ];
    above = λ x n. elim (placed_in ack_below a x m.acks n) [ inl e ↦ subst (λ y. low s m.tip ≤ y.height) (sym e) l | inr o ↦ i.above x o ];
    epochs = i.epochs;
    verified = i.verified;
    ended = i.ended;
  }

  -- acks that agree, and were assembled, back their certificate
  module _ (hist : List Act) (v : Log) (m : Mem) (a : Ack) (i : Inv back p s g hist v (core m)) (c : Sourced back p s g hist v a) (b : Bytes) (made : p.signing.assemble a.epoch (map attested (agreeing a m.acks)) ≡ Some b) where
    abbrev qs : List Attested
    qs = map attested (agreeing a m.acks)

    abbrev cert : Cert
    cert = record { height = a.height; digest = a.digest; bytes = b }

    one-behind : (n : ℕ) → Memᴰ n (signers_of (map attested (agreeing a m.acks))) → (x : Ack) × Agrees a x m.acks × (x.signer ≡ n)
    one-behind n o =
        let q = map_in_lem (λ (q : Attested). q.signer) n (map attested (agreeing a m.acks)) o in
        let x = map_in_lem attested q.0 (agreeing a m.acks) q.1 in
        (x.0, agreeing_in a x.0 m.acks x.1, sym (q.2 ∙ ap (λ (z : Attested). z.signer) x.2))

    backs : BackedBy p s g hist (record { height = a.height; digest = a.digest; bytes = b })
    backs =
        let o = law.no_other a.epoch (map attested (agreeing a m.acks)) b made in (
          a.epoch,
          (
            o.0,
            (
              signers_of (map attested (agreeing a m.acks)),
              o.1,
              distinct _ o.2.ascending,
              o.2.quorate,
              each (λ n. (n < length o.0) × BehindBy p s g hist (record { height = a.height; digest = a.digest; bytes = b }) a.epoch n) (signers_of (map attested (agreeing a m.acks))) (λ n q. (let x = one-behind n q in
                  (one_of (λ k. k < length o.0) (signers_of (map attested (agreeing a m.acks))) n o.2.below q, (x.0, (i.acks x.0 x.1.among).source, x.1.epoch, x.2, x.1.height, x.1.digest)))),
            ),
          ),
        )

    low-enough : a.height < 2 ^ 62
    low-enough = elim (cases_lt a.height (2 ^ 62)) [
      | inl l ↦ l
      | inr l ↦
          (let o = law.no_other a.epoch (map attested (agreeing a m.acks)) b made in
          let two = (law.sound.set a.epoch o.0 o.1).least in
          let q = o.2.quorate in
          let mine = c.high l in
          let n = lonely a.signer (signers_of (map attested (agreeing a m.acks))) o.2.ascending (λ k r.
          (let x = one-behind k r in
          let h = (i.acks x.0 x.1.among).high (omega (arith, x.1.height)) in
          let e : own p a.epoch ≡ Some x.0.signer = ap (own p) (sym x.1.epoch) ∙ h in
          let f : x.0.signer ≡ a.signer = cc in
          sym x.2 ∙ f)) in
          absurd (omega arith))
    ]

    assembled-ok : low s m.tip ≤ a.height → Does hist v (core m) (certify s (record { height = a.height; digest = a.digest; bytes = b }) m)
    assembled-ok l =
        let o = law.no_other a.epoch (map attested (agreeing a m.acks)) b made in
        certifying hist v m _ i (record { high = low-enough; digest = c.sized.digest; bytes = o.3 }) backs l

  counting : (hist : List Act) (v : Log) (m : Mem) (a : Ack) (n : ℕ) → Inv back p s g hist v (core m) → Sourced back p s g hist v a → low s m.tip ≤ a.height → Does hist v (core m) (counted p s a n m)
  counting hist v m a n i c l =
      cond_both (leb (quorum n) (length (agreeing a m.acks))) _ (idle m) (Does hist v (core m))
      (λ _. by_made (p.signing.assemble a.epoch (map attested (agreeing a m.acks))) refl) (λ _. does_idle hist v m i)
    where
      by_made : (o : Option Bytes) → p.signing.assemble a.epoch (map attested (agreeing a m.acks)) ≡ o → Does hist v (core m) (assembled s a o m)
      by_made None e = (λ room r w z. firmer p s g hist v w i.jour z.1, λ z. absurd z)
      by_made (Some b) e = assembled-ok hist v m a i c b e l

  -- a height that is pending lies above what is dropped
  pub pending-low : (hist : List Act) (v : Log) (m : Mem) (h : ℕ) → Inv back p s g hist v (core m) → is_pending m h ≡ true → low s m.tip ≤ h
  pending-low hist v m h i q =
      let x = some_first (λ (y : Pending). eqb y.height h) m.pending q in
      let y = first_in (λ (y : Pending). eqb y.height h) m.pending x.0 x.1 in
      let e = eqb-true x.0.height h y.1 in
      let l = i.over x.0 y.0 in
      omega arith

  pub storing : (hist : List Act) (v : Log) (m : Mem) (a : Ack) → Inv back p s g hist v (core m) → Sourced back p s g hist v a → Does hist v (core m) (store p s a m)
  storing hist v m a i c =
      opt_both (Does hist v (core m)) (keys p a.epoch) (idle m) _ (λ _. does_idle hist v m i)
      (λ ks _. cond_both (not (is_pending m a.height) || differs (pending_at m a.height) a.digest) (idle m) _ (Does hist v (core m)) (λ _. does_idle hist v m i)
      (λ q. opt_both (Does hist v (core m)) (ack_of m a.height a.epoch a.signer) _ _
      (λ _. (let l = pending-low hist v m a.height i (not-false _ (or_parts _ _ q).0) in
      wp_more (JInv p s g) (counted p s a (length ks) (with_acks (placed ack_below a m.acks) m)).acts hist v _ _
      (λ h u r. (r.0, record { grown = r.1.grown; fewer = r.1.fewer; kept = r.1.kept; pending = r.1.pending; epoch = r.1.epoch; onward = r.1.onward }))
      (counting hist v (with_acks (placed ack_below a m.acks) m) a (length ks) (with_ack hist v m a i c l) c l)))
      (λ b _. does_idle hist v m i)))

  pub restoring_from : (d : Bytes) (e : ℕ) (l : List Ack) (hist : List Act) (v : Log) (m : Mem) → Inv back p s g hist v (core m) → ((a : Ack) → Memᴰ a l → Sourced back p s g hist v a) → Does hist v (core m) (restore_from p s d e l m)
  restoring_from d e [] hist v m i f = does_idle hist v m i
  restoring_from d e (a ∷ l) hist v m i f =
      cond_both (not (eqb a.epoch e) && is_certified m a.height) (idle m) _ (Does hist v (core m)) (λ _. does_idle hist v m i)
      (λ _. cond_both (bytes_eq a.digest d) _ _ (Does hist v (core m))
      (λ _. does_then hist v (core m) (store p s a m) (restore_from p s d a.epoch l) (storing hist v m a i (f a (Memᴰ.head refl)))
      (λ h u j st. restoring_from d a.epoch l h u (store p s a m).mem j (λ b n. sourced_on back p s g hist v (core m) h u (core (store p s a m).mem) b st (f b (Memᴰ.tail n)))))
      (λ _. restoring_from d a.epoch l hist v m i (λ b n. f b (Memᴰ.tail n))))

  pub restoring : (d : Bytes) (l : List Ack) (hist : List Act) (v : Log) (m : Mem) → Inv back p s g hist v (core m) → ((a : Ack) → Memᴰ a l → Sourced back p s g hist v a) → Does hist v (core m) (restore p s d l m)
  restoring d [] hist v m i f = does_idle hist v m i
  restoring d (a ∷ l) hist v m i f = restoring_from d a.epoch (a ∷ l) hist v m i f
