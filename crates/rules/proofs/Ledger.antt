-- What holds of the journal and of all that was done, wherever the engine stops: every record has a source, certificates agree, own acks agree. Assumes nothing.
use Rattle.std.proofs.Common.{◌≡◌, ℕ, ◌+◌, ◌*◌, ◌/◌, ◌^◌, ◌<◌, ◌≤◌, Bool, true, false, ◌⊎◌, List, [], ◌∷◌, ◌++◌, length, Some, sym, refl, ap, ◌∙◌, subst, inl, inr, mul_comm, div-lt_iff_lt-mul, arith, All}
use Rattle.std.proofs.lemmas.List.Elements.{All-weaker}
use mathlib.Core.Bool.{false≢true}
use mathlib.Core.List.Memᴰ
use mathlib.Core.List.{Memᴰ}
use native.Mathlib.Nat.{mul-div-le}
use Rattle.std.proofs.lemmas.Bool.{cases_lt}
use Rattle.forms.specs.Values.{Ack, Cert, Activity, ack, certified, tip}
use Rattle.forms.specs.Writing.{write}
use Rattle.tips.specs.Faults.{quorum}
use Rattle.journal.specs.Log.{Log, Bytes, Firmer}
use Rattle.journal.specs.Cuts.{Cut}
use Rattle.provider.specs.Answers.{Answers}
use Rattle.rules.specs.State.{Settings, low, section}
use Rattle.rules.specs.Acts.{Act, append, sync, prune, sync_all, read, tell, send, block, hand_out, take_back, lodge, fetch, drop_below, hear, sign, make, fail}
use Rattle.rules.specs.Rules.{keys, own}
use Rattle.rules.specs.Promises.{Distinct}
use Rattle.rules.proofs.Recs.{In, Dur, dur_in, cut_in, cut_keeps, firmer_in, dur_firmer}

-- what records can hold
pub record SizedAck (a : Ack) : Type 0 where
  pub high : a.height ≤ 2 ^ 62 + 7
  pub epoch : a.epoch < 2 ^ 64
  pub signer : a.signer ≤ 15
  pub digest : length a.digest ≡ 32
  pub signature : length a.signature ≡ 64

pub record SizedCert (c : Cert) : Type 0 where
  pub high : c.height < 2 ^ 62
  pub digest : length c.digest ≡ 32
  pub bytes : length c.bytes ≤ 1026

abbrev pub Small : Activity → Type 0
Small (ack a) = SizedAck a
Small (certified c) = SizedCert c
Small (tip t) = t ≤ 2 ^ 62

abbrev pub height_of_lem : Activity → ℕ
height_of_lem (ack a) = a.height
height_of_lem (certified c) = c.height
height_of_lem (tip t) = t

-- acts that tell a certificate or show an ack
abbrev pub loud_told : Activity → Bool
loud_told (ack a) = true
loud_told (certified c) = true
loud_told (tip t) = false

abbrev pub loud : Act → Bool
loud (append t x) = false
loud (sync t) = false
loud (prune t) = false
loud sync_all = false
loud (read o) = false
loud (tell x) = loud_told x
loud (send t a) = true
loud (block k) = false
loud (hand_out h) = false
loud (take_back h) = false
loud (lodge h) = false
loud (fetch h) = false
loud (drop_below h) = false
loud (hear a) = false
loud (sign a) = false
loud (make c) = false
loud fail = false

-- one act more
pub further : {hist : List Act} (a : Act) (x : Act) → Memᴰ x hist → Memᴰ x (hist ++ (a ∷ []))
further a x m = Memᴰ.append_left (a ∷ []) m

pub latest : (hist : List Act) (a : Act) → Memᴰ a (hist ++ (a ∷ []))
latest hist a = Memᴰ.append_right hist (Memᴰ.head refl)

pub quiet : (hist : List Act) (a x : Act) → loud a ≡ false → loud x ≡ true → Memᴰ x (hist ++ (a ∷ [])) → Memᴰ x hist
quiet hist a x q l m =
    elim (Memᴰ.append_cases hist m) [ inl u ↦ u | inr u ↦ absurd (false≢true (sym q ∙ sym (ap loud (Memᴰ.eq_of_singleton u)) ∙ l)) ]

-- a lower section is of a lower height
pub lower-section : (h k n : ℕ) → 0 < n → h / n < k / n → h < k
lower-section h k n pos l =
    elim (cases_lt h k) [
      | inl u ↦ u
      | inr u ↦ absurd (
          let a : h < n * (k / n) = (let e = mul_comm n (k / n) in subst (λ z. h < z) (sym e) ((div-lt_iff_lt-mul pos).0 l)) in
          let b = mul-div-le k n in omega arith)
    ]

module _ (p : Answers) (s : Settings) (g : Bool) where
  -- a signer of an epoch stands behind a certificate
  abbrev pub BehindBy : List Act → Cert → ℕ → ℕ → Type 0
  BehindBy hist c e i =
      (a : Ack) × (Memᴰ (hear a) hist ⊎ Memᴰ (sign a) hist)
      × (a.epoch ≡ e) × (a.signer ≡ i) × (a.height ≡ c.height) × (a.digest ≡ c.digest)

  abbrev pub BackedBy : List Act → Cert → Type 0
  BackedBy hist c =
      (e : ℕ) × ((ks : List Bytes) × ((is : List ℕ) × (keys p e ≡ Some ks) × Distinct is × (quorum (length ks) ≤ length is)
      × All (λ i. (i < length ks) × BehindBy hist c e i) is))

  abbrev pub Own : Ack → Type 0
  Own a = own p a.epoch ≡ Some a.signer

  -- where a record comes from
  abbrev pub Source : List Act → Activity → Type 0
  Source hist (ack a) = Memᴰ (sign a) hist × Own a
  Source hist (certified c) = BackedBy hist c
  Source hist (tip t) = Unit {0}

  abbrev pub place : Activity → ℕ
  place x = section s (height_of_lem x)

  -- an activity stands in the journal; it is durable there
  abbrev pub Rec : Activity → Log → Type 0
  Rec x v = Small x × In (place x) (write x) v

  abbrev pub RecD : Activity → Log → Type 0
  RecD x v = Small x × Dur (place x) (write x) v

  -- a durable tip lies more than A above h
  abbrev pub Passed : ℕ → Log → Type 0
  Passed h v = (t : ℕ) × RecD (tip t) v × (h < low s t)

  abbrev pub Stands : List Act → Log → Cert → Type 0
  Stands hist v c = Rec (certified c) v ⊎ Memᴰ (tell (certified c)) hist

  abbrev pub ShownBy : List Act → Ack → Type 0
  ShownBy hist a = Memᴰ (tell (ack a)) hist ⊎ ((t : ℕ) × Memᴰ (send t a) hist)

  abbrev pub Out : List Act → Log → Ack → Type 0
  Out hist v a = Rec (ack a) v ⊎ ShownBy hist a

  pub record JInv (hist : List Act) (v : Log) : Type 0 where
    pub form : (t : ℕ) (b : Bytes) → In t b v → (x : Activity) × (b ≡ write x) × (t ≡ place x) × Small x × Source hist x
    pub one : (c d : Cert) → Stands hist v c → Stands hist v d → c.height ≡ d.height → c ≡ d
    pub told : (c : Cert) → Memᴰ (tell (certified c)) hist → RecD (certified c) v ⊎ Passed c.height v
    pub backed : (c : Cert) → Memᴰ (tell (certified c)) hist → BackedBy hist c
    pub agree : g ≡ true → (a b : Ack) → Out hist v a → Out hist v b → Own a → Own b → a.epoch ≡ b.epoch → a.height ≡ b.height → a.digest ≡ b.digest
    pub shown : g ≡ true → (a : Ack) → ShownBy hist a → Own a → RecD (ack a) v ⊎ Passed a.height v

  -- fewer records, all durable ones among them
  pub less : (hist : List Act) (v w : Log) → JInv hist v → ((t : ℕ) (b : Bytes) → In t b w → In t b v) → ((t : ℕ) (b : Bytes) → Dur t b v → Dur t b w) → JInv hist w
  less hist v w j back keep = record {
    form = λ t b i. j.form t b (back t b i);
    one = λ c d x y e. j.one c d (stand c x) (stand d y) e;
    told = λ c m. elim (j.told c m) [ inl u ↦ inl (u.0, keep _ _ u.1) | inr u ↦ inr (passed c.height u) ];
    backed = j.backed;
    agree = λ q a b x y. j.agree q a b (out a x) (out b y);
    shown = λ q a x o. elim (j.shown q a x o) [ inl u ↦ inl (u.0, keep _ _ u.1) | inr u ↦ inr (passed a.height u) ];
  }
    where
      stand : (c : Cert) → Stands hist w c → Stands hist v c
      stand c (inl u) = inl (u.0, back _ _ u.1)
      stand c (inr u) = inr u

      out : (a : Ack) → Out hist w a → Out hist v a
      out a (inl u) = inl (u.0, back _ _ u.1)
      out a (inr u) = inr u

      passed : (h : ℕ) → Passed h v → Passed h w
      passed h (t, d, l) = (t, (d.0, keep _ _ d.1), l)

  pub firmer : (hist : List Act) (v w : Log) → JInv hist v → Firmer v w → JInv hist w
  firmer hist v w j f = less hist v w j (λ t b i. firmer_in t b v w f i) (λ t b d. dur_firmer t b v w f d)

  pub cut_short : (hist : List Act) (v w : Log) → JInv hist v → Cut 0 v w → JInv hist w
  cut_short hist v w j c = less hist v w j (λ t b i. cut_in 0 t b v w c i) (λ t b d. elim (cut_keeps 0 t b v w c d) [ inl u ↦ u | inr u ↦ absurd (omega arith) ])

  -- fewer records: the durable ones are kept but for those of sections below that of t − A, where t is durable and no recorded tip is higher
  pub pruning : (hist : List Act) (v w : Log) (t : ℕ) → 0 < s.per_section → JInv hist v → RecD (tip t) w → ((k : ℕ) → Rec (tip k) v → k ≤ t) →
      ((k : ℕ) (b : Bytes) → In k b w → In k b v) → ((k : ℕ) (b : Bytes) → Dur k b v → Dur k b w ⊎ (k < section s (low s t))) → JInv hist w
  pruning hist v w t pos j here top back keep = record {
    form = λ k b i. j.form k b (back k b i);
    one = λ c d x y e. j.one c d (stand c x) (stand d y) e;
    told = λ c m. elim (j.told c m) [ inl u ↦ kept (certified c) u | inr u ↦ inr (passed c.height u) ];
    backed = j.backed;
    agree = λ q a b x y. j.agree q a b (out a x) (out b y);
    shown = λ q a x o. elim (j.shown q a x o) [ inl u ↦ kept (ack a) u | inr u ↦ inr (passed a.height u) ];
  }
    where
      stand : (c : Cert) → Stands hist w c → Stands hist v c
      stand c (inl u) = inl (u.0, back _ _ u.1)
      stand c (inr u) = inr u

      out : (a : Ack) → Out hist w a → Out hist v a
      out a (inl u) = inl (u.0, back _ _ u.1)
      out a (inr u) = inr u

      kept : (x : Activity) → RecD x v → RecD x w ⊎ Passed (height_of_lem x) w
      kept x (sm, d) = elim (keep _ _ d) [ inl u ↦ inl (sm, u) | inr u ↦ inr (t, here, lower-section (height_of_lem x) (low s t) s.per_section pos u) ]

      passed : (h : ℕ) → Passed h v → Passed h w
      passed h (k, d, l) = let m = top k (d.0, dur_in _ _ v d.1) in (t, here, omega arith)

  -- one act more that tells no certificate and shows no ack
  pub source_on : (hist : List Act) (a : Act) (x : Activity) → Source hist x → Source (hist ++ (a ∷ [])) x
  source_on hist a (ack x) (m, o) = (further a (sign x) m, o)
  source_on hist a (certified c) (e, (ks, (is, k, d, q, b))) = (e, (ks, (is, k, d, q, on is b)))
    where
      more : (i : ℕ) → (i < length ks) × BehindBy hist c e i → (i < length ks) × BehindBy (hist ++ (a ∷ [])) c e i
      more i (l, (x, m, e1, e2, e3, e4)) = (l, (x, elim m [ inl n ↦ inl (further a (hear x) n) | inr n ↦ inr (further a (sign x) n) ], e1, e2, e3, e4))

      on : (is : List ℕ) → All (λ i. (i < length ks) × BehindBy hist c e i) is → All (λ i. (i < length ks) × BehindBy (hist ++ (a ∷ [])) c e i) is
      on is u = All-weaker (λ i. (i < length ks) × BehindBy hist c e i) (λ i. (i < length ks) × BehindBy (hist ++ (a ∷ [])) c e i) more is u
  source_on hist a (tip t) u = tt

  pub hush : (hist : List Act) (v : Log) (a : Act) → JInv hist v → loud a ≡ false → JInv (hist ++ (a ∷ [])) v
  hush hist v a j q = record {
    form = λ t b i. (let f = j.form t b i in (f.0, f.1, f.2, f.3, source_on hist a f.0 f.4));
    one = λ c d x y e. j.one c d (stand c x) (stand d y) e;
    told = λ c m. j.told c (quiet hist a (tell (certified c)) q refl m);
    backed = λ c m. source_on hist a (certified c) (j.backed c (quiet hist a (tell (certified c)) q refl m));
    agree = λ u x y m n. j.agree u x y (out x m) (out y n);
    shown = λ u x m o. j.shown u x (was x m) o;
  }
    where
      stand : (c : Cert) → Stands (hist ++ (a ∷ [])) v c → Stands hist v c
      stand c (inl u) = inl u
      stand c (inr u) = inr (quiet hist a (tell (certified c)) q refl u)

      was : (x : Ack) → ShownBy (hist ++ (a ∷ [])) x → ShownBy hist x
      was x (inl u) = inl (quiet hist a (tell (ack x)) q refl u)
      was x (inr (t, u)) = inr (t, quiet hist a (send t x) q refl u)

      out : (x : Ack) → Out (hist ++ (a ∷ [])) v x → Out hist v x
      out x (inl u) = inl u
      out x (inr u) = inr (was x u)
