-- What a running engine knows, held against its journal: the invariant, and the acts that keep it. Assumes nothing.
use Rattle.std.proofs.Common.{◌≡◌, ℕ, ◌+◌, ◌/◌, ◌^◌, ◌<◌, ◌≤◌, Bool, true, ◌⊎◌, List, [], ◌∷◌, ◌++◌, length, Some, None, Option, refl, ◌∙◌, inl, inr, arith}
use mathlib.Core.List.{Memᴰ}
use Rattle.std.proofs.lemmas.Bool.{cases_lt}
use Rattle.forms.specs.Values.{Ack, Cert, Activity, ack, certified, tip}
use Rattle.forms.specs.Writing.{write}
use Rattle.journal.specs.Log.{Log, Bytes, appended, synced}
use Rattle.provider.specs.Answers.{Answers}
use Rattle.rules.specs.Lists.{any, highest}
use Rattle.rules.specs.State.{Seat, Pending, Settings, Mem, low}
use Rattle.rules.specs.Acts.{Act, append, sync, hear, sign, Ended, whole, full, below_bound, failed, off, Space, StopsAppend, StopsSync}
use Rattle.rules.proofs.Members.{of_height}
use Rattle.rules.proofs.Recs.{dur_in, dur_appended, new-appended, synced_in, dur_synced, new-synced}
use Rattle.rules.proofs.Wp.{WP}
use Rattle.rules.proofs.Ledger.{SizedAck, Small, height_of_lem, loud, further, quiet, lower-section, Own, Source, place, Rec, RecD, Passed, Out, JInv, less, firmer, cut_short, hush}
use Rattle.rules.proofs.Entries.{Back, Free, old_or_new, entered}

-- the part of the memory that the invariant speaks of
pub record Core : Type 0 where
  pub tip : ℕ
  pub epoch : ℕ
  pub seats : List Seat
  pub pending : List Pending
  pub acks : List Ack
  pub certs : List Cert

abbrev pub core : Mem → Core
core m = record { tip = m.tip; epoch = m.epoch; seats = m.seats; pending = m.pending; acks = m.acks; certs = m.certs }

abbrev pub end : Core → ℕ
end k = highest (λ x. x.height + 1) (highest (λ c. c.height + 1) k.tip k.certs) k.pending

abbrev pub SizedDigest : Option Bytes → Type 0
SizedDigest None = Unit {0}
SizedDigest (Some d) = length d ≡ 32

-- a higher height is of a higher section
pub upper_section : (h k n : ℕ) → 0 < n → h ≤ k → h / n ≤ k / n
upper_section h k n pos l = elim (cases_lt (k / n) (h / n)) [ inl u ↦ (let z = lower-section k h n pos u in absurd (omega arith)) | inr u ↦ u ]

module _ (back : Back) (p : Answers) (s : Settings) (g : Bool) where
  -- a stored ack, or one that is to be stored
  pub record Sourced (hist : List Act) (v : Log) (a : Ack) : Type 0 where
    pub sized : SizedAck a
    pub source : Memᴰ (hear a) hist ⊎ Memᴰ (sign a) hist
    pub high : 2 ^ 62 ≤ a.height → Own p s g a
    pub kept : g ≡ true → Own p s g a → RecD p s g (ack a) v ⊎ Passed p s g a.height v

  pub record Inv (hist : List Act) (v : Log) (k : Core) : Type 0 where
    pub jour : JInv p s g hist v
    pub pos : 0 < s.per_section
    pub wide : s.window ≤ 8
    pub top : k.tip ≤ 2 ^ 62
    pub epoch : k.epoch < 2 ^ 64
    pub tips : (t : ℕ) → Rec p s g (tip t) v → t ≤ k.tip
    pub certs : (c : Cert) → Rec p s g (certified c) v → low s k.tip ≤ c.height → any (of_height c.height) k.certs ≡ true
    pub high : (c : Cert) → Memᴰ c k.certs → c.height < 2 ^ 62
    pub seats : (x : Seat) → Memᴰ x k.seats → x.tip < 2 ^ 62
    pub over : (x : Pending) → Memᴰ x k.pending → low s k.tip ≤ x.height
    pub under : (x : Pending) → Memᴰ x k.pending → x.height < k.tip + s.window
    pub same : (x y : Pending) → Memᴰ x k.pending → Memᴰ y k.pending → x.height ≡ y.height → x.verified ≡ y.verified
    pub digests : (x : Pending) → Memᴰ x k.pending → SizedDigest x.verified
    pub acks : (a : Ack) → Memᴰ a k.acks → Sourced hist v a
    pub above : (a : Ack) → Memᴰ a k.acks → low s k.tip ≤ a.height
    pub epochs : g ≡ true → (a : Ack) → Rec p s g (ack a) v → a.epoch ≤ k.epoch
    pub verified : g ≡ true → (a : Ack) → Rec p s g (ack a) v → a.epoch ≡ k.epoch → (x : Pending) → Memᴰ x k.pending → x.height ≡ a.height → x.verified ≡ Some a.digest
    pub ended : g ≡ true → (a : Ack) → Rec p s g (ack a) v → a.height < end k

  -- what acts leave as it was: what happened stays, no ack is shown that was not, durable records are kept or passed
  pub record Step (hist : List Act) (v : Log) (k : Core) (hist' : List Act) (w : Log) (l : Core) : Type 0 where
    pub grown : (a : Act) → Memᴰ a hist → Memᴰ a hist'
    pub fewer : (a : Ack) → Out p s g hist' w a → Out p s g hist v a
    pub kept : (x : Activity) → RecD p s g x v ⊎ Passed p s g (height_of_lem x) v → RecD p s g x w ⊎ Passed p s g (height_of_lem x) w
    pub pending : (x : Pending) → Memᴰ x l.pending → Memᴰ x k.pending
    pub epoch : l.epoch ≡ k.epoch
    pub onward : end k ≤ end l

  pub rest : (hist : List Act) (v : Log) (k : Core) → Step hist v k hist v k
  rest hist v k = record { grown = λ a m. m; fewer = λ a o. o; kept = λ x u. u; pending = λ x m. m; epoch = refl; onward = omega arith }

  pub stride : (h1 : List Act) (v1 : Log) (k1 : Core) (h2 : List Act) (v2 : Log) (k2 : Core) (h3 : List Act) (v3 : Log) (k3 : Core) → Step h1 v1 k1 h2 v2 k2 → Step h2 v2 k2 h3 v3 k3 → Step h1 v1 k1 h3 v3 k3
  stride h1 v1 k1 h2 v2 k2 h3 v3 k3 x y = record {
    grown = λ a m. y.grown a (x.grown a m);
    fewer = λ a o. x.fewer a (y.fewer a o);
    kept = λ z u. y.kept z (x.kept z u);
    pending = λ z m. x.pending z (y.pending z m);
    epoch = y.epoch ∙ x.epoch;
    onward = (let a = x.onward in let b = y.onward in omega arith);
  }

  pub sourced_on : (hist : List Act) (v : Log) (k : Core) (hist' : List Act) (w : Log) (l : Core) (a : Ack) → Step hist v k hist' w l → Sourced hist v a → Sourced hist' w a
  sourced_on hist v k hist' w l a st c = record {
    sized = c.sized;
    source = elim c.source [ inl u ↦ inl (st.grown (hear a) u) | inr u ↦ inr (st.grown (sign a) u) ];
    high = c.high;
    kept = λ q o. st.kept (ack a) (c.kept q o);
  }

  -- a durable record that no tip has passed
  pub not_passed : (hist : List Act) (v : Log) (k : Core) → Inv hist v k → (h : ℕ) → low s k.tip ≤ h → Passed p s g h v → ⊥
  not_passed hist v k i h l (t, d, u) = let m = i.tips t (d.0, dur_in _ _ v d.1) in omega arith

  -- an append and its sync
  pub record Added (hist : List Act) (v : Log) (x : Activity) (hist' : List Act) (w : Log) : Type 0 where
    pub jour : JInv p s g hist' w
    pub here : RecD p s g x w
    pub grown : (a : Act) → Memᴰ a hist → Memᴰ a hist'
    pub loudly : (a : Act) → loud a ≡ true → Memᴰ a hist' → Memᴰ a hist
    pub known : (y : Activity) → Rec p s g y w → Rec p s g y v ⊎ (y ≡ x)
    pub kept : (y : Activity) → RecD p s g y v → RecD p s g y w

  pub stop_sync : (hist : List Act) (v : Log) → JInv p s g hist v → (r : Ended) (w : Log) → StopsSync v r w → JInv p s g hist w
  stop_sync hist v j whole w z = absurd z
  stop_sync hist v j full w z = firmer p s g hist v w j z
  stop_sync hist v j below_bound w z = absurd z
  stop_sync hist v j failed w z = absurd z
  stop_sync hist v j off w z = cut_short p s g hist v w j z

  stop_append : (hist : List Act) (v : Log) (x : Activity) → JInv p s g hist v → JInv p s g hist (appended (place p s g x) (write x) v) → (room : Space) (r : Ended) (w : Log) → StopsAppend room (place p s g x) x v r w → JInv p s g hist w
  stop_append hist v x j k room whole w z = absurd z
  stop_append hist v x j k room full w z = firmer p s g hist v w j z.2
  stop_append hist v x j k room below_bound w z = firmer p s g hist v w j z.1
  stop_append hist v x j k room failed w z = absurd z
  stop_append hist v x j k room off w z = cut_short p s g hist _ w k z.1

  pub recording : (hist : List Act) (v : Log) (x : Activity) (Q : List Act → Log → Type 0) → JInv p s g hist v → Small x → Source p s g hist x → Free back p s g hist v x →
      ((h : List Act) (u : Log) → Added hist v x h u → Q h u) → WP (JInv p s g) (append (place p s g x) x ∷ sync (place p s g x) ∷ []) hist v Q
  recording hist v x Q j m src free q =
      let t = place p s g x in
      let v1 = appended t (write x) v in
      let v2 = synced t v1 in
      let h1 = hist ++ (append t x ∷ []) in
      let h2 = h1 ++ (sync t ∷ []) in
      let j1 : JInv p s g hist v1 = entered back p s g hist v j x m src free in
      let j2 : JInv p s g h1 v1 = hush p s g hist v1 (append t x) j1 refl in
      let j3 : JInv p s g h1 v2 = less p s g h1 v1 v2 j2 (λ k b i. synced_in t k b v1 i) (λ k b d. dur_synced t k b v1 d) in
      let j4 : JInv p s g h2 v2 = hush p s g h1 v2 (sync t) j3 refl in (
        λ room r w z. stop_append hist v x j j1 room r w z,
        λ _. (
          λ room r w z. stop_sync h1 v1 j2 r w z,
          λ _.
              q h2 v2 (record {
                jour = j4;
                here = (m, new-synced t (write x) v1 (new-appended t (write x) v));
                grown = λ a n. further (sync t) a (further (append t x) a n);
                loudly = λ a l n. quiet hist (append t x) a refl l (quiet h1 (sync t) a refl l n);
                known = λ y r. old_or_new back p s g x y v m (r.0, synced_in t _ _ v1 r.1);
                kept = λ y r. (r.0, dur_synced t _ _ v1 (dur_appended t (write x) _ _ v r.1));
              }),
        ),
      )
