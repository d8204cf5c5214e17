-- A record more, a certificate told, an ack shown: what keeps the journal's invariant. Assumes nothing.
use Rattle.std.proofs.Common.{◌≡◌, ℕ, Bool, true, ◌⊎◌, List, [], ◌∷◌, ◌++◌, Ok, sym, ap, ◌∙◌, subst, inl, inr, arith}
use mathlib.Core.List.Memᴰ
use Rattle.forms.specs.Values.{Ack, Cert, Activity, ack, certified, tip}
use Rattle.forms.specs.Reading as forms
use Rattle.forms.specs.Writing.{write}
use Rattle.journal.specs.Log.{Log, Bytes, appended}
use Rattle.provider.specs.Answers.{Answers}
use Rattle.rules.specs.State.{Settings}
use Rattle.rules.specs.Acts.{Act, tell, send}
use Rattle.rules.proofs.Recs.{Dur, dur_in, dur_appended, appended_in}
use Rattle.rules.proofs.Ledger.{Small, Own, Source, place, Rec, RecD, Passed, Stands, ShownBy, Out, JInv, source_on}

-- what is written is read back
abbrev pub Back : Type 0
Back = (x : Activity) → Small x → forms.read (write x) ≡ Ok x

-- so a small activity is written in one way only
pub same-entry : Back → (x y : Activity) → Small x → Small y → write x ≡ write y → x ≡ y
same-entry back x y m n e =
    let a = back x m in
    let b = back y n in
    let c : forms.read (write x) ≡ forms.read (write y) = ap forms.read e in
    cc

module _ (back : Back) (p : Answers) (s : Settings) (g : Bool) where
  -- nothing that stands or was shown speaks against a new record
  abbrev pub Free : List Act → Log → Activity → Type 0
  Free hist v (ack a) = g ≡ true → (b : Ack) → Out p s g hist v b → Own p s g b → b.epoch ≡ a.epoch → b.height ≡ a.height → b.digest ≡ a.digest
  Free hist v (certified c) = (d : Cert) → Stands p s g hist v d → d.height ≡ c.height → d ≡ c
  Free hist v (tip t) = Unit {0}

  -- a small activity in the journal with x more stood there before, or is x
  pub old_or_new : (x y : Activity) (v : Log) → Small x → Rec p s g y (appended (place p s g x) (write x) v) → Rec p s g y v ⊎ (y ≡ x)
  old_or_new x y v m (n, i) =
      elim (appended_in (place p s g x) (write x) _ _ v i) [ inl u ↦ inl (n, u) | inr u ↦ inr (same-entry back y x n m u.1) ]

  module _ (hist : List Act) (v : Log) (j : JInv p s g hist v) where
    certs-one : (x : Activity) → Free hist v x → (c d : Cert) → Stands p s g hist v c ⊎ (certified c ≡ x) → Stands p s g hist v d ⊎ (certified d ≡ x) → c.height ≡ d.height → c ≡ d
    certs-one x f c d (inl m) (inl n) e = j.one c d m n e
    certs-one (ack a) f c d (inr m) n e = let z : ◌≡◌ {A = ℕ} 0 1 = cc in absurd (omega arith)
    certs-one (tip t) f c d (inr m) n e = let z : ◌≡◌ {A = ℕ} 0 1 = cc in absurd (omega arith)
    certs-one (ack a) f c d (inl m) (inr n) e = let z : ◌≡◌ {A = ℕ} 0 1 = cc in absurd (omega arith)
    certs-one (tip t) f c d (inl m) (inr n) e = let z : ◌≡◌ {A = ℕ} 0 1 = cc in absurd (omega arith)
    certs-one (certified k) f c d (inl m) (inr n) e =
        let q : d ≡ k = cc in
        f c m (e ∙ ap (λ x. x.height) q) ∙ sym q
    certs-one (certified k) f c d (inr m) (inl n) e =
        let q : c ≡ k = cc in
        q ∙ sym (f d n (sym e ∙ ap (λ x. x.height) q))
    certs-one (certified k) f c d (inr m) (inr n) e = let q : c ≡ k = cc in let r : d ≡ k = cc in q ∙ sym r

    acks-one : (x : Activity) → Free hist v x → g ≡ true → (a b : Ack) → Out p s g hist v a ⊎ (ack a ≡ x) → Out p s g hist v b ⊎ (ack b ≡ x) → Own p s g a → Own p s g b → a.epoch ≡ b.epoch → a.height ≡ b.height → a.digest ≡ b.digest
    acks-one x f q a b (inl m) (inl n) o r e h = j.agree q a b m n o r e h
    acks-one (certified k) f q a b (inr m) n o r e h = let z : ◌≡◌ {A = ℕ} 0 1 = cc in absurd (omega arith)
    acks-one (tip t) f q a b (inr m) n o r e h = let z : ◌≡◌ {A = ℕ} 0 1 = cc in absurd (omega arith)
    acks-one (certified k) f q a b (inl m) (inr n) o r e h = let z : ◌≡◌ {A = ℕ} 0 1 = cc in absurd (omega arith)
    acks-one (tip t) f q a b (inl m) (inr n) o r e h = let z : ◌≡◌ {A = ℕ} 0 1 = cc in absurd (omega arith)
    acks-one (ack k) f q a b (inl m) (inr n) o r e h =
        let y : b ≡ k = cc in
        f q a m o (e ∙ ap (λ x. x.epoch) y) (h ∙ ap (λ x. x.height) y) ∙ ap (λ x. x.digest) (sym y)
    acks-one (ack k) f q a b (inr m) (inl n) o r e h =
        let y : a ≡ k = cc in
        ap (λ x. x.digest) y ∙ sym (f q b n r (sym e ∙ ap (λ x. x.epoch) y) (sym h ∙ ap (λ x. x.height) y))
    acks-one (ack k) f q a b (inr m) (inr n) o r e h = let y : a ≡ k = cc in let w : b ≡ k = cc in ap (λ x. x.digest) (y ∙ sym w)

    -- a record more
    pub entered : (x : Activity) → Small x → Source p s g hist x → Free hist v x → JInv p s g hist (appended (place p s g x) (write x) v)
    entered x m src f = record {
      form = λ t b i. elim (appended_in (place p s g x) (write x) t b v i) [ inl u ↦ j.form t b u | inr u ↦ (x, u.1, sym u.0, m, src) ];
      one = λ c d a b e. certs-one x f c d (stand c a) (stand d b) e;
      told = λ c n. elim (j.told c n) [ inl u ↦ inl (u.0, keep _ _ u.1) | inr u ↦ inr (passed c.height u) ];
      backed = j.backed;
      agree = λ q a b y z. acks-one x f q a b (out a y) (out b z);
      shown = λ q a y o. elim (j.shown q a y o) [ inl u ↦ inl (u.0, keep _ _ u.1) | inr u ↦ inr (passed a.height u) ];
    }
      where
        keep : (t : ℕ) (b : Bytes) → Dur t b v → Dur t b (appended (place p s g x) (write x) v)
        keep t b d = dur_appended (place p s g x) (write x) t b v d

        passed : (h : ℕ) → Passed p s g h v → Passed p s g h (appended (place p s g x) (write x) v)
        passed h (t, d, l) = (t, (d.0, keep _ _ d.1), l)

        stand : (c : Cert) → Stands p s g hist (appended (place p s g x) (write x) v) c → Stands p s g hist v c ⊎ (certified c ≡ x)
        stand c (inl u) = elim (old_or_new x (certified c) v m u) [ inl w ↦ inl (inl w) | inr w ↦ inr w ]
        stand c (inr u) = inl (inr u)

        out : (a : Ack) → Out p s g hist (appended (place p s g x) (write x) v) a → Out p s g hist v a ⊎ (ack a ≡ x)
        out a (inl u) = elim (old_or_new x (ack a) v m u) [ inl w ↦ inl (inl w) | inr w ↦ inr w ]
        out a (inr u) = inl (inr u)

    -- what stands has its source
    pub source_of : (x : Activity) → Rec p s g x v → Source p s g hist x
    source_of x (m, i) =
        let f = j.form _ _ i in
        let e : x ≡ f.0 = same-entry back x f.0 m f.3 f.1 in
        subst (Source p s g hist) (sym e) f.4

    -- a durable record is told, or a durable ack sent
    pub spoken : (y : Act) (x : Activity) → RecD p s g x v → ((c : Cert) → tell (certified c) ≡ y → certified c ≡ x) → ((a : Ack) → tell (ack a) ≡ y → ack a ≡ x) → ((t : ℕ) (a : Ack) → send t a ≡ y → ack a ≡ x) → JInv p s g (hist ++ (y ∷ [])) v
    spoken y x (m, d) fc fa fs = record {
      form = λ t b i. (let f = j.form t b i in (f.0, f.1, f.2, f.3, source_on p s g hist y f.0 f.4));
      one = λ c e a b q. j.one c e (stand c a) (stand e b) q;
      told = λ c n. elim (Memᴰ.append_cases hist n) [ inl u ↦ j.told c u | inr u ↦ inl (subst (λ z. RecD p s g z v) (sym (fc c (Memᴰ.eq_of_singleton u))) (m, d)) ];
      backed = λ c n. source_on p s g hist y (certified c) (elim (Memᴰ.append_cases hist n) [ inl u ↦ j.backed c u | inr u ↦ source_of (certified c) (there (fc c (Memᴰ.eq_of_singleton u))) ]);
      agree = λ q a b o r. j.agree q a b (out a o) (out b r);
      shown = λ q a o r. elim (was a o) [ inl u ↦ j.shown q a u r | inr u ↦ inl (subst (λ z. RecD p s g z v) (sym u) (m, d)) ];
    }
      where
        there : {z : Activity} → z ≡ x → Rec p s g z v
        there e = subst (λ z. Rec p s g z v) (sym e) (m, dur_in _ _ v d)

        stand : (c : Cert) → Stands p s g (hist ++ (y ∷ [])) v c → Stands p s g hist v c
        stand c (inl u) = inl u
        stand c (inr u) = elim (Memᴰ.append_cases hist u) [ inl n ↦ inr n | inr n ↦ inl (there (fc c (Memᴰ.eq_of_singleton n))) ]

        was : (a : Ack) → ShownBy p s g (hist ++ (y ∷ [])) a → ShownBy p s g hist a ⊎ (ack a ≡ x)
        was a (inl u) = elim (Memᴰ.append_cases hist u) [ inl n ↦ inl (inl n) | inr n ↦ inr (fa a (Memᴰ.eq_of_singleton n)) ]
        was a (inr (t, u)) = elim (Memᴰ.append_cases hist u) [ inl n ↦ inl (inr (t, n)) | inr n ↦ inr (fs t a (Memᴰ.eq_of_singleton n)) ]

        out : (a : Ack) → Out p s g (hist ++ (y ∷ [])) v a → Out p s g hist v a
        out a (inl u) = inl u
        out a (inr u) = elim (was a u) [ inl n ↦ inr n | inr n ↦ inl (there n) ]

    pub tells : (x : Activity) → RecD p s g x v → JInv p s g (hist ++ (tell x ∷ [])) v
    tells x d = spoken (tell x) x d (λ c e. cc) (λ a e. cc) (λ t a e. (let z : ◌≡◌ {A = ℕ} 0 1 = cc in absurd (omega arith)))

    pub sends : (t : ℕ) (a : Ack) → RecD p s g (ack a) v → JInv p s g (hist ++ (send t a ∷ [])) v
    sends t a d = spoken (send t a) (ack a) d (λ c e. (let z : ◌≡◌ {A = ℕ} 0 1 = cc in absurd (omega arith))) (λ b e. (let z : ◌≡◌ {A = ℕ} 0 1 = cc in absurd (omega arith))) (λ k b e. cc)
