-- A digest and a rebroadcast keep the invariant. Assumes nothing.
use Rattle.std.proofs.Common.{◌≡◌, ℕ, ◌+◌, ◌^◌, ◌<◌, ◌≤◌, Bool, true, cond, ◌&&◌, eqb, List, [], ◌∷◌, length, Some, None, Option, sym, refl, ap, ◌∙◌, subst, inl, inr, arith, eqb-true}
use mathlib.Core.List.Memᴰ
use mathlib.Core.List.{Memᴰ}
use borrow.Author.Tests.{eqb-false}
use Rattle.std.proofs.lemmas.Bool.{cond_both, and_parts}
use Rattle.forms.specs.Values.{Ack, ack}
use Rattle.journal.specs.Log.{Log, Bytes}
use Rattle.provider.specs.Answers.{Answers}
use Rattle.provider.specs.Laws.{Lawful}
use Rattle.rules.specs.Lists.{those, opt, highest}
use Rattle.rules.specs.State.{Pending, Settings, Mem, pending_at, is_pending, ack_of}
use Rattle.rules.specs.Acts.{Act}
use Rattle.rules.specs.Rules.{own, idle, then, store, own_ack, signing, sending, due_at, restore, cleared, sign_and_send, digest_for, rebroadcast}
use Rattle.rules.proofs.Grow.{high_map}
use Rattle.rules.proofs.Members.{those_in, map_in_lem, first_in}
use Rattle.rules.proofs.Recs.{dur_in}
use Rattle.rules.proofs.Wp.{WP, wp_more, wp_three}
use Rattle.rules.proofs.Ledger.{SizedAck, Own, Rec, Out, JInv}
use Rattle.rules.proofs.Entries.{Back}
use Rattle.rules.proofs.Memory.{core, end, SizedDigest, Inv, sourced_on, not_passed}
use Rattle.rules.proofs.Moves.{Fresh, Signed, to_sign, to_send, apart}
use Rattle.rules.proofs.Keeps.{opt_both, Ends, ends_then, storing, restoring}

pub high_of : {A : Type 0} (f : A → ℕ) (n : ℕ) (x : A) (l : List A) → Memᴰ x l → f x ≤ highest f n l
high_of f n x [] m = absurd (Memᴰ.not-nil m)
high_of f n x (y ∷ l) (Memᴰ.head e) = let q = ap f e in omega arith
high_of f n x (y ∷ l) (Memᴰ.tail m) = let i = high_of f n x l m in omega arith

-- a deadline more changes nothing that the invariant speaks of
pub core_due : (t h : ℕ) (m : Mem) → core (due_at t h m) ≡ core m
core_due t h m = cond_both (is_pending m h) _ m (λ n. core n ≡ core m) (λ _. refl) (λ _. refl)

-- what an own ack is
pub record Mine (p : Answers) (e h : ℕ) (d : Bytes) (a : Ack) : Type 0 where
  pub height : a.height ≡ h
  pub epoch : a.epoch ≡ e
  pub digest : a.digest ≡ d
  pub own : own p e ≡ Some a.signer
  pub signed : p.signing.sign e h d ≡ Some a.signature

pub mine : (p : Answers) (m : Mem) (h : ℕ) (d : Bytes) (a : Ack) → own_ack p m h d ≡ Some a → Mine p m.epoch h d a
mine p m h d a q = go (own p m.epoch) refl (p.signing.sign m.epoch h d) refl q
  where
    go : (o : Option ℕ) → own p m.epoch ≡ o → (b : Option Bytes) → p.signing.sign m.epoch h d ≡ b →
        opt o None (λ i. opt b None (λ g. Some (record { height = h; epoch = m.epoch; signer = i; digest = d; signature = g }))) ≡ Some a → Mine p m.epoch h d a
    go None e b f r = apart (cc)
    go (Some i) e None f r = apart (cc)
    go (Some i) e (Some b) f r =
        let k : record { height = h; epoch = m.epoch; signer = i; digest = d; signature = b } ≡ a = cc in
        record {
          height = ap (λ (z : Ack). z.height) (sym k);
          epoch = ap (λ (z : Ack). z.epoch) (sym k);
          digest = ap (λ (z : Ack). z.digest) (sym k);
          own = e ∙ ap (λ (z : Ack). Some z.signer) k;
          signed = f ∙ ap (λ (z : Ack). Some z.signature) k;
        }

module _ (back : Back) (p : Answers) (law : Lawful p) (s : Settings) (g : Bool) where
  mine-sized : (e h : ℕ) (d : Bytes) (a : Ack) → Mine p e h d a → h ≤ 2 ^ 62 + 7 → e < 2 ^ 64 → length d ≡ 32 → SizedAck a
  mine-sized e h d a k lh le ld =
      let w = law.member e a.signer k.own in
      let x = (law.sound.set e w.0 w.1).most in
      let y = w.2 in
      let z = law.signs e a.signer h d k.own in
      let q : a.signature ≡ z.0 = (let u = k.signed in let v = z.1 in cc) in
      let hh = k.height in
      let ee = k.epoch in
      record { high = omega arith; epoch = omega arith; signer = omega arith; digest = ap length k.digest ∙ ld; signature = ap length q ∙ z.2 }

  mine-own : (e h : ℕ) (d : Bytes) (a : Ack) → Mine p e h d a → Own p s g a
  mine-own e h d a k = ap (own p) k.epoch ∙ k.own

  -- an own ack is signed, stored and sent
  module _ (hist : List Act) (v : Log) (m : Mem) (h : ℕ) (d : Bytes) (a : Ack) (k : Mine p m.epoch h d a) (i : Inv back p s g hist v (core m)) (lh : h ≤ 2 ^ 62 + 7) (ld : length d ≡ 32) (l : h < end (core m))
      (ver : g ≡ true → (x : Pending) → Memᴰ x m.pending → x.height ≡ h → x.verified ≡ Some d) (fresh : Fresh back p s g hist v m.epoch h d) where
    fresh_a : Fresh back p s g hist v a.epoch a.height a.digest
    fresh_a q x o r e f = fresh q x o r (e ∙ k.epoch) (f ∙ k.height) ∙ sym k.digest

    sign_now : WP (JInv p s g) (signing s a m).acts hist v (Signed back p s g hist v (core m) a)
    sign_now =
        let q = k.height in
        to_sign back p s g hist v m a i (mine-sized m.epoch h d a k lh i.epoch ld) (mine-own m.epoch h d a k) k.epoch (omega arith)
        (λ z x n e. ver z x n (e ∙ k.height) ∙ ap Some (sym k.digest)) fresh_a

    -- after the store, from the memory n that knows as much as m
    store-send : (n : Mem) → core n ≡ core m → (f : Mem → Mem) → ((y : Mem) → core (f y) ≡ core y) → (h1 : List Act) (u1 : Log) → Signed back p s g hist v (core m) a h1 u1 →
        Ends back p law s g h1 u1 (then (store p s a n) (λ y. sending a (f y)))
    store-send n same f keep h1 u1 sg =
        let i1 : Inv back p s g h1 u1 (core n) = subst (Inv back p s g h1 u1) (sym same) sg.inv in
        ends_then back p law s g h1 u1 (core n) (store p s a n) (λ y. sending a (f y)) (storing back p law s g h1 u1 n a i1 sg.sourced)
        (λ h2 u2 j st.
        let y = (store p s a n).mem in
        let j2 : Inv back p s g h2 u2 (core (f y)) = subst (Inv back p s g h2 u2) (sym (keep y)) j in
        let c = sourced_on back p s g h1 u1 (core n) h2 u2 (core y) a st sg.sourced in
        to_send back p s g h2 u2 (core (f y)) (f y).tip a j2 (λ q. c.kept q (mine-own m.epoch h d a k)) (λ q x o. sg.fresh q x (st.fewer x o)))

  -- the ack that a pending height has, if it is own and of this epoch, bears its verified digest
  pub no_other : (hist : List Act) (v : Log) (m : Mem) (x : Pending) → Inv back p s g hist v (core m) → Memᴰ x m.pending → g ≡ true → (a : Ack) → Out p s g hist v a → Own p s g a → a.epoch ≡ m.epoch → a.height ≡ x.height → x.verified ≡ Some a.digest
  no_other hist v m x i n q a (inl r) o e f = i.verified q a r e x n (sym f)
  no_other hist v m x i n q a (inr r) o e f = elim (i.jour.shown q a r o) [
    | inl w ↦ i.verified q a (w.0, dur_in _ _ v w.1) e x n (sym f)
    | inr w ↦ (let l = i.over x n in absurd (not_passed back p s g hist v (core m) i a.height (omega arith) w))
  ]

  -- the height becomes verified, and its acks are set aside
  module _ (hist : List Act) (v : Log) (m : Mem) (h : ℕ) (d : Bytes) (x : Pending) (i : Inv back p s g hist v (core m)) (n : Memᴰ x m.pending) (at : x.height ≡ h) (new : x.verified ≡ None) (ld : length d ≡ 32) where
    abbrev change : Pending → Pending
    change y = cond (eqb y.height h) (record { height = h; verified = Some d }) y

    same-height : (y : Pending) → (change y).height ≡ y.height
    same-height y = cond_both (eqb y.height h) (record { height = h; verified = Some d }) y (λ z. z.height ≡ y.height) (λ q. sym (eqb-true y.height h q)) (λ _. refl)

    now_verified : (y : Pending) → y.height ≡ h → (change y).verified ≡ Some d
    now_verified y e = cond_both (eqb y.height h) (record { height = h; verified = Some d }) y (λ z. z.verified ≡ Some d) (λ _. refl) (λ q. absurd (eqb-false y.height h q e))

    as_before : (y : Pending) → (y.height ≡ h → ⊥) → (change y).verified ≡ y.verified
    as_before y e = cond_both (eqb y.height h) (record { height = h; verified = Some d }) y (λ z. z.verified ≡ y.verified) (λ q. absurd (e (eqb-true y.height h q))) (λ _. refl)

    none_yet : g ≡ true → (a : Ack) → Out p s g hist v a → Own p s g a → a.epoch ≡ m.epoch → a.height ≡ h → ⊥
    none_yet q a o r e f = let z = no_other hist v m x i n q a o r e (f ∙ sym at) in apart (cc)

    cleared_inv : Inv back p s g hist v (core (cleared h d m))
    cleared_inv = record {
      jour = i.jour;
      pos = i.pos;
      wide = i.wide;
      top = i.top;
      epoch = i.epoch;
      tips = i.tips;
      certs = i.certs;
      high = i.high;
      seats = i.seats;
      over = λ y o. (let z = map_in_lem change y m.pending o in let l = i.over z.0 z.1 in let e = ap (λ k. k.height) z.2 ∙ same-height z.0 in omega arith);
      under = λ y o. (let z = map_in_lem change y m.pending o in let l = i.under z.0 z.1 in let e = ap (λ k. k.height) z.2 ∙ same-height z.0 in omega arith);
      same = λ y y' o o' e.
          (let z = map_in_lem change y m.pending o in let z' = map_in_lem change y' m.pending o' in
          let e1 = ap (λ k. k.height) z.2 ∙ same-height z.0 in
          let e2 = ap (λ k. k.height) z'.2 ∙ same-height z'.0 in
          let e3 : z.0.height ≡ z'.0.height = sym e1 ∙ e ∙ e2 in
          ap (λ k. k.verified) z.2 ∙ alike z.0 z'.0 e3 (i.same z.0 z'.0 z.1 z'.1 e3) ∙ ap (λ k. k.verified) (sym z'.2));
      digests = λ y o. (let z = map_in_lem change y m.pending o in subst (λ k. SizedDigest k.verified) (sym z.2) (sized z.0 (i.digests z.0 z.1)));
      acks = λ a o. i.acks a (those_in _ a m.acks o).0;
      above = λ a o. i.above a (those_in _ a m.acks o).0;
      epochs = i.epochs;
      verified = λ q a r e y o f.
          (let z = map_in_lem change y m.pending o in
          let e1 = ap (λ k. k.height) z.2 ∙ same-height z.0 in
          let own = owned q a r in
          ap (λ k. k.verified) z.2 ∙ as_before z.0 (λ w. none_yet q a (inl r) own e (sym f ∙ e1 ∙ w)) ∙ i.verified q a r e z.0 z.1 (sym e1 ∙ f));
      ended = λ q a r. (let l = i.ended q a r in let w = onward in omega arith);
    }
      where
        alike : (y z : Pending) → y.height ≡ z.height → y.verified ≡ z.verified → (change y).verified ≡ (change z).verified
        alike y z e f = cond_both (eqb y.height h) (record { height = h; verified = Some d }) y (λ k. k.verified ≡ (change z).verified)
            (λ q. sym (now_verified z (sym e ∙ eqb-true y.height h q))) (λ q. f ∙ sym (as_before z (λ w. eqb-false y.height h q (e ∙ w))))

        sized : (y : Pending) → SizedDigest y.verified → SizedDigest (change y).verified
        sized y z = cond_both (eqb y.height h) (record { height = h; verified = Some d }) y (λ k. SizedDigest k.verified) (λ _. ld) (λ _. z)

        onward : end (core m) ≤ end (core (cleared h d m))
        onward = high_map (λ y. y.height + 1) (λ y. y.height + 1) change _ m.pending (λ y. let e = same-height y in omega arith)

        owned : g ≡ true → (a : Ack) → Rec p s g (ack a) v → Own p s g a
        owned q a r = (Rattle.rules.proofs.Entries.source_of back p s g hist v i.jour (ack a) r).1

    reached : h < end (core (cleared h d m))
    reached =
        let l = high_of (λ (y : Pending). y.height + 1) (highest (λ c. c.height + 1) m.tip m.certs) x m.pending n in
        let w = high_map (λ y. y.height + 1) (λ y. y.height + 1) change (highest (λ c. c.height + 1) m.tip m.certs) m.pending (λ y. let e = same-height y in omega arith) in
        omega arith

    handing : (now : ℕ) → Ends back p law s g hist v (then (restore p s d (those (λ a. eqb a.height h) m.acks) (cleared h d m)) (sign_and_send p s now h d))
    handing now =
        ends_then back p law s g hist v (core (cleared h d m)) (restore p s d (those (λ a. eqb a.height h) m.acks) (cleared h d m)) (sign_and_send p s now h d)
        (restoring back p law s g d (those (λ a. eqb a.height h) m.acks) hist v (cleared h d m) cleared_inv (λ a o. i.acks a (those_in _ a m.acks o).0))
        (λ h1 u1 j st.
        let m2 = (restore p s d (those (λ a. eqb a.height h) m.acks) (cleared h d m)).mem in
        opt_both (Ends back p law s g h1 u1) (own_ack p m2 h d) (idle m2) _ (λ _. j)
        (λ a q.
        let k = mine p m2 h d a q in
        let lim : h ≤ 2 ^ 62 + 7 = (let u = i.under x n in let t = i.top in let w = i.wide in omega arith) in
        let far : h < end (core m2) = (let r = reached in let w = st.onward in omega arith) in
        let ver : g ≡ true → (y : Pending) → Memᴰ y m2.pending → y.height ≡ h → y.verified ≡ Some d = λ z y o e.
        (let c = map_in_lem change y m.pending (st.pending y o) in
        ap (λ k. k.verified) c.2 ∙ now_verified c.0 (sym (same-height c.0) ∙ ap (λ k. k.height) (sym c.2) ∙ e)) in
        let fresh : Fresh back p s g h1 u1 m2.epoch h d = λ z a o r e f. absurd (none_yet z a (st.fewer a o) r (e ∙ st.epoch) f) in
        let due = due_at (now + s.timeout) h m2 in
        wp_three (JInv p s g) (signing s a due).acts (store p s a due).acts (sending a (store p s a due).mem).acts h1 u1 _
        (wp_more (JInv p s g) (signing s a due).acts h1 u1 _ _
        (λ h2 u2 sg. store-send h1 u1 m2 h d a k j lim ld far ver fresh due (core_due (now + s.timeout) h m2) (λ y. y) (λ y. refl) h2 u2 sg)
        (sign_now h1 u1 m2 h d a k j lim ld far ver fresh))))

  pub handing_in : (hist : List Act) (v : Log) (m : Mem) (now h : ℕ) (d : Bytes) → Inv back p s g hist v (core m) → length d ≡ 32 → Ends back p law s g hist v (digest_for p s now h d m)
  handing_in hist v m now h d i ld =
      opt_both (Ends back p law s g hist v) (pending_at m h) (idle m) _ (λ _. i)
      (λ x q. opt_both (Ends back p law s g hist v) x.verified _ _
      (λ new. (let f = first_in (λ (y : Pending). eqb y.height h) m.pending x q in handing hist v m h d x i f.0 (eqb-true x.height h f.1) new ld now))
      (λ _ _. i))

  -- the rebroadcast of a height
  pub again : (hist : List Act) (v : Log) (m : Mem) (now h : ℕ) → Inv back p s g hist v (core m) → Ends back p law s g hist v (rebroadcast p s now h m)
  again hist v m now h i =
      opt_both (Ends back p law s g hist v) (pending_at m h) (idle m) _ (λ _. i)
      (λ x q. opt_both (Ends back p law s g hist v) x.verified (idle m) _ (λ _. i)
      (λ d w. opt_both (Ends back p law s g hist v) (own_ack p m h d) (idle m) _ (λ _. i)
      (λ a r.
      let f = first_in (λ (y : Pending). eqb y.height h) m.pending x q in
      let at = eqb-true x.height h f.1 in
      let k = mine p m h d a r in
      let agree : g ≡ true → (b : Ack) → Out p s g hist v b → Own p s g b → b.epoch ≡ m.epoch → b.height ≡ h → b.digest ≡ d = λ z b o y e n.
      (let c = no_other hist v m x i f.0 z b o y e (n ∙ sym at) in cc) in
      opt_both (Ends back p law s g hist v) (ack_of m h a.epoch a.signer) _ _
      (λ _.
      let lim : h ≤ 2 ^ 62 + 7 = (let u = i.under x f.0 in let t = i.top in let y = i.wide in omega arith) in
      let ld : length d ≡ 32 = subst SizedDigest w (i.digests x f.0) in
      let far : h < end (core m) = (let l = high_of (λ (y : Pending). y.height + 1) (highest (λ c. c.height + 1) m.tip m.certs) x m.pending f.0 in omega arith) in
      let ver : g ≡ true → (y : Pending) → Memᴰ y m.pending → y.height ≡ h → y.verified ≡ Some d = λ z y n e. i.same y x n f.0 (e ∙ sym at) ∙ w in
      wp_three (JInv p s g) (signing s a m).acts (store p s a m).acts (sending a (due_at (now + s.timeout) h (store p s a m).mem)).acts hist v _
      (wp_more (JInv p s g) (signing s a m).acts hist v _ _
      (λ h2 u2 sg. store-send hist v m h d a k i lim ld far ver agree m refl (due_at (now + s.timeout) h) (core_due (now + s.timeout) h) h2 u2 sg)
      (sign_now hist v m h d a k i lim ld far ver agree)))
      (λ b y.
      let c = first_in (λ (z : Ack). eqb z.height h && (eqb z.epoch a.epoch && eqb z.signer a.signer)) m.acks b y in
      let c1 = and_parts _ _ c.1 in
      let c2 = and_parts _ _ c1.1 in
      let bh = eqb-true b.height h c1.0 in
      let be = eqb-true b.epoch a.epoch c2.0 in
      let bs = eqb-true b.signer a.signer c2.1 in
      let mineb : Own p s g b = ap (own p) (be ∙ k.epoch) ∙ k.own ∙ ap Some (sym bs) in
      let src = i.acks b c.0 in
      let due = due_at (now + s.timeout) h m in
      let i2 : Inv back p s g hist v (core due) = subst (Inv back p s g hist v) (sym (core_due (now + s.timeout) h m)) i in
      to_send back p s g hist v (core due) due.tip b i2 (λ z. src.kept z mineb)
      (λ z e o n u t. agree z e o n (u ∙ be ∙ k.epoch) (t ∙ bh) ∙ sym (digest_of z b c.0 mineb bh (be ∙ k.epoch) agree))))))
    where
      digest_of : g ≡ true → (b : Ack) → Memᴰ b m.acks → Own p s g b → b.height ≡ h → b.epoch ≡ m.epoch → {d : Bytes} → (g ≡ true → (b : Ack) → Out p s g hist v b → Own p s g b → b.epoch ≡ m.epoch → b.height ≡ h → b.digest ≡ d) → b.digest ≡ d
      digest_of z b n o bh be agree = elim ((i.acks b n).kept z o) [
        | inl r ↦ agree z b (inl (r.0, dur_in _ _ v r.1)) o be bh
        | inr r ↦ absurd (not_passed back p s g hist v (core m) i b.height (i.above b n) r)
      ]
