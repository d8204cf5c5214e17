-- The pieces of which every rule is made keep the invariant: a certificate is announced, the tip moves, an ack is signed, an ack is sent. Assumes nothing.
use Rattle.std.proofs.Common.{◌≡◌, ℕ, ◌+◌, ◌^◌, ◌<◌, ◌≤◌, Bool, true, false, ltb, ◌⊎◌, List, [], ◌∷◌, ◌++◌, Some, sym, refl, ap, ◌∙◌, subst, inl, inr, arith, eq-eqb, eqb-true, leb-true}
use mathlib.Core.Bool.{false≢true}
use mathlib.Core.List.Memᴰ
use mathlib.Core.List.{Memᴰ}
use Rattle.std.proofs.lemmas.Bool.{cases_lt, le-leb}
use Rattle.forms.specs.Values.{Ack, Cert, Activity, ack, certified, tip}
use Rattle.journal.specs.Log.{Log, pruned}
use Rattle.journal.specs.Cuts.{Cut}
use Rattle.provider.specs.Answers.{Answers}
use Rattle.rules.specs.Lists.{any}
use Rattle.rules.specs.State.{Pending, Settings, Mem, low, section}
use Rattle.rules.specs.Acts.{Act, append, sync, prune, tell, send, drop_below, hear, sign, make}
use Rattle.rules.specs.Rules.{move, with_cert, announced, signed}
use Rattle.rules.proofs.Grow.{high_more, high_placed, next-dropped}
use Rattle.rules.proofs.Members.{those_in, in_those, placed_in, placed-here, any_in, in_any, of_height, any-placed}
use Rattle.rules.proofs.Recs.{Dur, dur_in, dur_pruned, pruned_in, cut_in, cut_keeps}
use Rattle.rules.proofs.Wp.{WP, wp_then}
use Rattle.rules.proofs.Ledger.{SizedAck, SizedCert, height_of_lem, loud, further, latest, quiet, lower-section, Own, place, Rec, RecD, Passed, Stands, ShownBy, Out, BackedBy, JInv, pruning, source_on, hush}
use Rattle.rules.proofs.Entries.{Back, Free, tells}
use Rattle.rules.proofs.Memory.{Core, core, end, upper_section, Sourced, Inv, Step, sourced_on, not_passed, Added, recording}

-- two kinds of activity are never one
pub apart : {A : Type 0} → ◌≡◌ {A = ℕ} 0 1 → A
apart z = absurd (omega arith)

module _ (back : Back) (p : Answers) (s : Settings) (g : Bool) where
  -- a certificate is recorded and told, for a height that has none
  module _ (hist : List Act) (v : Log) (m : Mem) (c : Cert) (i : Inv back p s g hist v (core m)) (size : SizedCert c) (bk : BackedBy p s g hist c) (l : low s m.tip ≤ c.height) (new : any (of_height c.height) m.certs ≡ false) where
    none_stands : (d : Cert) → Stands p s g hist v d → d.height ≡ c.height → d ≡ c
    none_stands d (inl r) e =
        let h = i.certs d r (omega arith) in
        absurd (false≢true (sym new ∙ ap (λ z. any (of_height z) m.certs) (sym e) ∙ h))
    none_stands d (inr t) e = elim (i.jour.told d t) [
      | inl r ↦ (let h = i.certs d (r.0, dur_in _ _ v r.1) (omega arith) in absurd (false≢true (sym new ∙ ap (λ z. any (of_height z) m.certs) (sym e) ∙ h)))
      | inr q ↦ absurd (not_passed back p s g hist v (core m) i d.height (omega arith) q)
    ]

    free : Free back p s g (hist ++ (make c ∷ [])) v (certified c)
    free d (inl r) e = none_stands d (inl r) e
    free d (inr t) e = none_stands d (inr (quiet hist (make c) (tell (certified d)) refl refl t)) e

    announce_step : (h : List Act) (u : Log) → Added back p s g (hist ++ (make c ∷ [])) v (certified c) h u → Step back p s g hist v (core m) (h ++ (tell (certified c) ∷ [])) u (core (with_cert c m))
    announce_step h u a = record {
      grown = λ y n. further (tell (certified c)) y (a.grown y (further (make c) y n));
      fewer = fewer;
      kept = λ x q. elim q [ inl r ↦ inl (a.kept x r) | inr r ↦ inr (r.0, a.kept (tip r.0) r.1, r.2) ];
      pending = λ x n. n;
      epoch = refl;
      onward = high_more (λ x. x.height + 1) _ _ m.pending (high_placed m.tip c m.certs);
    }
      where
        shown : (y : Act) → loud y ≡ true → (y ≡ tell (certified c) → ⊥) → Memᴰ y (h ++ (tell (certified c) ∷ [])) → Memᴰ y hist
        shown y q ne n = elim (Memᴰ.append_cases h n) [ inl o ↦ quiet hist (make c) y refl q (a.loudly y q o) | inr o ↦ absurd (ne (Memᴰ.eq_of_singleton o)) ]

        fewer : (x : Ack) → Out p s g (h ++ (tell (certified c) ∷ [])) u x → Out p s g hist v x
        fewer x (inl r) = elim (a.known (ack x) r) [ inl w ↦ inl w | inr e ↦ apart (cc) ]
        fewer x (inr (inl n)) = inr (inl (shown (tell (ack x)) refl (λ e. apart (cc)) n))
        fewer x (inr (inr (t, n))) = inr (inr (t, shown (send t x) refl (λ e. apart (cc)) n))

    announce_inv : (h : List Act) (u : Log) → Added back p s g (hist ++ (make c ∷ [])) v (certified c) h u → Inv back p s g (h ++ (tell (certified c) ∷ [])) u (core (with_cert c m))
    announce_inv h u a =
        let st = announce_step h u a in
        record {
          jour = tells back p s g h u a.jour (certified c) a.here;
          pos = i.pos;
          wide = i.wide;
          top = i.top;
          epoch = i.epoch;
          tips = λ t r. elim (a.known (tip t) r) [ inl w ↦ i.tips t w | inr e ↦ apart (cc) ];
          certs = λ d r o. elim (a.known (certified d) r) [
            | inl w ↦ any-placed d.height c m.certs (i.certs d w o)
            | inr e ↦ (let q : d ≡ c = cc in in_any (of_height d.height) c _ (eq-eqb c.height d.height (ap (λ z. z.height) (sym q))) (placed-here (λ (x y : Cert). ltb x.height y.height) c m.certs))
          ];
          high = λ d n. elim (placed_in (λ (x y : Cert). ltb x.height y.height) c d m.certs n) [ inl e ↦ subst (λ z. z.height < 2 ^ 62) (sym e) size.high | inr o ↦ i.high d o ];
          seats = i.seats;
          over = i.over;
          under = i.under;
          same = i.same;
          digests = i.digests;
          acks = λ x n. sourced_on back p s g hist v (core m) _ u (core (with_cert c m)) x st (i.acks x n);
          above = i.above;
          epochs = λ q x r. elim (a.known (ack x) r) [ inl w ↦ i.epochs q x w | inr e ↦ apart (cc) ];
          verified = λ q x r. elim (a.known (ack x) r) [ inl w ↦ i.verified q x w | inr e ↦ apart (cc) ];
          ended = λ q x r. elim (a.known (ack x) r) [ inl w ↦ (let y = i.ended q x w in let z = st.onward in omega arith) | inr e ↦ apart (cc) ];
        }

    abbrev Announced : List Act → Log → Type 0
    Announced h u = Inv back p s g h u (core (with_cert c m)) × Step back p s g hist v (core m) h u (core (with_cert c m))

    pub announcing : WP (JInv p s g) (announced s c (with_cert c m)).acts hist v (λ h u. Inv back p s g h u (core (with_cert c m)) × Step back p s g hist v (core m) h u (core (with_cert c m)))
    announcing = (
      λ room r w z. absurd z,
      λ _.
          wp_then (JInv p s g) (append (place p s g (certified c)) (certified c) ∷ sync (place p s g (certified c)) ∷ []) (tell (certified c) ∷ []) (hist ++ (make c ∷ [])) v Announced
          (recording back p s g (hist ++ (make c ∷ [])) v (certified c) (λ h u. WP (JInv p s g) (tell (certified c) ∷ []) h u Announced) (hush p s g hist v (make c) i.jour refl) size (source_on p s g hist (make c) (certified c) bk) free
          (λ h u a. (λ room r w z. absurd z, λ _. (announce_inv h u a, announce_step h u a)))),
    )

  -- the tip moves up to t
  module _ (hist : List Act) (v : Log) (m : Mem) (t : ℕ) (i : Inv back p s g hist v (core m)) (up : m.tip < t) (lim : t ≤ 2 ^ 62) where
    abbrev b : ℕ
    b = section s (low s t)

    here : section s (low s t) ≤ section s t
    here = upper_section (low s t) t s.per_section i.pos (omega arith)

    module _ (h : List Act) (u : Log) (a : Added back p s g (hist ++ (drop_below (low s t) ∷ [])) v (tip t) h u) where
      -- no recorded tip is higher
      tops : (k : ℕ) → Rec p s g (tip k) u → k ≤ t
      tops k r = elim (a.known (tip k) r) [ inl w ↦ (let z = i.tips k w in omega arith) | inr e ↦ (let z : k ≡ t = cc in omega arith) ]

      told_inv : JInv p s g (h ++ (tell (tip t) ∷ [])) u
      told_inv = hush p s g h u (tell (tip t)) a.jour refl

      stop_prune : (w : Log) → Cut (section s (low s t)) u w → JInv p s g (h ++ (tell (tip t) ∷ [])) w
      stop_prune w c =
          pruning p s g (h ++ (tell (tip t) ∷ [])) u w t i.pos told_inv
          (a.here.0, elim (cut_keeps (section s (low s t)) _ _ u w c a.here.1) [ inl z ↦ z | inr z ↦ absurd (let q = here in omega arith) ])
          tops (λ k x n. cut_in (section s (low s t)) k x u w c n) (λ k x n. cut_keeps (section s (low s t)) k x u w c n)

      stays : (k : ℕ) (x : List ℕ) → Dur k x u → Dur k x (pruned (section s (low s t)) u) ⊎ (k < section s (low s t))
      stays k x n = elim (cases_lt k (section s (low s t))) [ inl z ↦ inr z | inr z ↦ inl (dur_pruned (section s (low s t)) k x u z n) ]

      tip_there : RecD p s g (tip t) (pruned (section s (low s t)) u)
      tip_there = (a.here.0, dur_pruned (section s (low s t)) _ _ u here a.here.1)

      pruned_inv : JInv p s g ((h ++ (tell (tip t) ∷ [])) ++ (prune (section s (low s t)) ∷ [])) (pruned (section s (low s t)) u)
      pruned_inv =
          hush p s g (h ++ (tell (tip t) ∷ [])) _ (prune (section s (low s t)))
          (pruning p s g (h ++ (tell (tip t) ∷ [])) u (pruned (section s (low s t)) u) t i.pos told_inv tip_there tops (λ k x n. pruned_in (section s (low s t)) k x u n) stays) refl

      was : (y : Activity) → Rec p s g y (pruned (section s (low s t)) u) → Rec p s g y v ⊎ (y ≡ tip t)
      was y r = a.known y (r.0, pruned_in (section s (low s t)) _ _ u r.1)

      move_step : Step back p s g hist v (core m) ((h ++ (tell (tip t) ∷ [])) ++ (prune (section s (low s t)) ∷ [])) (pruned (section s (low s t)) u) (core (move s t m).mem)
      move_step = record {
        grown = λ y n. further (prune (section s (low s t))) y (further (tell (tip t)) y (a.grown y (further (drop_below (low s t)) y n)));
        fewer = fewer;
        kept = λ x q. elim q [ inl r ↦ keep x r | inr r ↦ inr (t, tip_there, passing (height_of_lem x) r) ];
        pending = λ x n. (those_in _ x m.pending n).0;
        epoch = refl;
        onward = next-dropped (low s t) t m (omega arith) (omega arith);
      }
        where
          shown : (y : Act) → loud y ≡ true → Memᴰ y ((h ++ (tell (tip t) ∷ [])) ++ (prune (section s (low s t)) ∷ [])) → Memᴰ y hist
          shown y q n = quiet hist (drop_below (low s t)) y refl q (a.loudly y q (quiet h (tell (tip t)) y refl q (quiet (h ++ (tell (tip t) ∷ [])) (prune (section s (low s t))) y refl q n)))

          fewer : (x : Ack) → Out p s g ((h ++ (tell (tip t) ∷ [])) ++ (prune (section s (low s t)) ∷ [])) (pruned (section s (low s t)) u) x → Out p s g hist v x
          fewer x (inl r) = elim (was (ack x) r) [ inl w ↦ inl w | inr e ↦ apart (cc) ]
          fewer x (inr (inl n)) = inr (inl (shown (tell (ack x)) refl n))
          fewer x (inr (inr (k, n))) = inr (inr (k, shown (send k x) refl n))

          keep : (x : Activity) → RecD p s g x v → RecD p s g x (pruned (section s (low s t)) u) ⊎ Passed p s g (height_of_lem x) (pruned (section s (low s t)) u)
          keep x r = elim (stays _ _ (a.kept x r).1) [ inl z ↦ inl (r.0, z) | inr z ↦ inr (t, tip_there, lower-section (height_of_lem x) (low s t) s.per_section i.pos z) ]

          passing : (k : ℕ) → Passed p s g k v → k < low s t
          passing k (o, d, z) = let q = i.tips o (d.0, dur_in _ _ v d.1) in omega arith

      move_inv : Inv back p s g ((h ++ (tell (tip t) ∷ [])) ++ (prune (section s (low s t)) ∷ [])) (pruned (section s (low s t)) u) (core (move s t m).mem)
      move_inv =
          let st = move_step in
          record {
            jour = pruned_inv;
            pos = i.pos;
            wide = i.wide;
            top = lim;
            epoch = i.epoch;
            tips = λ k r. tops k (r.0, pruned_in (section s (low s t)) _ _ u r.1);
            certs = λ d r o. elim (was (certified d) r) [
              | inl w ↦ (let q = any_in _ m.certs (i.certs d w (omega arith)) in let e = eqb-true q.0.height d.height q.2 in
                  in_any (of_height d.height) q.0 _ q.2 (in_those _ q.0 m.certs (le-leb (low s t) q.0.height (omega arith)) q.1))
              | inr e ↦ apart (cc)
            ];
            high = λ d n. i.high d (those_in _ d m.certs n).0;
            seats = i.seats;
            over = λ x n. leb-true (low s t) x.height (those_in _ x m.pending n).1;
            under = λ x n. (let q = i.under x (those_in _ x m.pending n).0 in omega arith);
            same = λ x y n o e. i.same x y (those_in _ x m.pending n).0 (those_in _ y m.pending o).0 e;
            digests = λ x n. i.digests x (those_in _ x m.pending n).0;
            acks = λ x n. sourced_on back p s g hist v (core m) _ _ (core (move s t m).mem) x st (i.acks x (those_in _ x m.acks n).0);
            above = λ x n. leb-true (low s t) x.height (those_in _ x m.acks n).1;
            epochs = λ q x r. elim (was (ack x) r) [ inl w ↦ i.epochs q x w | inr e ↦ apart (cc) ];
            verified = λ q x r f y n. elim (was (ack x) r) [ inl w ↦ i.verified q x w f y (those_in _ y m.pending n).0 | inr e ↦ apart (cc) ];
            ended = λ q x r. elim (was (ack x) r) [ inl w ↦ (let y = i.ended q x w in let z = st.onward in omega arith) | inr e ↦ apart (cc) ];
          }

    abbrev Moved : List Act → Log → Type 0
    Moved h u = Inv back p s g h u (core (move s t m).mem) × Step back p s g hist v (core m) h u (core (move s t m).mem)

    pub moving : WP (JInv p s g) (move s t m).acts hist v (λ h u. Inv back p s g h u (core (move s t m).mem) × Step back p s g hist v (core m) h u (core (move s t m).mem))
    moving = (
      λ room r w z. absurd z,
      λ _.
          wp_then (JInv p s g) (append (place p s g (tip t)) (tip t) ∷ sync (place p s g (tip t)) ∷ []) (tell (tip t) ∷ prune (section s (low s t)) ∷ []) (hist ++ (drop_below (low s t) ∷ [])) v Moved
          (recording back p s g (hist ++ (drop_below (low s t) ∷ [])) v (tip t) (λ h u. WP (JInv p s g) (tell (tip t) ∷ prune (section s (low s t)) ∷ []) h u Moved) (hush p s g hist v (drop_below (low s t)) i.jour refl) lim tt tt
          (λ h u a. (λ room r w z. absurd z, λ _. (λ room r w z. stop_prune h u a w z.1, λ _. (move_inv h u a, move_step h u a))))),
    )

  -- an own ack that is shown agrees with all others of its epoch and height
  abbrev pub Fresh : List Act → Log → ℕ → ℕ → List ℕ → Type 0
  Fresh hist v e n d = g ≡ true → (x : Ack) → Out p s g hist v x → Own p s g x → x.epoch ≡ e → x.height ≡ n → x.digest ≡ d

  -- an own ack is signed, recorded and made durable
  pub record Signed (hist : List Act) (v : Log) (k : Core) (a : Ack) (hist' : List Act) (w : Log) : Type 0 where
    pub inv : Inv back p s g hist' w k
    pub sourced : Sourced back p s g hist' w a
    pub fresh : Fresh hist' w a.epoch a.height a.digest

  module _ (hist : List Act) (v : Log) (m : Mem) (a : Ack) (i : Inv back p s g hist v (core m)) (size : SizedAck a) (mine : Own p s g a) (e : a.epoch ≡ m.epoch) (l : a.height < end (core m))
      (ver : g ≡ true → (x : Pending) → Memᴰ x m.pending → x.height ≡ a.height → x.verified ≡ Some a.digest) (fresh : Fresh hist v a.epoch a.height a.digest) where
    abbrev hist2 : List Act
    hist2 = hist ++ (sign a ∷ [])

    fresh2 : Fresh (hist ++ (sign a ∷ [])) v a.epoch a.height a.digest
    fresh2 q x (inl r) = fresh q x (inl r)
    fresh2 q x (inr (inl n)) = fresh q x (inr (inl (quiet hist (sign a) (tell (ack x)) refl refl n)))
    fresh2 q x (inr (inr (t, n))) = fresh q x (inr (inr (t, quiet hist (sign a) (send t x) refl refl n)))

    after : (h : List Act) (u : Log) → Added back p s g (hist ++ (sign a ∷ [])) v (ack a) h u → Signed hist v (core m) a h u
    after h u d = record {
      inv = record {
        jour = d.jour;
        pos = i.pos;
        wide = i.wide;
        top = i.top;
        epoch = i.epoch;
        tips = λ t r. elim (d.known (tip t) r) [ inl w ↦ i.tips t w | inr z ↦ apart (cc) ];
        certs = λ c r. elim (d.known (certified c) r) [ inl w ↦ i.certs c w | inr z ↦ apart (cc) ];
        high = i.high;
        seats = i.seats;
        over = i.over;
        under = i.under;
        same = i.same;
        digests = i.digests;
        acks = λ x n. (let c = i.acks x n in record {
          sized = c.sized;
          source = elim c.source [ inl o ↦ inl (on (hear x) o) | inr o ↦ inr (on (sign x) o) ];
          high = c.high;
          kept = λ q o. elim (c.kept q o) [ inl r ↦ inl (d.kept (ack x) r) | inr r ↦ inr (r.0, d.kept (tip r.0) r.1, r.2) ];
        });
        above = i.above;
        epochs = λ q x r. elim (d.known (ack x) r) [ inl w ↦ i.epochs q x w | inr z ↦ (let y : x ≡ a = cc in let f = ap (λ k. k.epoch) y in omega (arith, e)) ];
        verified = λ q x r f y n o. elim (d.known (ack x) r) [ inl w ↦ i.verified q x w f y n o | inr z ↦ (let k : x ≡ a = cc in ver q y n (o ∙ ap (λ c. c.height) k) ∙ ap (λ c. Some c.digest) (sym k)) ];
        ended = λ q x r. elim (d.known (ack x) r) [ inl w ↦ i.ended q x w | inr z ↦ (let y : x ≡ a = cc in let f = ap (λ k. k.height) y in omega (arith, l)) ];
      };
      sourced = record { sized = size; source = inr (d.grown (sign a) (latest hist (sign a))); high = λ _. mine; kept = λ _ _. inl d.here };
      fresh = agree;
    }
      where
        on : (y : Act) → Memᴰ y hist → Memᴰ y h
        on y n = d.grown y (further (sign a) y n)

        agree : Fresh h u a.epoch a.height a.digest
        agree q x (inl r) = λ o f k. elim (d.known (ack x) r) [ inl w ↦ fresh2 q x (inl w) o f k | inr z ↦ (let y : x ≡ a = cc in ap (λ c. c.digest) y) ]
        agree q x (inr (inl n)) = fresh2 q x (inr (inl (d.loudly (tell (ack x)) refl n)))
        agree q x (inr (inr (t, n))) = fresh2 q x (inr (inr (t, d.loudly (send t x) refl n)))

    pub to_sign : WP (JInv p s g) (signed s a) hist v (Signed hist v (core m) a)
    to_sign = (
      λ room r w z. absurd z,
      λ _.
          recording back p s g (hist ++ (sign a ∷ [])) v (ack a) _ (hush p s g hist v (sign a) i.jour refl) size (latest hist (sign a), mine)
          (λ q x o r f k. fresh2 q x o r f k) after,
    )

  -- an own ack is sent
  module _ (hist : List Act) (v : Log) (k : Core) (t : ℕ) (a : Ack) (i : Inv back p s g hist v k) (kept : g ≡ true → RecD p s g (ack a) v ⊎ Passed p s g a.height v) (fresh : Fresh hist v a.epoch a.height a.digest) where
    said : (y : Act) → (y ≡ send t a → ⊥) → Memᴰ y (hist ++ (send t a ∷ [])) → Memᴰ y hist
    said y ne n = elim (Memᴰ.append_cases hist n) [ inl o ↦ o | inr o ↦ absurd (ne (Memᴰ.eq_of_singleton o)) ]

    out : (x : Ack) → Out p s g (hist ++ (send t a ∷ [])) v x → Out p s g hist v x ⊎ (x ≡ a)
    out x (inl r) = inl (inl r)
    out x (inr (inl n)) = inl (inr (inl (said (tell (ack x)) (λ e. apart (cc)) n)))
    out x (inr (inr (o, n))) = elim (Memᴰ.append_cases hist n) [ inl z ↦ inl (inr (inr (o, z))) | inr z ↦ (let e = Memᴰ.eq_of_singleton z in inr (cc)) ]

    agree : g ≡ true → (x y : Ack) → Out p s g hist v x ⊎ (x ≡ a) → Out p s g hist v y ⊎ (y ≡ a) → Own p s g x → Own p s g y → x.epoch ≡ y.epoch → x.height ≡ y.height → x.digest ≡ y.digest
    agree q x y (inl m) (inl n) o r e h = i.jour.agree q x y m n o r e h
    agree q x y (inl m) (inr n) o r e h = fresh q x m o (e ∙ ap (λ z. z.epoch) n) (h ∙ ap (λ z. z.height) n) ∙ ap (λ z. z.digest) (sym n)
    agree q x y (inr m) (inl n) o r e h = ap (λ z. z.digest) m ∙ sym (fresh q y n r (sym e ∙ ap (λ z. z.epoch) m) (sym h ∙ ap (λ z. z.height) m))
    agree q x y (inr m) (inr n) o r e h = ap (λ z. z.digest) (m ∙ sym n)

    sent_jour : JInv p s g (hist ++ (send t a ∷ [])) v
    sent_jour = record {
      form = λ n b z. (let f = i.jour.form n b z in (f.0, f.1, f.2, f.3, source_on p s g hist (send t a) f.0 f.4));
      one = λ c d x y e. i.jour.one c d (stand c x) (stand d y) e;
      told = λ c n. i.jour.told c (said (tell (certified c)) (λ e. apart (cc)) n);
      backed = λ c n. source_on p s g hist (send t a) (certified c) (i.jour.backed c (said (tell (certified c)) (λ e. apart (cc)) n));
      agree = λ q x y m n. agree q x y (out x m) (out y n);
      shown = λ q x m o. shown q x m (out x (inr m)) o;
    }
      where
        stand : (c : Cert) → Stands p s g (hist ++ (send t a ∷ [])) v c → Stands p s g hist v c
        stand c (inl u) = inl u
        stand c (inr u) = inr (said (tell (certified c)) (λ e. apart (cc)) u)

        shown : g ≡ true → (x : Ack) → ShownBy p s g (hist ++ (send t a ∷ [])) x → Out p s g hist v x ⊎ (x ≡ a) → Own p s g x → RecD p s g (ack x) v ⊎ Passed p s g x.height v
        shown q x (inl n) w o = i.jour.shown q x (inl (said (tell (ack x)) (λ e. apart (cc)) n)) o
        shown q x (inr (k, n)) w o = elim (Memᴰ.append_cases hist n) [
          | inl z ↦ i.jour.shown q x (inr (k, z)) o
          | inr z ↦ (let e = Memᴰ.eq_of_singleton z in let f : x ≡ a = cc in subst (λ y. RecD p s g (ack y) v ⊎ Passed p s g y.height v) (sym f) (kept q))
        ]

    pub to_send : WP (JInv p s g) (send t a ∷ []) hist v (λ h u. Inv back p s g h u k)
    to_send = (
      λ room r w z. absurd z,
      λ _. record {
        jour = sent_jour;
        pos = i.pos;
        wide = i.wide;
        top = i.top;
        epoch = i.epoch;
        tips = i.tips;
        certs = i.certs;
        high = i.high;
        seats = i.seats;
        over = i.over;
        under = i.under;
        same = i.same;
        digests = i.digests;
        acks = λ x n. (let c = i.acks x n in record {
          sized = c.sized;
          source = elim c.source [ inl o ↦ inl (further (send t a) (hear x) o) | inr o ↦ inr (further (send t a) (sign x) o) ];
          high = c.high;
          kept = c.kept;
        });
        above = i.above;
        epochs = i.epochs;
        verified = i.verified;
        ended = i.ended;
      },
    )
