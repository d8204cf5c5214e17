-- What acts write, and how long it is. Assumes nothing.
use Rattle.std.proofs.Common.{◌≡◌, ℕ, zero, suc, ◌+◌, ◌^◌, ◌<◌, ◌≤◌, Bool, true, false, cond, not, ◌||◌, eqb, ltb, leb, ◌⊎◌, List, [], ◌∷◌, ◌++◌, map, length, is_some, Some, None, Option, sym, refl, ap, ◌∙◌, subst, inl, inr, ⊎_elim, arith, length-append, All}
use Rattle.std.proofs.lemmas.List.Elements.{All-head, All-tail}
use Rattle.std.proofs.lemmas.Bool.{cond_both, cases_Bool, both_ways, eqb-true, eq-eqb, ne_eqb, leb-true, leb-false, le-leb, or_parts, or_left, or_right, not-false}
use Rattle.forms.specs.Values.{Ack, Cert, certified, tip}
use Rattle.forms.proofs.Spelling.{spell-few}
use Rattle.forms.proofs.Lengths.{length-ack, length-certified, length-tip, length-message}
use Rattle.tips.specs.Faults.{quorum}
use Rattle.provider.specs.Answers.{Answers}
use Rattle.provider.specs.Laws.{Lawful}
use Rattle.rules.specs.Lists.{those, first, any, placed}
use Rattle.rules.specs.State.{Bytes, Settings, Mem, low, pending_at, is_pending, is_certified, ack_of, differs, ack_below}
use Rattle.rules.specs.Acts.{Act, tell, send}
use Rattle.rules.specs.Rules.{Work, idle, then, keys, attested, move, first_free, with_cert, with_acks, announced, certify, agreeing, assembled, counted, store}
use Rattle.rules.specs.Output.{written, output}
use Rattle.rules.specs.Room.{Formed}
use Rattle.rules.proofs.Calm.{by_cond, by_opt}
use Rattle.rules.proofs.Tables.{all_everything, all-those, all_sieved, all_placed}

abbrev pub size : List Act → ℕ
size acts = length (output acts)

pub size-append : (xs ys : List Act) → size (xs ++ ys) ≡ size xs + size ys
size-append [] ys = omega arith
size-append (x ∷ xs) ys = omega (arith, length-append (written x) (output (xs ++ ys)), length-append (written x) (output xs), size-append xs ys)

-- no number that is written is larger
abbrev pub top : ℕ
top = 2 ^ 63 + 8

size-tip : (t : ℕ) → t ≤ top → length (written (tell (tip t))) ≤ 14
size-tip t l = omega (arith, length-tip t, spell-few t (omega arith))

size-cert : (c : Cert) → c.height ≤ top → length c.digest ≡ 32 → length c.bytes ≤ 1026 → length (written (tell (certified c))) ≤ 1072
size-cert c l d b = omega (arith, length-certified c, spell-few c.height (omega arith))

pub size_send : (t : ℕ) (a : Ack) → t ≤ top → a.height ≤ top → Formed a → length (written (send t a)) ≤ 139
size_send t a l h f =
    omega (arith, length-message (record { tip = t; ack = a }), length-ack a, spell-few t (omega arith), spell-few a.height (omega arith), spell-few a.epoch f.epoch, spell-few a.signer (omega (arith, f.signer)), f.digest, f.signature)

-- the tip and the certified heights
pub record U (t : ℕ) (cs : List Cert) : Type 0 where
  pub tip : t ≤ top
  pub certs : All (λ c. c.height < top) cs

-- nothing more is certified at a height: it is certified, or no longer pending
abbrev pub Spent : ℕ → Mem → Type 0
Spent h m = (is_certified m h ≡ true) ⊎ (is_pending m h ≡ false)

-- a piece of work that certifies a height once at most
pub record Q (h : ℕ) (m : Mem) (w : Work) : Type 0 where
  pub most : size w.acts ≤ 1086
  pub small : U w.mem.tip w.mem.certs
  pub spent : Spent h m → (size w.acts ≡ 0) × Spent h w.mem
  pub used : (size w.acts ≡ 0) ⊎ Spent h w.mem

pub q_idle : (h : ℕ) (m : Mem) → U m.tip m.certs → Q h m (idle m)
q_idle h m u = record { most = omega arith; small = u; spent = λ x. (refl, x); used = inl refl }

pub q_then : (h : ℕ) (m : Mem) (w : Work) (f : Mem → Work) → Q h m w → (U w.mem.tip w.mem.certs → Q h w.mem (f w.mem)) → Q h m (then w f)
q_then h m w f q g =
    let r = g q.small in
    let z = size-append w.acts (f w.mem).acts in
    record {
      most = ⊎_elim (λ e. omega (arith, e, r.most, z)) (λ x. let y = r.spent x in omega (arith, y.0, q.most, z)) q.used;
      small = r.small;
      spent = λ x. let y = q.spent x in let v = r.spent y.1 in (omega (arith, y.0, v.0, z), v.1);
      used = ⊎_elim (λ e. ⊎_elim (λ d. inl (omega (arith, e, d, z))) inr r.used) (λ x. inr (r.spent x).1) q.used;
    }

-- lists
any-placed : {X : Type 0} (below : X → X → Bool) (p : X → Bool) (x : X) (xs : List X) → p x ≡ true → any p (placed below x xs) ≡ true
any-placed {X = X} below p x [] e = or_left (p x) false e
any-placed {X = X} below p x (y ∷ ys) e =
    let P : List X → Type 0 = λ l. any p l ≡ true in
    by_cond P (below x y) (x ∷ y ∷ ys) _ (or_left (p x) _ e) (by_cond P (below y x) (y ∷ placed below x ys) (x ∷ ys) (or_right (p y) (any p (placed below x ys)) (any-placed below p x ys e)) (or_left (p x) (any p ys) e))

any-those : {X : Type 0} (p q : X → Bool) → ((x : X) → p x ≡ true → q x ≡ true) → (xs : List X) → any p xs ≡ true → any p (those q xs) ≡ true
any-those p q h [] e = e
any-those p q h (x ∷ xs) e = go (p x) refl (any-those p q h xs)
  where
    go : (b : Bool) → p x ≡ b → (any p xs ≡ true → any p (those q xs) ≡ true) → any p (those q (x ∷ xs)) ≡ true
    go true f g = subst (λ z. any p (cond z (x ∷ those q xs) (those q xs)) ≡ true) (sym (h x f)) (or_left (p x) (any p (those q xs)) f)
    go false f g =
        let i = g (ap (λ z. z || any p xs) (sym f) ∙ e) in
        by_cond (λ l. any p l ≡ true) (q x) (x ∷ those q xs) (those q xs) (ap (λ z. z || any p (those q xs)) f ∙ i) i

any_below : (h n : ℕ) (cs : List Cert) → All (λ c. c.height < n) cs → any (λ c. eqb c.height h) cs ≡ true → h < n
any_below h n [] l e = let z : ◌≡◌ {A = ℕ} 0 1 = cc in absurd (omega arith)
any_below h n (c ∷ cs) l e =
    let P : Cert → Type 0 = λ c. c.height < n in
    let k = All-head P c cs l in
    ⊎_elim (λ f. let u = eqb-true c.height h f in omega arith) (λ f. any_below h n cs (All-tail P c cs l) (ap (λ z. z || any (λ c. eqb c.height h) cs) (sym f) ∙ e)) (cases_Bool (eqb c.height h))

none_first : {X : Type 0} (p : X → Bool) (xs : List X) → All (λ x. p x ≡ false) xs → is_some (first p xs) ≡ false
none_first p [] l = refl
none_first p (x ∷ xs) l =
    let k = All-head (λ x. p x ≡ false) x xs l in
    let r = All-tail (λ x. p x ≡ false) x xs l in
    ap (λ z. is_some (cond z (Some x) (first p xs))) k ∙ none_first p xs r

free-below : (n t : ℕ) (m : Mem) → t ≤ top → All (λ c. c.height < top) m.certs → first_free n t m ≤ top
free-below zero t m l a = l
free-below (suc n) t m l a =
    cond_both (is_certified m t) (first_free n (t + 1) m) t (λ z. z ≤ top) (λ q. let u = any_below t top m.certs a q in free-below n (t + 1) m (omega arith) a) (λ _. l)

-- the move that may follow a certificate
record R (h : ℕ) (w : Work) : Type 0 where
  most : size w.acts ≤ 14
  small : U w.mem.tip w.mem.certs
  spent : Spent h w.mem

pub u_move : (s : Settings) (t : ℕ) (m : Mem) → t ≤ top → U m.tip m.certs → U t (those (λ c. leb (low s t) c.height) m.certs)
u_move s t m l u = record { tip = l; certs = all-those (λ c. c.height < top) (λ c. leb (low s t) c.height) m.certs u.certs }

pub size-move : (s : Settings) (t : ℕ) (m : Mem) → t ≤ top → size (move s t m).acts ≤ 14
size-move s t m l = omega (arith, size-tip t l, length-append (written (tell (tip t))) [])

r_move : (s : Settings) (h t : ℕ) (m : Mem) → t ≤ top → U m.tip m.certs → is_certified m h ≡ true → R h (move s t m)
r_move s h t m l u q =
    let b = low s t in
    record {
      most = size-move s t m l;
      small = u_move s t m l u;
      spent = ⊎_elim
          (λ e. inl (any-those (λ c. eqb c.height h) (λ c. leb b c.height) (λ c f. let v = eqb-true c.height h f in let w = leb-true b h e in le-leb b c.height (omega arith)) m.certs q))
          (λ e. inr (none_first (λ x. eqb x.height h) (those (λ x. leb b x.height) m.pending)
          (all_sieved (λ _. Unit {0}) _ (λ x. leb b x.height) (λ x f _. let v = leb-true b x.height f in let w = leb-false b h e in ne_eqb x.height h (λ g. omega arith)) m.pending (all_everything m.pending))))
          (cases_Bool (leb b h));
    }

module _ (p : Answers) (lawful : Lawful p) (s : Settings) where
  q_certify : (c : Cert) (m : Mem) → c.height < top → length c.digest ≡ 32 → length c.bytes ≤ 1026 → is_pending m c.height ≡ true → U m.tip m.certs → Q c.height m (certify s c m)
  q_certify c m l d b pend u =
      let h = c.height in
      let n = with_cert c m in
      let un : U n.tip n.certs = record { tip = u.tip; certs = all_placed (λ c. c.height < top) (λ a b. ltb a.height b.height) c m.certs l u.certs } in
      let t = first_free (length n.certs) (h + 1) n in
      let got : is_certified n h ≡ true = any-placed (λ a b. ltb a.height b.height) (λ x. eqb x.height h) c m.certs (eq-eqb h h refl) in
      let r : R h (cond (eqb h n.tip) (move s t n) (idle n)) =
      by_cond (R h) (eqb h n.tip) _ _ (r_move s h t n (free-below (length n.certs) (h + 1) n (omega arith) un.certs) un got) (record { most = omega arith; small = un; spent = inl got }) in
      cond_both (is_certified m h) (idle m) _ (Q h m) (λ _. q_idle h m u) (λ q.
      record {
        most = omega (arith, r.most, size-cert c (omega arith) d b, size-append (announced s c n).acts (cond (eqb h n.tip) (move s t n) (idle n)).acts, length-append (written (tell (certified c))) []);
        small = r.small;
        spent = λ x. absurd (⊎_elim (λ f. both_ways (is_certified m h) q f) (λ f. both_ways (is_pending m h) f pend) x);
        used = inr r.spent;
      })

  q_assembled : (a : Ack) (o : Option Bytes) (m : Mem) → ((c : Bytes) → o ≡ Some c → length c ≤ 1026) → a.height < top → length a.digest ≡ 32 → is_pending m a.height ≡ true → U m.tip m.certs → Q a.height m (assembled s a o m)
  q_assembled a None m f l d pend u = record { most = omega arith; small = u; spent = λ x. (refl, x); used = inl refl }
  q_assembled a (Some c) m f l d pend u = q_certify (record { height = a.height; digest = a.digest; bytes = c }) m l d (f c refl) pend u

  q_counted : (a : Ack) (k : ℕ) (m : Mem) → a.height < top → length a.digest ≡ 32 → is_pending m a.height ≡ true → U m.tip m.certs → Q a.height m (counted p s a k m)
  q_counted a k m l d pend u =
      by_cond (Q a.height m) (leb (quorum k) (length (agreeing a m.acks))) _ _
      (q_assembled a (p.signing.assemble a.epoch (map attested (agreeing a m.acks))) m (λ c e. (lawful.no_other a.epoch (map attested (agreeing a m.acks)) c e).3) l d pend u) (q_idle a.height m u)

  q_new : (a : Ack) (k : ℕ) (m : Mem) → a.height < top → length a.digest ≡ 32 → is_pending m a.height ≡ true → U m.tip m.certs → Q a.height m (counted p s a k (with_acks (placed ack_below a m.acks) m))
  q_new a k m l d pend u =
      let q = q_counted a k (with_acks (placed ack_below a m.acks) m) l d pend u in
      record { most = q.most; small = q.small; spent = q.spent; used = q.used }

  pub q_store : (a : Ack) (m : Mem) → a.height < top → length a.digest ≡ 32 → U m.tip m.certs → Q a.height m (store p s a m)
  q_store a m l d u =
      by_opt (Q a.height m) (keys p a.epoch) _ _ (q_idle a.height m u) (λ ks.
      cond_both (not (is_pending m a.height) || differs (pending_at m a.height) a.digest) (idle m) _ (Q a.height m) (λ _. q_idle a.height m u) (λ q.
      let pend = not-false (is_pending m a.height) (or_parts (not (is_pending m a.height)) (differs (pending_at m a.height) a.digest) q).0 in
      by_opt (Q a.height m) (ack_of m a.height a.epoch a.signer) _ _ (q_new a (length ks) m l d pend u) (λ b. q_idle a.height m u)))
