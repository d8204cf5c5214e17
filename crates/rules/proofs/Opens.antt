-- An opening makes a memory that keeps the invariant with its journal. Assumes nothing.
use Rattle.std.proofs.Common.{◌≡◌, ℕ, zero, suc, ◌+◌, ◌-◌, ◌^◌, ◌<◌, ◌≤◌, Bool, true, false, not, ◌&&◌, eqb, leb, ◌⊎◌, List, [], ◌∷◌, ◌++◌, map, Some, None, Option, sym, refl, ap, ◌∙◌, subst, inl, inr, arith, eq-eqb, eqb-true, leb-false, leb-true}
use mathlib.Core.List.Memᴰ
use mathlib.Core.List.{Memᴰ}
use Rattle.std.proofs.lemmas.Bool.{cond_both, cases_lt, cases_Bool, le-leb, and_parts, and_from, or_parts, or_left, not-false, not-true, both_ways}
use Rattle.std.specs.Str.{bytes_eq}
use Rattle.forms.specs.Values.{Ack, Cert, Activity, ack, certified, tip}
use Rattle.forms.specs.Reading as forms
use Rattle.forms.specs.Writing.{write}
use Rattle.journal.specs.Log.{Log, Bytes, Placed, reading, all_synced}
use Rattle.provider.specs.Answers.{Answers}
use Rattle.provider.specs.Laws.{Lawful}
use Rattle.rules.specs.Lists.{those, first, any, opt, highest, from, placed}
use Rattle.rules.specs.State.{Seat, Pending, Settings, allowed, Mem, shut, low, ack_below}
use Rattle.rules.specs.Acts.{Act, read, tell}
use Rattle.rules.specs.Rules.{own}
use Rattle.rules.specs.Plans.{After, stays, runs, closes, Plan, Answer, refused, bad_record, or_refuse}
use Rattle.rules.specs.Opening.{keys_of, tips_in, certs_in, acks_in, tabled, top_of, cert_below, certs_left, acks_left, found, is_of, own_digest, kept_acks, is_left, heights_left, opened, too_far, found_tests, found_refusal, open_with, unreadable, open_from, before, opening_tests, opening_refusal, plan_opening}
use Rattle.rules.proofs.Grow.{high_base}
use Rattle.rules.proofs.Members.{those_in, in_those, placed_in, placed-here, first_in, first_none, any_in, in_any, map_in_lem, of_height, any-placed, from_in, in_from}
use Rattle.rules.proofs.Recs.{In, all_in, new-all, dur_in, reading_in, in_reading}
use Rattle.rules.proofs.Wp.{WP, wp_more}
use Rattle.rules.proofs.Ledger.{Rec, RecD, JInv, hush, less}
use Rattle.rules.proofs.Entries.{Back, same-entry, tells, source_of}
use Rattle.rules.proofs.Memory.{core, end, SizedDigest, Inv, stop_sync}
use Rattle.rules.proofs.Moves.{apart}
use Rattle.rules.proofs.Keeps.{opt_both}
use Rattle.rules.proofs.Digests.{high_of}
use Rattle.rules.proofs.Events.{high_under, all_clear, read_both, filled}

-- what the lists of a journal's activities hold
pub tips_there : (t : ℕ) (xs : List Activity) → Memᴰ t (tips_in xs) → Memᴰ (tip t) xs
tips_there t [] m = absurd (Memᴰ.not-nil m)
tips_there t (ack a ∷ xs) m = Memᴰ.tail (tips_there t xs m)
tips_there t (certified c ∷ xs) m = Memᴰ.tail (tips_there t xs m)
tips_there t (tip k ∷ xs) (Memᴰ.head e) = Memᴰ.head (ap tip e)
tips_there t (tip k ∷ xs) (Memᴰ.tail m) = Memᴰ.tail (tips_there t xs m)

pub there_tips : (t : ℕ) (xs : List Activity) → Memᴰ (tip t) xs → Memᴰ t (tips_in xs)
there_tips t [] m = absurd (Memᴰ.not-nil m)
there_tips t (ack a ∷ xs) (Memᴰ.head e) = apart (cc)
there_tips t (ack a ∷ xs) (Memᴰ.tail m) = there_tips t xs m
there_tips t (certified c ∷ xs) (Memᴰ.head e) = apart (cc)
there_tips t (certified c ∷ xs) (Memᴰ.tail m) = there_tips t xs m
there_tips t (tip k ∷ xs) (Memᴰ.head e) = Memᴰ.head (cc)
there_tips t (tip k ∷ xs) (Memᴰ.tail m) = Memᴰ.tail (there_tips t xs m)

certs_there : (c : Cert) (xs : List Activity) → Memᴰ c (certs_in xs) → Memᴰ (certified c) xs
certs_there c [] m = absurd (Memᴰ.not-nil m)
certs_there c (ack a ∷ xs) m = Memᴰ.tail (certs_there c xs m)
certs_there c (tip t ∷ xs) m = Memᴰ.tail (certs_there c xs m)
certs_there c (certified k ∷ xs) (Memᴰ.head e) = Memᴰ.head (ap certified e)
certs_there c (certified k ∷ xs) (Memᴰ.tail m) = Memᴰ.tail (certs_there c xs m)

there_certs : (c : Cert) (xs : List Activity) → Memᴰ (certified c) xs → Memᴰ c (certs_in xs)
there_certs c [] m = absurd (Memᴰ.not-nil m)
there_certs c (ack a ∷ xs) (Memᴰ.head e) = apart (cc)
there_certs c (ack a ∷ xs) (Memᴰ.tail m) = there_certs c xs m
there_certs c (tip t ∷ xs) (Memᴰ.head e) = apart (cc)
there_certs c (tip t ∷ xs) (Memᴰ.tail m) = there_certs c xs m
there_certs c (certified k ∷ xs) (Memᴰ.head e) = Memᴰ.head (cc)
there_certs c (certified k ∷ xs) (Memᴰ.tail m) = Memᴰ.tail (there_certs c xs m)

acks_there : (a : Ack) (xs : List Activity) → Memᴰ a (acks_in xs) → Memᴰ (ack a) xs
acks_there a [] m = absurd (Memᴰ.not-nil m)
acks_there a (certified c ∷ xs) m = Memᴰ.tail (acks_there a xs m)
acks_there a (tip t ∷ xs) m = Memᴰ.tail (acks_there a xs m)
acks_there a (ack k ∷ xs) (Memᴰ.head e) = Memᴰ.head (ap ack e)
acks_there a (ack k ∷ xs) (Memᴰ.tail m) = Memᴰ.tail (acks_there a xs m)

there_acks : (a : Ack) (xs : List Activity) → Memᴰ (ack a) xs → Memᴰ a (acks_in xs)
there_acks a [] m = absurd (Memᴰ.not-nil m)
there_acks a (certified c ∷ xs) (Memᴰ.head e) = apart (cc)
there_acks a (certified c ∷ xs) (Memᴰ.tail m) = there_acks a xs m
there_acks a (tip t ∷ xs) (Memᴰ.head e) = apart (cc)
there_acks a (tip t ∷ xs) (Memᴰ.tail m) = there_acks a xs m
there_acks a (ack k ∷ xs) (Memᴰ.head e) = Memᴰ.head (cc)
there_acks a (ack k ∷ xs) (Memᴰ.tail m) = Memᴰ.tail (there_acks a xs m)

-- a table holds what was in it and what was placed into it
tabled_in : {A : Type 0} (below : A → A → Bool) (y : A) (table l : List A) → Memᴰ y (tabled below table l) → Memᴰ y table ⊎ Memᴰ y l
tabled_in below y table [] m = inl m
tabled_in below y table (x ∷ l) m = elim (tabled_in below y (placed below x table) l m) [
  | inl u ↦ elim (placed_in below x y table u) [ inl e ↦ inr (Memᴰ.head e) | inr w ↦ inl w ]
  | inr u ↦ inr (Memᴰ.tail u)
]

any-kept : (h : ℕ) (table l : List Cert) → any (of_height h) table ≡ true → any (of_height h) (tabled cert_below table l) ≡ true
any-kept h table [] e = e
any-kept h table (c ∷ l) e = any-kept h (placed cert_below c table) l (any-placed h c table e)

any-tabled : (c : Cert) (table l : List Cert) → Memᴰ c l → any (of_height c.height) (tabled cert_below table l) ≡ true
any-tabled c table [] m = absurd (Memᴰ.not-nil m)
any-tabled c table (x ∷ l) (Memᴰ.head e) =
    any-kept c.height (placed cert_below x table) l (in_any (of_height c.height) x _ (eq-eqb x.height c.height (ap (λ z. z.height) (sym e))) (placed-here cert_below x table))
any-tabled c table (x ∷ l) (Memᴰ.tail m) = any-tabled c (placed cert_below x table) l m

none_of : {A : Type 0} (p : A → Bool) (l : List A) (x : A) → any p l ≡ false → Memᴰ x l → p x ≡ false
none_of p l x e m = elim (cases_Bool (p x)) [ inl q ↦ absurd (both_ways (any p l) e (in_any p x l q m)) | inr q ↦ q ]

-- what the allowed settings say
pub fits : (s : Settings) → allowed s ≡ true → (0 < s.per_section) × (s.window ≤ 8)
fits s a =
    let b = and_parts _ _ a in
    let c = and_parts _ _ b.1 in
    let d = and_parts _ _ c.1 in
    let x : s.window + s.activity ≤ 8 = leb-true _ _ c.0 in
    let y : 1 ≤ s.per_section = leb-true _ _ d.0 in
    (omega arith, omega arith)

module _ (back : Back) (p : Answers) (law : Lawful p) (s : Settings) (g : Bool) (e now : ℕ) where
  -- the records tell of xs, and xs are all that stands in the journal
  module _ (hist : List Act) (v : Log) (j : JInv p s g hist v) (xs : List Activity) (all : (x : Activity) → Memᴰ x xs → RecD p s g x v) (only : (x : Activity) → Rec p s g x v → Memᴰ x xs)
      (pos : 0 < s.per_section) (wide : s.window ≤ 8) (le : e < 2 ^ 64) (near : too_far s (found s xs) ≡ false) (up : g ≡ true → (a : Ack) → Rec p s g (ack a) v → a.epoch ≤ e) where
    abbrev top : ℕ
    top = top_of xs

    abbrev m : Mem
    m = opened p s e now (found s xs)

    stands : (x : Activity) → Memᴰ x xs → Rec p s g x v
    stands x n = let d = all x n in (d.0, dur_in _ _ v d.1)

    top-low : top_of xs ≤ 2 ^ 62
    top-low = high_under (λ (x : ℕ). x) 0 (2 ^ 62) (tips_in xs) (omega arith) (λ t n. (all (tip t) (tips_there t xs n)).0)

    top_high : (t : ℕ) → Rec p s g (tip t) v → t ≤ top_of xs
    top_high t r = high_of (λ (x : ℕ). x) 0 t (tips_in xs) (there_tips t xs (only (tip t) r))

    certs_have : (c : Cert) → Rec p s g (certified c) v → low s (top_of xs) ≤ c.height → any (of_height c.height) (certs_left s xs) ≡ true
    certs_have c r l = any-tabled c [] _ (in_those (λ (d : Cert). leb (low s (top_of xs)) d.height) c (certs_in xs) (le-leb _ _ l) (there_certs c xs (only (certified c) r)))

    certs_high : (c : Cert) → Memᴰ c (certs_left s xs) → c.height < 2 ^ 62
    certs_high c n = elim (tabled_in cert_below c [] _ n) [
      | inl u ↦ absurd (Memᴰ.not-nil u)
      | inr u ↦ (all (certified c) (certs_there c xs (those_in (λ (d : Cert). leb (low s (top_of xs)) d.height) c (certs_in xs) u).0)).0.high
    ]

    -- an ack that is left
    pub record LeftAck (a : Ack) : Type 0 where
      pub there : Memᴰ (ack a) xs
      pub above : low s (top_of xs) ≤ a.height
      pub free : any (of_height a.height) (certs_left s xs) ≡ false

    left-ack : (a : Ack) → Memᴰ a (acks_left s xs) → LeftAck a
    left-ack a n =
        let t = those_in (λ (b : Ack). leb (low s (top_of xs)) b.height && not (any (λ c. eqb c.height b.height) (certs_left s xs))) a (acks_in xs) n in
        let q = and_parts _ _ t.1 in
        record { there = acks_there a xs t.0; above = leb-true _ _ q.0; free = not-true _ q.1 }

    ack-left : (a : Ack) → Memᴰ (ack a) xs → low s (top_of xs) ≤ a.height → any (of_height a.height) (certs_left s xs) ≡ false → Memᴰ a (acks_left s xs)
    ack-left a n l f =
        in_those (λ (b : Ack). leb (low s (top_of xs)) b.height && not (any (λ c. eqb c.height b.height) (certs_left s xs))) a (acks_in xs)
        (and_from _ _ (le-leb _ _ l) (ap not f)) (there_acks a xs n)

    kept-left : (a : Ack) → Memᴰ a (kept_acks p e (acks_left s xs)) → Memᴰ a (acks_left s xs)
    kept-left a n = elim (tabled_in ack_below a [] _ n) [
      | inl u ↦ absurd (Memᴰ.not-nil u)
      | inr u ↦ (those_in (λ (b : Ack). opt (own_digest p e (acks_left s xs) b.height) true (λ d. bytes_eq d b.digest)) a (acks_left s xs) u).0
    ]

    -- a height that is left
    pub record LeftHeight (h : ℕ) : Type 0 where
      pub above : low s (top_of xs) ≤ h
      pub below : h < top_of xs + s.window
      pub free : any (of_height h) (certs_left s xs) ≡ false

    left-height : (h : ℕ) → Memᴰ h (heights_left s (found s xs)) → LeftHeight h
    left-height h n =
        let t = those_in (is_left (found s xs)) h (from (low s (top_of xs)) (top_of xs + s.window - low s (top_of xs))) n in
        let r = from_in h (low s (top_of xs)) (top_of xs + s.window - low s (top_of xs)) t.0 in
        let q = and_parts _ _ t.1 in
        record { above = r.0; below = omega (arith, r.1); free = not-true _ q.0 }

    abbrev entry : ℕ → Pending
    entry h = record { height = h; verified = own_digest p e (acks_left s xs) h }

    pend : (x : Pending) → Memᴰ x (map entry (heights_left s (found s xs))) → (h : ℕ) × LeftHeight h × (x ≡ entry h)
    pend x n = let z = map_in_lem entry x (heights_left s (found s xs)) n in (z.0, left-height z.0 z.1, z.2)

    -- the digest of an own ack that is left
    digest-sized : (h : ℕ) → SizedDigest (own_digest p e (acks_left s xs) h)
    digest-sized h =
        opt_both SizedDigest (own p e) None _ (λ _. tt)
        (λ i _. opt_both SizedDigest (first (is_of h e i) (acks_left s xs)) None (λ a. Some a.digest) (λ _. tt)
        (λ a q. (all (ack a) (left-ack a (first_in (is_of h e i) (acks_left s xs) a q).0).there).0.digest))

    -- where an own ack of the epoch is left, it gives the digest
    digest_given : g ≡ true → (a : Ack) → Memᴰ a (acks_left s xs) → a.epoch ≡ e → own_digest p e (acks_left s xs) a.height ≡ Some a.digest
    digest_given q a n f =
        let src = source_of back p s g hist v j (ack a) (stands (ack a) (left-ack a n).there) in
        let mine : own p e ≡ Some a.signer = ap (own p) (sym f) ∙ src.1 in
        opt_both (λ (o : Option Bytes). o ≡ Some a.digest) (own p e) None _ (λ z. apart (cc))
        (λ i z. opt_both (λ (o : Option Bytes). o ≡ Some a.digest) (first (is_of a.height e i) (acks_left s xs)) None (λ b. Some b.digest)
        (λ w. (let k : i ≡ a.signer = cc in
        absurd (both_ways (is_of a.height e i a) (first_none (is_of a.height e i) (acks_left s xs) w a n) (and_from _ _ (eq-eqb a.height a.height refl) (and_from _ _ (eq-eqb a.epoch e f) (eq-eqb a.signer i (sym k)))))))
        (λ b w.
        let t = first_in (is_of a.height e i) (acks_left s xs) b w in
        let q1 = and_parts _ _ t.1 in
        let q2 = and_parts _ _ q1.1 in
        let rb = stands (ack b) (left-ack b t.0).there in
        let sb = source_of back p s g hist v j (ack b) rb in
        ap Some (j.agree q b a (inl rb) (inl (stands (ack a) (left-ack a n).there)) sb.1 src.1 (eqb-true _ _ q2.0 ∙ sym f) (eqb-true _ _ q1.0))))

    -- every own ack lies below the end
    reached : g ≡ true → (a : Ack) → Rec p s g (ack a) v → a.height < end (core (opened p s e now (found s xs)))
    reached q a r =
        let base = high_base (λ (c : Cert). c.height + 1) (top_of xs) (certs_left s xs) in
        let over = high_base (λ (x : Pending). x.height + 1) (highest (λ c. c.height + 1) (top_of xs) (certs_left s xs)) (map entry (heights_left s (found s xs))) in
        elim (cases_lt a.height (low s (top_of xs))) [
          | inl l ↦ omega arith
          | inr l ↦ elim (cases_Bool (any (of_height a.height) (certs_left s xs))) [
            | inl c ↦
                (let d = any_in (of_height a.height) (certs_left s xs) c in
                let f = eqb-true d.0.height a.height d.2 in
                let k = high_of (λ (c : Cert). c.height + 1) (top_of xs) d.0 (certs_left s xs) d.1 in
                omega arith)
            | inr c ↦
                (let n = ack-left a (only (ack a) r) l c in
                let far = leb-false _ _ (none_of (λ (b : Ack). leb (top_of xs + s.window) b.height) (acks_left s xs) a (or_parts _ _ near).1 n) in
                let here : is_left (found s xs) a.height ≡ true = and_from _ _ (ap not c) (or_left _ _ (in_any (λ (b : Ack). eqb b.height a.height) a (acks_left s xs) (eq-eqb a.height a.height refl) n)) in
                let h = in_those (is_left (found s xs)) a.height (from (low s (top_of xs)) (top_of xs + s.window - low s (top_of xs))) here (in_from a.height (low s (top_of xs)) (top_of xs + s.window - low s (top_of xs)) l (omega arith)) in
                let k = high_of (λ (x : Pending). x.height + 1) (highest (λ c. c.height + 1) (top_of xs) (certs_left s xs)) (entry a.height) (map entry (heights_left s (found s xs))) (mapped a.height (heights_left s (found s xs)) h) in
                omega arith)
          ]
        ]
      where
        mapped : (h : ℕ) (l : List ℕ) → Memᴰ h l → Memᴰ (entry h) (map entry l)
        mapped h [] n = absurd (Memᴰ.not-nil n)
        mapped h (x ∷ l) (Memᴰ.head f) = Memᴰ.head (ap entry f)
        mapped h (x ∷ l) (Memᴰ.tail n) = Memᴰ.tail (mapped h l n)

    opened_inv : Inv back p s g hist v (core (opened p s e now (found s xs)))
    opened_inv = record {
      jour = j;
      pos = pos;
      wide = wide;
      top = top-low;
      epoch = le;
      tips = top_high;
      certs = certs_have;
      high = certs_high;
      seats = λ x n. (let z = map_in_lem (λ (k : Bytes). record { key = k; tip = 0 }) x (keys_of p e) n in subst (λ (y : Seat). y.tip < 2 ^ 62) (sym z.2) (omega arith));
      over = λ x n. (let z = pend x n in subst (λ y. low s (top_of xs) ≤ y.height) (sym z.2) z.1.above);
      under = λ x n. (let z = pend x n in subst (λ y. y.height < top_of xs + s.window) (sym z.2) z.1.below);
      same = λ x y n o f.
          (let z = pend x n in let w = pend y o in
          ap (λ k. k.verified) z.2 ∙ ap (own_digest p e (acks_left s xs)) (ap (λ k. k.height) (sym z.2) ∙ f ∙ ap (λ k. k.height) w.2) ∙ ap (λ k. k.verified) (sym w.2));
      digests = λ x n. (let z = pend x n in subst (λ y. SizedDigest y.verified) (sym z.2) (digest-sized z.0));
      acks = λ a n.
          (let k = kept-left a n in
          let l = left-ack a k in
          let d = all (ack a) l.there in
          let src = source_of back p s g hist v j (ack a) (stands (ack a) l.there) in
          record { sized = d.0; source = inr src.0; high = λ _. src.1; kept = λ _ _. inl d });
      above = λ a n. (left-ack a (kept-left a n)).above;
      epochs = up;
      verified = λ q a r f x n h.
          (let z = pend x n in
          let eh : z.0 ≡ a.height = ap (λ k. k.height) (sym z.2) ∙ h in
          let l = ack-left a (only (ack a) r) (subst (λ k. low s (top_of xs) ≤ k) eh z.1.above) (subst (λ k. any (of_height k) (certs_left s xs) ≡ false) eh z.1.free) in
          ap (λ k. k.verified) z.2 ∙ ap (own_digest p e (acks_left s xs)) eh ∙ digest_given q a l f);
      ended = reached;
    }

  -- a plan of an opening, upon the journal v: where no own ack is of a later epoch, the engine that runs then keeps the invariant
  abbrev pub Up : Log → Type 0
  Up v = g ≡ true → (a : Ack) → Rec p s g (ack a) v → a.epoch ≤ e

  abbrev pub OpenOk : Log → List Act → Log → After → Type 0
  OpenOk v h u stays = JInv p s g h u
  OpenOk v h u (runs n) = Up v → Inv back p s g h u (core n)
  OpenOk v h u closes = JInv p s g h u

  abbrev pub Opens : List Act → Log → Plan → Type 0
  Opens hist v pl = WP (JInv p s g) pl.acts hist v (λ h u. OpenOk v h u pl.after)

  -- all is told
  telling : (l : List Activity) (hist : List Act) (v : Log) → JInv p s g hist v → ((x : Activity) → Memᴰ x l → RecD p s g x v) → WP (JInv p s g) (map tell l) hist v (λ h u. JInv p s g h u × (u ≡ v))
  telling [] hist v j f = (j, refl)
  telling (x ∷ l) hist v j f = (λ room r w z. absurd z, λ _. telling l (hist ++ (tell x ∷ [])) v (tells back p s g hist v j x (f x (Memᴰ.head refl))) (λ y n. f y (Memᴰ.tail n)))

  module _ (hist : List Act) (v : Log) (j : JInv p s g hist v) (room : ℕ) (pos : 0 < s.per_section) (wide : s.window ≤ 8) (le : e < 2 ^ 64) where
    abbrev v1 : Log
    v1 = all_synced v

    read_inv : JInv p s g (hist ++ (read None ∷ [])) (all_synced v)
    read_inv = hush p s g hist (all_synced v) (read None) (less p s g hist v (all_synced v) j (λ t b i. all_in t b v i) (λ t b d. new-all t b v (dur_in t b v d))) refl

    just_read : (a : Answer) → Opens hist v (unreadable None a)
    just_read a = (λ room r w z. stop_sync back p s g hist v j r w z, λ _. read_inv)

    with_all : (xs : List Activity) → ((x : Activity) → Memᴰ x xs → Rec p s g x v) → ((x : Activity) → Rec p s g x v → Memᴰ x xs) → Opens hist v (open_with p s e now room xs)
    with_all xs all only =
        cond_both (eqb (found_refusal p s e room xs) 0) _ _ (Opens hist v)
        (λ q.
        let near = (all_clear (found_tests p s e room xs) (omega arith) (eqb-true _ _ q)).0 in
        let all1 : (x : Activity) → Memᴰ x xs → RecD p s g x (all_synced v) = λ x n. (let r = all x n in (r.0, new-all _ _ v r.1)) in (
          λ room r w z. stop_sync back p s g hist v j r w z,
          λ _.
              wp_more (JInv p s g) (map tell xs) (hist ++ (read None ∷ [])) (all_synced v) _ _
              (λ h u r up.
              let all2 : (x : Activity) → Memᴰ x xs → RecD p s g x u = λ x n. subst (RecD p s g x) (sym r.1) (all1 x n) in
              let was : (x : Activity) → Rec p s g x u → Rec p s g x v = λ x z. (let y = subst (Rec p s g x) r.1 z in (y.0, all_in _ _ v y.1)) in
              filled back p law s g h u (opened p s e now (found s xs))
              (opened_inv h u r.0 xs all2 (λ x z. only x (was x z)) pos wide le near (λ z a y. up z a (was (ack a) y))))
              (telling xs (hist ++ (read None ∷ [])) (all_synced v) read_inv all1),
        ))
        (λ _. just_read (refused (found_refusal p s e room xs)))

    from_all : (xs : List Activity) (rs : List Placed) → ((x : Activity) → Memᴰ x xs → Rec p s g x v) → ((r : Placed) → Memᴰ r rs → In r.section r.bytes v) →
        ((x : Activity) → Rec p s g x v → Memᴰ x xs ⊎ ((r : Placed) × Memᴰ r rs × (r.bytes ≡ write x))) → Opens hist v (open_from p s e now room xs None rs)
    from_all xs [] all here only = with_all xs all (λ x r. elim (only x r) [ inl n ↦ n | inr n ↦ absurd (Memᴰ.not-nil n.1) ])
    from_all xs (r ∷ rs) all here only =
        read_both (Opens hist v) (forms.read r.bytes) _ _ (λ w _. just_read (bad_record r.section r.number w))
        (λ y q.
        let f = j.form r.section r.bytes (here r (Memᴰ.head refl)) in
        let same : y ≡ f.0 = (let z = back f.0 f.3 in let w : forms.read r.bytes ≡ forms.read (write f.0) = ap forms.read f.1 in cc) in
        let stood : Rec p s g y v = subst (λ z. Rec p s g z v) (sym same) (f.3, subst (λ k. In k (write f.0) v) f.2 (subst (λ b. In r.section b v) f.1 (here r (Memᴰ.head refl)))) in
        from_all (xs ++ (y ∷ [])) rs
        (λ x n. elim (Memᴰ.append_cases xs n) [ inl o ↦ all x o | inr o ↦ subst (λ z. Rec p s g z v) (sym (Memᴰ.eq_of_singleton o)) stood ])
        (λ z n. here z (Memᴰ.tail n))
        (λ x z. sorted x z y stood (f.1 ∙ ap write (sym same)) (only x z)))
      where
        sorted : (x : Activity) → Rec p s g x v → (y : Activity) → Rec p s g y v → r.bytes ≡ write y → Memᴰ x xs ⊎ ((z : Placed) × Memᴰ z (r ∷ rs) × (z.bytes ≡ write x)) → Memᴰ x (xs ++ (y ∷ [])) ⊎ ((z : Placed) × Memᴰ z rs × (z.bytes ≡ write x))
        sorted x u y t q (inl n) = inl (Memᴰ.append_left (y ∷ []) n)
        sorted x u y t q (inr (z, Memᴰ.head f, w)) =
            let k : x ≡ y = same-entry back x y u.0 t.0 (sym w ∙ ap (λ c. c.bytes) f ∙ q) in
            inl (Memᴰ.append_right xs (Memᴰ.head k))
        sorted x u y t q (inr (z, Memᴰ.tail n, w)) = inr (z, n, w)

  pub opens : (hist : List Act) (v : Log) (room : ℕ) → JInv p s g hist v → e < 2 ^ 64 → Opens hist v (plan_opening p s shut v None e now room)
  opens hist v room j le = go (opening_refusal p s shut e now) refl
    where
      fit : opening_refusal p s shut e now ≡ 0 → (0 < s.per_section) × (s.window ≤ 8)
      fit q = fits s (not-false (allowed s) (all_clear (opening_tests p s shut e now) (omega arith) q).1.0)

      go : (n : ℕ) → opening_refusal p s shut e now ≡ n → Opens hist v (or_refuse n (open_from p s e now room [] None (those (before None) (reading v.sections))))
      go zero q =
          let f = fit q in
          from_all hist v j room f.0 f.1 le [] (those (before None) (reading v.sections)) (λ x n. absurd (Memᴰ.not-nil n))
          (λ r n. reading_in v r (those_in (before None) r (reading v.sections) n).0)
          (λ x z. (let r = in_reading _ _ v z.1 in inr (r.0, in_those (before None) r.0 (reading v.sections) refl r.1, r.3)))
      go (suc n) q = j
