-- Fill, epoch change, message, slips, due and closing keep the invariant. Assumes nothing.
use Rattle.std.proofs.Common.{◌≡◌, ℕ, zero, suc, ◌+◌, ◌-◌, ◌^◌, ◌<◌, ◌≤◌, Bool, true, false, cond, ◌||◌, eqb, ltb, ◌⊎◌, List, [], ◌∷◌, ◌++◌, length, get_or, is_some, Some, None, Ok, Err, Option, Result, sym, refl, ap, ◌∙◌, subst, inl, inr, arith, ltb-false, ltb-true, eqb-true, leb-false, All}
use Rattle.std.specs.List.{AllByRecursion}
use mathlib.Core.List.Memᴰ
use mathlib.Core.List.{Memᴰ}
use Rattle.std.proofs.lemmas.Slice.Eq.{bytes_eq-Decides}
use Rattle.std.proofs.lemmas.Bool.{cond_both, or_parts, not-false}
use Rattle.std.specs.Str.{bytes_eq}
use Rattle.table.specs.Rows.{onward}
use Rattle.forms.specs.declared.faults.Fault.{Fault}
use Rattle.forms.specs.Values.{Ack, Cert, Activity, ack, certified, tip, TipAck}
use Rattle.forms.specs.Reading as forms
use Rattle.journal.specs.Log.{Log, Bytes, Firmer, all_synced}
use Rattle.provider.specs.Answers.{Answers}
use Rattle.provider.specs.Laws.{Lawful, position}
use Rattle.rules.specs.Lists.{first, opt, front, highest}
use Rattle.rules.specs.State.{Seat, Pending, Deadline, Settings, Mem, Desk, is_pending, next}
use Rattle.rules.specs.Acts.{Act, sync_all, block, hand_out, take_back, lodge, fetch, hear, sign}
use Rattle.rules.specs.Rules.{keys, Work, idle, then, move, store, fill_by, fill, with_deadlines, digest_for, rebroadcast}
use Rattle.rules.specs.Plans.{After, stays, runs, closes, Plan, Answer, ok, refused, refuse, carry, refusal, or_refuse}
use Rattle.rules.specs.Opening.{known, keys_of, by_reading}
use Rattle.rules.specs.Message.{seat_tip, in_epoch, epoch_tests, epoch_refusal, plan_epoch, counts, safe_tip, seat_told, to_safe_tip, tip_told, is_at, checks, checked, ack_told, ack_answer, refused_short, too_high, told, plan_told, undecoded, plan_message}
use Rattle.rules.specs.Calls.{take_first, fetch_first, put_by, refused_late, taken_back, plan_digest, plan_cancel, plan_due, plan_closing}
use Rattle.rules.specs.Promises.{OwnKey}
use Rattle.rules.proofs.Grow.{high_base}
use Rattle.rules.proofs.Members.{those_in, map_in_lem, first_in}
use Rattle.rules.proofs.Recs.{all_in, new-all, dur_in, firmer_in, dur_firmer}
use Rattle.rules.proofs.Wp.{WP, wp_more}
use Rattle.rules.proofs.Ledger.{SizedAck, loud, further, latest, Own, Rec, JInv, hush, less, firmer}
use Rattle.rules.proofs.Entries.{Back}
use Rattle.rules.proofs.Memory.{Core, core, SizedDigest, Inv, Step, stop_sync}
use Rattle.rules.proofs.Moves.{moving, apart}
use Rattle.rules.proofs.Keeps.{opt_both, Does, Ends, does_idle, ends_then, does_ends, storing}
use Rattle.rules.proofs.Digests.{high_of, handing_in, again}

high_app : {A : Type 0} (f : A → ℕ) (n : ℕ) (l : List A) (x : A) → highest f n l ≤ highest f n (l ++ (x ∷ []))
high_app f n [] x = omega arith
high_app f n (y ∷ l) x = let i = high_app f n l x in omega arith

pub high_under : {A : Type 0} (f : A → ℕ) (n b : ℕ) (l : List A) → n ≤ b → ((x : A) → Memᴰ x l → f x ≤ b) → highest f n l ≤ b
high_under f n b [] e g = e
high_under f n b (x ∷ l) e g = let i = high_under f n b l e (λ y m. g y (Memᴰ.tail m)) in let j = g x (Memᴰ.head refl) in omega arith

-- a key at its position
position_at : (k : Bytes) (ks : List Bytes) (i : ℕ) → position k ks ≡ Some i → (i < length ks) × (get_or ks i [] ≡ k)
position_at k [] i e = apart (cc)
position_at k (x ∷ ks) i e = go (bytes_eq k x) refl e (position k ks) refl (position_at k ks)
  where
    go : (b : Bool) → bytes_eq k x ≡ b → cond b (Some 0) (onward (position k ks)) ≡ Some i → (o : Option ℕ) → position k ks ≡ o → ((n : ℕ) → position k ks ≡ Some n → (n < length ks) × (get_or ks n [] ≡ k)) → (i < length (x ∷ ks)) × (get_or (x ∷ ks) i [] ≡ k)
    go true q f o r rest =
        let z : 0 ≡ i = cc in
        let w : x ≡ k = sym ((bytes_eq-Decides k x).0 q) in
        subst (λ n. (n < length (x ∷ ks)) × (get_or (x ∷ ks) n [] ≡ k)) z (omega arith, w)
    go false q f None r rest = let z : onward (position k ks) ≡ None = ap onward r in apart (cc)
    go false q f (Some n) r rest =
        let z : onward (position k ks) ≡ Some (suc n) = ap onward r in
        let y : suc n ≡ i = cc in
        let t = rest n r in
        subst (λ n. (n < length (x ∷ ks)) × (get_or (x ∷ ks) n [] ≡ k)) y (omega (arith, t.0), t.1)

-- where no refusal applies every test fails
pub all_clear : (rs : List (ℕ × Bool)) → AllByRecursion (λ r. 0 < r.0) rs → refusal rs ≡ 0 → AllByRecursion (λ r. r.1 ≡ false) rs
all_clear [] a e = tt
all_clear (r ∷ rs) a e = go (λ f. all_clear rs a.1 f) r.1 refl e
  where
    go : (refusal rs ≡ 0 → AllByRecursion (λ r. r.1 ≡ false) rs) → (b : Bool) → r.1 ≡ b → cond b r.0 (refusal rs) ≡ 0 → (r.1 ≡ false) × AllByRecursion (λ r. r.1 ≡ false) rs
    go rest true q f = let l = a.0 in absurd (omega arith)
    go rest false q f = (q, rest f)

is_at-some : (o : Option ℕ) (i : ℕ) → is_at o i ≡ true → o ≡ Some i
is_at-some None i e = apart (cc)
is_at-some (Some j) i e = ap Some (eqb-true j i e)

keys-known : (p : Answers) (e : ℕ) → known p e ≡ true → keys p e ≡ Some (keys_of p e)
keys-known p e q = go (keys p e) refl q
  where
    go : (o : Option (List Bytes)) → keys p e ≡ o → is_some o ≡ true → keys p e ≡ Some (opt (keys p e) [] (λ ks. ks))
    go None r f = apart (cc)
    go (Some ks) r f = r ∙ ap (λ z. Some (opt z [] (λ ks. ks))) (sym r)

pub read_both : {A B : Type 0} (P : B → Type 0) (r : Result A Fault) (w : Fault → B) (f : A → B) → ((e : Fault) → r ≡ Err e → P (w e)) → ((x : A) → r ≡ Ok x → P (f x)) → P (by_reading r w f)
read_both P (Ok x) w f a b = b x refl
read_both P (Err e) w f a b = a e refl

-- what a message that is read holds
pub record SizedMessage (t : TipAck) : Type 0 where
  pub epoch : t.ack.epoch < 2 ^ 64
  pub signer : t.ack.signer ≤ 15
  pub digest : length t.ack.digest ≡ 32
  pub signature : length t.ack.signature ≡ 64

abbrev pub Sizes : Type 0
Sizes = (b : Bytes) (t : TipAck) → All (λ x. x < 256) b → forms.message b ≡ Ok t → SizedMessage t

module _ (back : Back) (p : Answers) (law : Lawful p) (s : Settings) (g : Bool) where
  -- an act more that tells nothing
  pub inv_hush : (hist : List Act) (v : Log) (k : Core) (a : Act) → Inv back p s g hist v k → loud a ≡ false → Inv back p s g (hist ++ (a ∷ [])) v k
  inv_hush hist v k a i q = record {
    jour = hush p s g hist v a i.jour q;
    pos = i.pos;
    wide = i.wide;
    top = i.top;
    epoch = i.epoch;
    tips = i.tips;
    certs = i.certs;
    high = i.high;
    seats = i.seats;
    over = i.over;
    under = i.under;
    same = i.same;
    digests = i.digests;
    acks = λ x n. (let c = i.acks x n in record {
      sized = c.sized;
      source = elim c.source [ inl o ↦ inl (further a (hear x) o) | inr o ↦ inr (further a (sign x) o) ];
      high = c.high;
      kept = c.kept;
    });
    above = i.above;
    epochs = i.epochs;
    verified = i.verified;
    ended = i.ended;
  }

  -- a journal that made more durable
  pub inv_firmer : (hist : List Act) (v w : Log) (k : Core) → Inv back p s g hist v k → Firmer v w → Inv back p s g hist w k
  inv_firmer hist v w k i f = record {
    jour = firmer p s g hist v w i.jour f;
    pos = i.pos;
    wide = i.wide;
    top = i.top;
    epoch = i.epoch;
    tips = λ t r. i.tips t (was (tip t) r);
    certs = λ c r. i.certs c (was (certified c) r);
    high = i.high;
    seats = i.seats;
    over = i.over;
    under = i.under;
    same = i.same;
    digests = i.digests;
    acks = λ x n. (let c = i.acks x n in record {
      sized = c.sized;
      source = c.source;
      high = c.high;
      kept = λ q o. elim (c.kept q o) [ inl r ↦ inl (r.0, dur_firmer _ _ v w f r.1) | inr r ↦ inr (r.0, (r.1.0, dur_firmer _ _ v w f r.1.1), r.2) ];
    });
    above = i.above;
    epochs = λ q x r. i.epochs q x (was (ack x) r);
    verified = λ q x r. i.verified q x (was (ack x) r);
    ended = λ q x r. i.ended q x (was (ack x) r);
  }
    where
      was : (x : Activity) → Rec p s g x w → Rec p s g x v
      was x r = (r.0, firmer_in _ _ v w f r.1)

  -- Fill
  fill_inv : (n : ℕ) (hist : List Act) (v : Log) (m : Mem) → Inv back p s g hist v (core m) → Inv back p s g hist v (core (fill_by n s m))
  fill_inv zero hist v m i = i
  fill_inv (suc n) hist v m i =
      cond_both (ltb (next m - m.tip) s.window) (fill_by n s new) m (λ z. Inv back p s g hist v (core z)) (λ q. fill_inv n hist v new (more (ltb-true _ _ q))) (λ _. i)
    where
      new : Mem
      new = record {
        epoch = m.epoch;
        tip = m.tip;
        seats = m.seats;
        pending = m.pending ++ (record { height = next m; verified = None } ∷ []);
        acks = m.acks;
        certs = m.certs;
        deadlines = m.deadlines;
        wanted = m.wanted ++ (next m ∷ []);
      }

      base : m.tip ≤ next m
      base =
          let a = high_base (λ (c : Cert). c.height + 1) m.tip m.certs in
          let b = high_base (λ (y : Pending). y.height + 1) (highest (λ c. c.height + 1) m.tip m.certs) m.pending in
          omega arith

      old : (y : Pending) → Memᴰ y m.pending → y.height < next m
      old y o = let l = high_of (λ (z : Pending). z.height + 1) (highest (λ c. c.height + 1) m.tip m.certs) y m.pending o in omega arith

      more : next m - m.tip < s.window → Inv back p s g hist v (core new)
      more l = record {
        jour = i.jour;
        pos = i.pos;
        wide = i.wide;
        top = i.top;
        epoch = i.epoch;
        tips = i.tips;
        certs = i.certs;
        high = i.high;
        seats = i.seats;
        over = λ y o. elim (Memᴰ.append_cases m.pending o) [ inl z ↦ i.over y z | inr z ↦ (let e = ap (λ k. k.height) (Memᴰ.eq_of_singleton z) in let b = base in omega arith) ];
        under = λ y o. elim (Memᴰ.append_cases m.pending o) [ inl z ↦ i.under y z | inr z ↦ (let e = ap (λ k. k.height) (Memᴰ.eq_of_singleton z) in let b = base in omega arith) ];
        same = λ y z o q e. alike y z (Memᴰ.append_cases m.pending o) (Memᴰ.append_cases m.pending q) e;
        digests = λ y o. elim (Memᴰ.append_cases m.pending o) [ inl z ↦ i.digests y z | inr z ↦ subst (λ k. SizedDigest k.verified) (sym (Memᴰ.eq_of_singleton z)) tt ];
        acks = i.acks;
        above = i.above;
        epochs = i.epochs;
        verified = λ q a r e y o f. elim (Memᴰ.append_cases m.pending o) [
          | inl z ↦ i.verified q a r e y z f
          | inr z ↦ (let h = ap (λ k. k.height) (Memᴰ.eq_of_singleton z) in let w = i.ended q a r in absurd (omega arith))
        ];
        ended = λ q a r. (let w = i.ended q a r in let b = high_app (λ (y : Pending). y.height + 1) (highest (λ c. c.height + 1) m.tip m.certs) m.pending (record { height = next m; verified = None }) in omega arith);
      }
        where
          alike : (y z : Pending) → Memᴰ y m.pending ⊎ Memᴰ y (record { height = next m; verified = None } ∷ []) → Memᴰ z m.pending ⊎ Memᴰ z (record { height = next m; verified = None } ∷ []) → y.height ≡ z.height → y.verified ≡ z.verified
          alike y z (inl a) (inl b) e = i.same y z a b e
          alike y z (inl a) (inr b) e = let h = ap (λ k. k.height) (Memᴰ.eq_of_singleton b) in let o = old y a in absurd (omega arith)
          alike y z (inr a) (inl b) e = let h = ap (λ k. k.height) (Memᴰ.eq_of_singleton a) in let o = old z b in absurd (omega arith)
          alike y z (inr a) (inr b) e = ap (λ k. k.verified) (Memᴰ.eq_of_singleton a ∙ sym (Memᴰ.eq_of_singleton b))

  pub filled : (hist : List Act) (v : Log) (m : Mem) → Inv back p s g hist v (core m) → Inv back p s g hist v (core (fill s m))
  filled hist v m i = fill_inv s.window hist v m i

  -- the tip of a message
  tip-counted : (hist : List Act) (v : Log) (m : Mem) (k : Bytes) (t : ℕ) → Inv back p s g hist v (core m) → t < 2 ^ 62 → Inv back p s g hist v (core (seat_told k t m))
  tip-counted hist v m k t i l = record {
    jour = i.jour;
    pos = i.pos;
    wide = i.wide;
    top = i.top;
    epoch = i.epoch;
    tips = i.tips;
    certs = i.certs;
    high = i.high;
    seats = λ x o.
        (let z = map_in_lem (λ (y : Seat). cond (bytes_eq k y.key) (record { key = y.key; tip = t }) y) x m.seats o in
        subst (λ y. y.tip < 2 ^ 62) (sym z.2) (cond_both (bytes_eq k z.0.key) (record { key = z.0.key; tip = t }) z.0 (λ y. y.tip < 2 ^ 62) (λ _. l) (λ _. i.seats z.0 z.1)));
    over = i.over;
    under = i.under;
    same = i.same;
    digests = i.digests;
    acks = i.acks;
    above = i.above;
    epochs = i.epochs;
    verified = i.verified;
    ended = i.ended;
  }

  safe_low : (xs : List Seat) → ((x : Seat) → Memᴰ x xs → x.tip < 2 ^ 62) → safe_tip xs ≤ 2 ^ 62
  safe_low xs f = high_under (λ (x : Seat). x.tip) 0 (2 ^ 62) _ (omega arith) (λ x m. (let l = f x (those_in _ x xs m).0 in omega arith))

  pub tip-first : (hist : List Act) (v : Log) (m : Mem) (k : Bytes) (t : ℕ) → Inv back p s g hist v (core m) → t < 2 ^ 62 → Does back p law s g hist v (core m) (tip_told s k t m)
  tip-first hist v m k t i l =
      cond_both (counts m k t) (to_safe_tip s (seat_told k t m)) (idle m) (Does back p law s g hist v (core m))
      (λ _.
      let n = seat_told k t m in
      let j = tip-counted hist v m k t i l in
      cond_both (ltb n.tip (safe_tip n.seats)) (move s (safe_tip n.seats) n) (idle n) (Does back p law s g hist v (core m))
      (λ q. wp_more (JInv p s g) (move s (safe_tip n.seats) n).acts hist v
      (λ h u. Inv back p s g h u (core (move s (safe_tip n.seats) n).mem) × Step back p s g hist v (core n) h u (core (move s (safe_tip n.seats) n).mem))
      (λ h u. Inv back p s g h u (core (move s (safe_tip n.seats) n).mem) × Step back p s g hist v (core m) h u (core (move s (safe_tip n.seats) n).mem))
      (λ h u r. (r.0, record { grown = r.1.grown; fewer = r.1.fewer; kept = r.1.kept; pending = r.1.pending; epoch = r.1.epoch; onward = r.1.onward }))
      (moving back p s g hist v n (safe_tip n.seats) j (ltb-true _ _ q) (safe_low n.seats j.seats)))
      (λ _. (j, record { grown = λ a o. o; fewer = λ a o. o; kept = λ a o. o; pending = λ a o. o; epoch = refl; onward = omega arith })))
      (λ _. does_idle back p law s g hist v m i)

  -- an ack that passed the checks came under the key of its signer
  passed_key : (k : Bytes) (a : Ack) (m : Mem) → checked p s k a m ≡ 0 → Own p s g a → OwnKey p k
  passed_key k a m e o =
      let r = all_clear (checks p s k a m) (omega arith) e in
      let ks = keys-known p a.epoch (not-false _ r.1.0) in
      let at = position_at k (keys_of p a.epoch) a.signer (is_at-some _ _ (not-false _ r.1.1.1.0)) in
      (a.epoch, (a.signer, (keys_of p a.epoch, o, ks, at.0, at.1)))

  -- an ack after the tip of its message; where g, it came under no key of the engine's own
  pub ack-then : (hist : List Act) (v : Log) (m : Mem) (k : Bytes) (a : Ack) → Inv back p s g hist v (core m) → SizedAck a → a.height < 2 ^ 62 → (g ≡ true → OwnKey p k → ⊥) → Ends back p law s g hist v (ack_told p s k a m)
  ack-then hist v m k a i size l foreign =
      cond_both (eqb (checked p s k a m) 0) _ _ (Ends back p law s g hist v)
      (λ q. (
        λ room r w z. absurd z,
        λ _.
            does_ends back p law s g (hist ++ (hear a ∷ [])) v (core m) (store p s a m)
            (storing back p law s g (hist ++ (hear a ∷ [])) v m a (inv_hush hist v (core m) (hear a) i refl) (record {
              sized = size;
              source = inl (latest hist (hear a));
              high = λ z. absurd (omega arith);
              kept = λ z o. absurd (foreign z (passed_key k a m (eqb-true _ _ q) o));
            })),
      ))
      (λ _. cond_both (eqb (checked p s k a m) 16 || eqb (checked p s k a m) 21) (block k ∷ []) [] (λ l. WP (JInv p s g) l hist v (λ h u. Inv back p s g h u (core m)))
      (λ _. (λ room r w z. absurd z, λ _. inv_hush hist v (core m) (block k) i refl)) (λ _. i))

  -- a plan of a running engine
  abbrev pub OkAfter : List Act → Log → Mem → After → Type 0
  OkAfter h u m stays = Inv back p s g h u (core m)
  OkAfter h u m (runs n) = Inv back p s g h u (core n)
  OkAfter h u m closes = JInv p s g h u

  abbrev pub Good : List Act → Log → Mem → Plan → Type 0
  Good hist v m pl = WP (JInv p s g) pl.acts hist v (λ h u. OkAfter h u m pl.after)

  good_carry : (hist : List Act) (v : Log) (m : Mem) (w : Work) (a : Answer) → Ends back p law s g hist v w → Good hist v m (carry s w a)
  good_carry hist v m w a e = wp_more (JInv p s g) w.acts hist v _ _ (λ h u i. filled h u w.mem i) e

  good_or : (hist : List Act) (v : Log) (m : Mem) (n : ℕ) (pl : Plan) → Inv back p s g hist v (core m) → Good hist v m pl → Good hist v m (or_refuse n pl)
  good_or hist v m zero pl i q = q
  good_or hist v m (suc n) pl i q = i

  -- where a refusal's number is 0 no refusal applies, and the plan is carried out
  good_or_0 : (hist : List Act) (v : Log) (m : Mem) (n : ℕ) (pl : Plan) → Inv back p s g hist v (core m) → (n ≡ 0 → Good hist v m pl) → Good hist v m (or_refuse n pl)
  good_or_0 hist v m zero pl i q = q refl
  good_or_0 hist v m (suc n) pl i q = i

  pub good_message : Sizes → (hist : List Act) (v : Log) (m : Mem) (k b : Bytes) (room : ℕ) → All (λ x. x < 256) b → Inv back p s g hist v (core m) → (g ≡ true → OwnKey p k → ⊥) → Good hist v m (plan_message p s m k b room)
  good_message sizes hist v m k b room bytes i foreign =
      good_or hist v m (refused_short room) _ i
      (read_both (Good hist v m) (forms.message b) (undecoded k) (plan_told p s m k)
      (λ e _. (λ room r w z. absurd z, λ _. inv_hush hist v (core m) (block k) i refl))
      (λ t q. cond_both (too_high t) (refuse 13) _ (Good hist v m) (λ _. i)
      (λ r.
      let o = or_parts _ _ r in
      let lt = leb-false _ _ o.0 in
      let lh = leb-false _ _ o.1 in
      let z = sizes b t bytes q in
      good_carry hist v m (told p s k t m) (ack_answer p s k t.ack (tip_told s k t.tip m).mem)
      (ends_then back p law s g hist v (core m) (tip_told s k t.tip m) (ack_told p s k t.ack) (tip-first hist v m k t.tip i lt)
      (λ h u j _. ack-then h u (tip_told s k t.tip m).mem k t.ack j (record { high = omega arith; epoch = z.epoch; signer = z.signer; digest = z.digest; signature = z.signature }) lh foreign)))))

  -- Epoch change
  in_epoch_inv : (hist : List Act) (v : Log) (m : Mem) (e now : ℕ) → Inv back p s g hist v (core m) → e < 2 ^ 64 → m.epoch ≤ e → Inv back p s g hist v (core (in_epoch p s m e now))
  in_epoch_inv hist v m e now i l up = record {
    jour = i.jour;
    pos = i.pos;
    wide = i.wide;
    top = i.top;
    epoch = l;
    tips = i.tips;
    certs = i.certs;
    high = i.high;
    seats = λ x o.
        (let z = map_in_lem (λ (k : Bytes). record { key = k; tip = seat_tip m.seats k }) x (keys_of p e) o in
        subst (λ y. y.tip < 2 ^ 62) (sym z.2) (opt_both (λ n. n < 2 ^ 62) (first (λ y. bytes_eq z.0 y.key) m.seats) 0 (λ y. y.tip) (λ _. omega arith) (λ y q. i.seats y (first_in _ m.seats y q).0)));
    over = i.over;
    under = i.under;
    same = i.same;
    digests = i.digests;
    acks = λ a o. i.acks a (those_in _ a m.acks o).0;
    above = λ a o. i.above a (those_in _ a m.acks o).0;
    epochs = λ q a r. (let w = i.epochs q a r in omega arith);
    verified = λ q a r f x n h. (let w = i.epochs q a r in i.verified q a r (omega arith) x n h);
    ended = i.ended;
  }

  pub good_epoch : (hist : List Act) (v : Log) (m : Mem) (e now : ℕ) → Inv back p s g hist v (core m) → e < 2 ^ 64 → Good hist v m (plan_epoch p s m e now)
  good_epoch hist v m e now i l =
      good_or_0 hist v m (epoch_refusal p m e now) _ i
      (λ q.
      let r = all_clear (epoch_tests p m e now) (omega arith) q in
      filled hist v (in_epoch p s m e now) (in_epoch_inv hist v m e now i l (ltb-false _ _ r.1.0)))

  -- Slips
  one_quiet : (hist : List Act) (v : Log) (m : Mem) (a : Act) → ((room : Rattle.rules.specs.Acts.Space) (r : Rattle.rules.specs.Acts.Ended) (w : Log) → Rattle.rules.specs.Acts.Stops room a v r w → ⊥) → Rattle.rules.specs.Acts.in_log a v ≡ v → loud a ≡ false → Inv back p s g hist v (core m) → WP (JInv p s g) (a ∷ []) hist v (λ h u. Inv back p s g h u (core m))
  one_quiet hist v m a stop same q i = (λ room r w z. absurd (stop room r w z), λ _. subst (λ u. Inv back p s g (hist ++ (a ∷ [])) u (core m)) (sym same) (inv_hush hist v (core m) a i q))

  pub good_taking : (hist : List Act) (v : Log) (m : Mem) (l : List ℕ) → Inv back p s g hist v (core m) → Good hist v m (take_first m l)
  good_taking hist v m [] i = i
  good_taking hist v m (h ∷ l) i = one_quiet hist v m (hand_out h) (λ room r w z. z) refl refl i

  pub good_fetching : (hist : List Act) (v : Log) (m : Mem) (l : List ℕ) → Inv back p s g hist v (core m) → Good hist v m (fetch_first l)
  good_fetching hist v m [] i = i
  good_fetching hist v m (h ∷ l) i = one_quiet hist v m (fetch h) (λ room r w z. z) refl refl i

  pub good_put : (hist : List Act) (v : Log) (m : Mem) (h : ℕ) (a : Answer) → Inv back p s g hist v (core m) → Good hist v m (put_by m h a)
  good_put hist v m h a i =
      cond_both (is_pending m h) (lodge h ∷ []) (take_back h ∷ []) (λ l. WP (JInv p s g) l hist v (λ h u. Inv back p s g h u (core m)))
      (λ _. one_quiet hist v m (lodge h) (λ room r w z. z) refl refl i) (λ _. one_quiet hist v m (take_back h) (λ room r w z. z) refl refl i)

  pub good_digest : (hist : List Act) (v : Log) (m : Mem) (h : ℕ) (d : Bytes) (now room : ℕ) → Inv back p s g hist v (core m) → length d ≡ 32 → Good hist v m (plan_digest p s m h d now room)
  good_digest hist v m h d now room i l =
      cond_both (eqb (refused_late now room) 0) _ _ (Good hist v m)
      (λ _. good_carry hist v m (then (taken_back h m) (digest_for p s now h d)) ok
      (λ room r w z. absurd z, λ _. handing_in back p law s g (hist ++ (take_back h ∷ [])) v m now h d (inv_hush hist v (core m) (take_back h) i refl) l))
      (λ _. good_put hist v m h (refused (refused_late now room)) i)

  pub good_cancel : (hist : List Act) (v : Log) (m : Mem) (h : ℕ) → Inv back p s g hist v (core m) → Good hist v m (plan_cancel s m h)
  good_cancel hist v m h i = good_carry hist v m (taken_back h m) ok (one_quiet hist v m (take_back h) (λ room r w z. z) refl refl i)

  pub good_due : (hist : List Act) (v : Log) (m : Mem) (now room : ℕ) → Inv back p s g hist v (core m) → Good hist v m (plan_due p s m now room)
  good_due hist v m now room i = good_or hist v m (refused_late now room) _ i (go m.deadlines)
    where
      go : (l : List Deadline) → Good hist v m (front l (refuse 25) (λ d ds. cond (ltb now d.time) (refuse 25) (carry s (rebroadcast p s now d.height (with_deadlines ds m)) ok)))
      go [] = i
      go (d ∷ ds) = cond_both (ltb now d.time) (refuse 25) _ (Good hist v m) (λ _. i) (λ _. good_carry hist v m _ ok (again back p law s g hist v (with_deadlines ds m) now d.height i))

  pub shut_down : (hist : List Act) (v : Log) → JInv p s g hist v → WP (JInv p s g) (sync_all ∷ []) hist v (JInv p s g)
  shut_down hist v j = (λ room r w z. stop_sync back p s g hist v j r w z, λ _. hush p s g hist (all_synced v) sync_all (less p s g hist v (all_synced v) j (λ t b i. all_in t b v i) (λ t b d. new-all t b v (dur_in t b v d))) refl)

  pub good_closing : (hist : List Act) (v : Log) (m : Mem) (k : Desk) → Inv back p s g hist v (core m) → Good hist v m (plan_closing k)
  good_closing hist v m k i = cond_both (eqb k.out 0) _ (refuse 26) (Good hist v m) (λ _. shut_down hist v i.jour) (λ _. i)
