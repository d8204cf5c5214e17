-- In every run, slips handed out are back or out. Assumes nothing.
use Rattle.std.proofs.Common.{◌≡◌, ℕ, ◌+◌, ◌-◌, ◌<◌, Bool, true, false, cond, ◌&&◌, eqb, ◌⊎◌, List, [], ◌∷◌, ◌++◌, length, Some, None, Option, sym, refl, ap, ◌∙◌, subst, inl, inr, arith, eqb-true}
use mathlib.Core.Bool.{false≢true}
use mathlib.Core.List.{Memᴰ}
use Rattle.std.proofs.lemmas.Bool.{cond_both}
use Rattle.rules.proofs.Flow.{replay, hand, hands-after, Able, Flow, Whole, shorter, balanced, replay_append, after-append, flow_append, did_flow, Calm, calm_flow, calm_hands, calm_handed, did_calm}
use Rattle.rules.proofs.Calm.{by_cond, P, calm_opening, calm_epoch, calm_message, calm_due, calm_closing, calm_digest, shuts}
use Rattle.journal.specs.Log.{Log}
use Rattle.provider.specs.Answers.{Answers}
use Rattle.rules.specs.Acts.{Act, hand_out, take_back, lodge, fetch, Ended, whole, full, below_bound, failed, off, Space, Did, at_desk, without}
use Rattle.rules.specs.Calls.{plan, plan_digest, put_by, refused_late, take_first, fetch_first, returned, plan_closing}
use Rattle.rules.specs.Lists.{opt}
use Rattle.rules.specs.Plans.{Event, opening, epoch_change, message, taking, fetching, handing_back, cancelling, lodging, due, closing, Answer, ok, slip, refused, After, stays, runs, closes, Plan, refuse}
use Rattle.rules.specs.Promises.{is_ok, is_opening, since_opening, handed_out, came_back}
use Rattle.rules.specs.Runs.{Sys, settle, Ends, Deed, called, Run, start, call, power_cut, held_after, hands, Held, is_off}
use Rattle.rules.specs.State.{Bytes, Settings, Mem, Desk, Engine, shut, running, halted, no_slips, desk_of, is_pending}

-- what a plan does to the slips, where the caller holds those in hs: what was done flows, and the caller holds as many as it says
pub record Fair (e : Event) (hs : List ℕ) (k : Desk) (pl : Plan) : Type 0 where
  flow : Flow pl.acts (length hs) k
  ends : shuts pl.after ≡ true → (k.out ≡ 0) × Calm pl.acts
  left : (fits : Space) (v : Log) (r : Ended) (done : List Act) (w : Log) (j : Desk) (a : Answer) (x y : Engine) →
      Did fits pl.acts v k r done w j → Ends r pl x j a y → is_off r ≡ false → length (held_after e a hs) ≡ hands-after done (length hs)

pub never : {b : Bool} {A : Type 0} → b ≡ false → b ≡ true → A
never p q = absurd (false≢true (sym p ∙ q))

-- an event that hands no slip over
fair_calm : (e : Event) (hs : List ℕ) (k : Desk) (pl : Plan) → ((a : Answer) → held_after e a hs ≡ hs) → P pl → Fair e hs k pl
fair_calm e hs k pl same c = record {
  flow = calm_flow pl.acts (length hs) k c.calm;
  ends = λ e. never c.stay e;
  left = λ fits v r done w j a x y d n o. ap length (same a) ∙ sym (calm_hands done (length hs) (did_calm fits pl.acts v k r done w j d c.calm));
}

-- a list of acts that begins with a slip's return
pub data Returns : List Act → Type 0 where
  back : (h : ℕ) {acts : List Act} → Calm acts → Returns (take_back h ∷ acts)
  aside : (h : ℕ) {acts : List Act} → Calm acts → Returns (lodge h ∷ acts)

returns_flow : {acts : List Act} (n : ℕ) (k : Desk) → Returns acts → 0 < n → Flow acts n k
returns_flow n k (back h {acts} c) o = (o, calm_flow acts (n - 1) (at_desk (take_back h) k) c)
returns_flow n k (aside h {acts} c) o = (o, calm_flow acts (n - 1) (at_desk (lodge h) k) c)

returns_left : {acts : List Act} → Returns acts → (n : ℕ) (k : Desk) (fits : Space) (v : Log) (r : Ended) (done : List Act) (w : Log) (j : Desk) →
    Did fits acts v k r done w j → hands-after done n ≡ n - 1
returns_left (back h c) n k fits v r done w j (inl (z, _, _)) = absurd z
returns_left (back h {acts} c) n k fits v r done w j (inr (_, (rest, e, d))) =
    ap (λ z. hands-after z n) e ∙ calm_hands rest (n - 1) (did_calm fits acts v (at_desk (take_back h) k) r rest w j d c)
returns_left (aside h c) n k fits v r done w j (inl (z, _, _)) = absurd z
returns_left (aside h {acts} c) n k fits v r done w j (inr (_, (rest, e, d))) =
    ap (λ z. hands-after z n) e ∙ calm_hands rest (n - 1) (did_calm fits acts v (at_desk (lodge h) k) r rest w j d c)

fair_return : (e : Event) (h : ℕ) (hs : List ℕ) (k : Desk) (pl : Plan) → ((a : Answer) → held_after e a hs ≡ without h hs) → Memᴰ h hs → Returns pl.acts → shuts pl.after ≡ false → Fair e hs k pl
fair_return e h hs k pl same m c st =
    let short = shorter h hs m in
    record {
      flow = returns_flow (length hs) k c (omega arith);
      ends = λ z. never st z;
      left = λ fits v r done w j a x y d n o.
          let g = returns_left c (length hs) k fits v r done w j d in
          let f = ap length (same a) in omega arith;
    }

-- the plans of a slip's return, where the caller holds the slip
pub record Ret (pl : Plan) : Type 0 where
  pub ret : Returns pl.acts
  pub stay : shuts pl.after ≡ false

pub ret_put : (m : Mem) (h : ℕ) (a : Answer) → Ret (put_by m h a)
ret_put m h a = record { ret = by_cond Returns (is_pending m h) _ _ (aside h tt) (back h tt); stay = refl }

pub ret_digest : (p : Answers) (s : Settings) (m : Mem) (h : ℕ) (d : Bytes) (now room : ℕ) → Ret (plan_digest p s m h d now room)
ret_digest p s m h d now room =
    by_cond Ret (eqb (refused_late now room) 0) _ _ (record { ret = back h (calm_digest p s now h d m); stay = refl }) (ret_put m h (refused (refused_late now room)))

none_held : (h : ℕ) (hs : List ℕ) (k : Desk) → Whole (length hs) k → Memᴰ h hs → k.out ≡ 0 → ⊥
none_held h hs k w m z = let s = shorter h hs m in omega arith

fair_returned : (e : Event) (h : ℕ) (hs : List ℕ) (x : Engine) (f : Mem → Plan) → ((a : Answer) → held_after e a hs ≡ without h hs) →
    Whole (length hs) (desk_of x) → Memᴰ h hs → ((m : Mem) → Ret (f m)) → Fair e hs (desk_of x) (returned x h f)
fair_returned e h hs shut f same w m r = absurd (none_held h hs no_slips w m refl)
fair_returned e h hs (running n k) f same w m r =
    cond_both (eqb k.out 0) (refuse 24) (f n) (Fair e hs k)
    (λ z. absurd (none_held h hs k w m (eqb-true k.out 0 z))) (λ _. fair_return e h hs k (f n) same m (r n).ret (r n).stay)
fair_returned e h hs (halted k) f same w m r =
    cond_both (eqb k.out 0) (refuse 24) (record { acts = take_back h ∷ []; after = stays; answer = refused 1 }) (Fair e hs k)
    (λ z. absurd (none_held h hs k w m (eqb-true k.out 0 z))) (λ _. fair_return e h hs k _ same m (back h tt) refl)

-- taking and fetching
refused_fair : (e : Event) (n : ℕ) (hs : List ℕ) (k : Desk) → held_after e (refused n) hs ≡ hs → Fair e hs k (refuse n)
refused_fair e n hs k same = record {
  flow = tt;
  ends = λ z. never refl z;
  left = λ fits v r done w j a x y d i o.
      let i' = subst (λ z. Ends z (refuse n) x j a y) d.0 i in
      ap (λ z. length (held_after e z hs)) i'.0 ∙ ap length same ∙ ap (λ z. hands-after z (length hs)) (sym d.1);
}

one_act : (e : Event) (b : Act) (h : ℕ) (hs : List ℕ) (k : Desk) (f : After) → shuts f ≡ false → Able b (length hs) k →
    ((fits : Space) (v w : Log) (r : Ended) → Rattle.rules.specs.Acts.Stops fits b v r w → ⊥) →
    held_after e (slip h) hs ≡ h ∷ hs → hand b (length hs) ≡ length hs + 1 → Fair e hs k (record { acts = b ∷ []; after = f; answer = slip h })
one_act e b h hs k f st able go same more = record {
  flow = (able, tt);
  ends = λ z. never st z;
  left = λ fits v r done w j a x y d i o.
      elim d [
        | inl q ↦ absurd (go fits v w r q.0)
        | inr q ↦
            let i' = subst (λ z. Ends z (record { acts = b ∷ []; after = f; answer = slip h }) x j a y) q.1.2.0 i in
            let u = ap (λ z. length (held_after e z hs)) i'.0 ∙ ap length same in
            let t = ap (λ z. hands-after z (length hs)) (q.1.1 ∙ ap (λ z. b ∷ z) q.1.2.1) in
            omega arith
      ];
}

fair_take : (m : Mem) (l hs : List ℕ) (k : Desk) → Fair taking hs k (take_first m l)
fair_take m [] hs k = refused_fair taking 23 hs k refl
fair_take m (h ∷ l) hs k = one_act taking (hand_out h) h hs k _ refl tt (λ fits v w r z. z) refl refl

fair_fetch : (l hs : List ℕ) (k : Desk) → k.lodged ≡ l → Fair fetching hs k (fetch_first l)
fair_fetch [] hs k e = refused_fair fetching 23 hs k refl
fair_fetch (h ∷ l) hs k e =
    one_act fetching (fetch h) h hs k _ refl
    (shorter h k.lodged (subst (Memᴰ h) (sym e) (mathlib.Core.List.Memᴰ.head refl))) (λ fits v w r z. z) refl refl

fair_close : (hs : List ℕ) (k : Desk) → Fair closing hs k (plan_closing k)
fair_close hs k = record {
  flow = calm_flow _ (length hs) k (calm_closing k);
  ends = cond_both (eqb k.out 0) (record { acts = Rattle.rules.specs.Acts.sync_all ∷ []; after = closes; answer = ok }) (refuse 26) (λ pl. shuts pl.after ≡ true → (k.out ≡ 0) × Calm pl.acts)
      (λ z _. (eqb-true k.out 0 z, ((λ n k. tt, λ n. refl, refl), tt))) (λ _ z. never refl z);
  left = λ fits v r done w j a x y d n o. sym (calm_hands done (length hs) (did_calm fits (plan_closing k).acts v k r done w j d (calm_closing k)));
}

fair : (p : Answers) (s : Settings) (x : Engine) (v : Log) (e : Event) (hs : List ℕ) → Whole (length hs) (desk_of x) → Held e hs → Fair e hs (desk_of x) (plan p s x v None e)
fair p s x v (opening e now room) hs w m = fair_calm (opening e now room) hs (desk_of x) _ (λ a. refl) (calm_opening p s x v None e now room)
fair p s shut v (epoch_change e now) hs w m = refused_fair _ 1 hs no_slips refl
fair p s (running n k) v (epoch_change e now) hs w m = fair_calm (epoch_change e now) hs k _ (λ a. refl) (calm_epoch p s n e now)
fair p s (halted k) v (epoch_change e now) hs w m = refused_fair _ 1 hs k refl
fair p s shut v (message c b room) hs w m = refused_fair _ 1 hs no_slips refl
fair p s (running n k) v (message c b room) hs w m = fair_calm (message c b room) hs k _ (λ a. refl) (calm_message p s n c b room)
fair p s (halted k) v (message c b room) hs w m = refused_fair _ 1 hs k refl
fair p s shut v taking hs w m = refused_fair taking 1 hs no_slips refl
fair p s (running n k) v taking hs w m = fair_take n n.wanted hs k
fair p s (halted k) v taking hs w m = refused_fair taking 1 hs k refl
fair p s shut v fetching hs w m = refused_fair fetching 23 hs no_slips refl
fair p s (running n k) v fetching hs w m = fair_fetch k.lodged hs k refl
fair p s (halted k) v fetching hs w m = fair_fetch k.lodged hs k refl
fair p s x v (handing_back h d now room) hs w m = fair_returned (handing_back h d now room) h hs x _ (λ a. refl) w m (λ n. ret_digest p s n h d now room)
fair p s x v (cancelling h) hs w m = fair_returned (cancelling h) h hs x _ (λ a. refl) w m (λ n. record { ret = back h tt; stay = refl })
fair p s x v (lodging h) hs w m = fair_returned (lodging h) h hs x _ (λ a. refl) w m (λ n. ret_put n h ok)
fair p s shut v (due now room) hs w m = refused_fair _ 1 hs no_slips refl
fair p s (running n k) v (due now room) hs w m = fair_calm (due now room) hs k _ (λ a. refl) (calm_due p s n now room)
fair p s (halted k) v (due now room) hs w m = refused_fair _ 1 hs k refl
fair p s shut v closing hs w m = refused_fair _ 1 hs no_slips refl
fair p s (running n k) v closing hs w m = fair_close hs k
fair p s (halted k) v closing hs w m = fair_close hs k

-- the induction
record Inv (x : Engine) (past : List Deed) : Type 0 where
  hold : Whole (length (hands past)) (desk_of x)
  since : (acts : List Act) → since_opening past ≡ Some acts →
      (desk_of x ≡ replay acts no_slips) × Flow acts 0 no_slips × (hands-after acts 0 ≡ length (hands past))

desk-parts : {a b : ℕ} {c d : List ℕ} → a ≡ b → c ≡ d → ◌≡◌ {A = Desk} (record { out = a; lodged = c }) (record { out = b; lodged = d })
desk-parts p q = cc

no_desk : (j : Desk) → j.out ≡ 0 → length j.lodged ≡ 0 → j ≡ no_slips
no_desk j o l = desk-parts o (no_list j.lodged l)
  where
    no_list : (l : List ℕ) → length l ≡ 0 → l ≡ []
    no_list [] e = refl
    no_list (x ∷ l) e = absurd (omega arith)

-- calm acts leave an empty desk empty
stays-empty : (fits : Space) (acts : List Act) (v : Log) (k : Desk) (r : Ended) (done : List Act) (w : Log) (j : Desk) (n : ℕ) →
    Did fits acts v k r done w j → Calm acts → k.out ≡ 0 → Whole n k → j ≡ no_slips
stays-empty fits acts v k r done w j n d c z h =
    let q = did_calm fits acts v k r done w j d c in
    let g = did_flow fits acts v k r done w j n d (calm_flow acts n k c) in
    let b = balanced done n k g.0 h in
    let e = ap length (calm_handed done q) in
    let o : (replay done k).out ≡ 0 = omega (arith, b.0, e) in
    let l : length (replay done k).lodged ≡ 0 = omega (arith, b.1, o) in
    g.1 ∙ no_desk (replay done k) o l

shut_calm : (p : Answers) (s : Settings) (v : Log) (e : Event) → Calm (plan p s shut v None e).acts
shut_calm p s v (opening e now room) = (calm_opening p s shut v None e now room).calm
shut_calm p s v (epoch_change e now) = tt
shut_calm p s v (message k b room) = tt
shut_calm p s v taking = tt
shut_calm p s v fetching = tt
shut_calm p s v (handing_back h d now room) = tt
shut_calm p s v (cancelling h) = tt
shut_calm p s v (lodging h) = tt
shut_calm p s v (due now room) = tt
shut_calm p s v closing = tt

settled : (f : After) (x : Engine) (j : Desk) → (x ≡ shut → j ≡ no_slips) → (shuts f ≡ true → j ≡ no_slips) → desk_of (settle f x j) ≡ j
settled stays shut j h g = sym (h refl)
settled stays (running m k) j h g = refl
settled stays (halted k) j h g = refl
settled (runs m) x j h g = refl
settled closes x j h g = sym (g refl)

desk-left : (r : Ended) (pl : Plan) (x : Engine) (j : Desk) (a : Answer) (y : Engine) → Ends r pl x j a y → is_off r ≡ false →
    (x ≡ shut → j ≡ no_slips) → (shuts pl.after ≡ true → j ≡ no_slips) → desk_of y ≡ j
desk-left whole pl x j a y (_, e) o h g = ap desk_of e ∙ settled pl.after x j h g
desk-left full pl x j a y (_, e) o h g = ap desk_of e
desk-left below_bound pl x j a y (_, e) o h g = ap desk_of e
desk-left failed pl x j a y (_, e) o h g = ap desk_of e
desk-left off pl x j a y (e, _) o h g = never o refl

not_ok : (r : Ended) (n : ℕ) (x : Engine) (j : Desk) (a : Answer) (y : Engine) → Ends r (refuse n) x j a y → is_ok a ≡ true → {A : Type 0} → A
not_ok whole n x j a y (e, _) o = never (ap is_ok e) o
not_ok full n x j a y (e, _) o = never (ap is_ok e) o
not_ok below_bound n x j a y (e, _) o = never (ap is_ok e) o
not_ok failed n x j a y (e, _) o = never (ap is_ok e) o
not_ok off n x j a y (e, _) o = never (ap is_ok e) o

-- only a shut engine is opened
pub was_shut : (p : Answers) (s : Settings) (x : Engine) (v : Log) (e : Event) (r : Ended) (j : Desk) (a : Answer) (y : Engine) →
    Ends r (plan p s x v None e) x j a y → (is_opening e && is_ok a) ≡ true → x ≡ shut
was_shut p s shut v e r j a y n o = refl
was_shut p s (running m k) v (opening e now room) r j a y n o = not_ok r 2 (running m k) j a y n o
was_shut p s (halted k) v (opening e now room) r j a y n o = not_ok r 2 (halted k) j a y n o
was_shut p s (running m k) v (epoch_change e now) r j a y n o = never refl o
was_shut p s (halted k) v (epoch_change e now) r j a y n o = never refl o
was_shut p s (running m k) v (message c b room) r j a y n o = never refl o
was_shut p s (halted k) v (message c b room) r j a y n o = never refl o
was_shut p s (running m k) v taking r j a y n o = never refl o
was_shut p s (halted k) v taking r j a y n o = never refl o
was_shut p s (running m k) v fetching r j a y n o = never refl o
was_shut p s (halted k) v fetching r j a y n o = never refl o
was_shut p s (running m k) v (handing_back h d now room) r j a y n o = never refl o
was_shut p s (halted k) v (handing_back h d now room) r j a y n o = never refl o
was_shut p s (running m k) v (cancelling h) r j a y n o = never refl o
was_shut p s (halted k) v (cancelling h) r j a y n o = never refl o
was_shut p s (running m k) v (lodging h) r j a y n o = never refl o
was_shut p s (halted k) v (lodging h) r j a y n o = never refl o
was_shut p s (running m k) v (due now room) r j a y n o = never refl o
was_shut p s (halted k) v (due now room) r j a y n o = never refl o
was_shut p s (running m k) v closing r j a y n o = never refl o
was_shut p s (halted k) v closing r j a y n o = never refl o

pub pick : (b : Bool) (o : Option (List Act)) (done acts : List Act) → cond b (Some []) (opt o None (λ xs. Some (xs ++ done))) ≡ Some acts →
    ((b ≡ true) × (acts ≡ [])) ⊎ ((xs : List Act) × (o ≡ Some xs) × (acts ≡ xs ++ done))
pick true o done acts e = inl (refl, cc)
pick false None done acts e = let z : ◌≡◌ {A = ℕ} 0 1 = cc in absurd (omega arith)
pick false (Some xs) done acts e = inr (xs, refl, cc)

live : (p : Answers) (s : Settings) (fits : Space) (x : Engine) (v : Log) (e : Event) (a : Answer) (done : List Act) (y : Engine) (w : Log) (r : Ended) (j : Desk) (past : List Deed) →
    Inv x past → Held e (hands past) → Did fits (plan p s x v None e).acts v (desk_of x) r done w j → Ends r (plan p s x v None e) x j a y → is_off r ≡ false →
    Inv y (called r e a done ∷ past)
live p s fits x v e a done y w r j past i m d n o =
    let hs = hands past in
    let k = desk_of x in
    let f = fair p s x v e hs i.hold m in
    let g = did_flow fits (plan p s x v None e).acts v k r done w j (length hs) d f.flow in
    let b = balanced done (length hs) k g.0 i.hold in
    let new : hands (called r e a done ∷ past) ≡ held_after e a hs = ap (λ q. cond q [] (held_after e a hs)) o in
    let count : length (hands (called r e a done ∷ past)) ≡ hands-after done (length hs) = ap length new ∙ f.left fits v r done w j a x y d n o in
    let at-shut : x ≡ shut → j ≡ no_slips = λ q.
    let d' = subst (λ z. Did fits (plan p s z v None e).acts v (desk_of z) r done w j) q d in
    stays-empty fits (plan p s shut v None e).acts v no_slips r done w j (length hs) d' (shut_calm p s v e) refl (subst (λ z. Whole (length hs) (desk_of z)) q i.hold) in
    let at-close : shuts (plan p s x v None e).after ≡ true → j ≡ no_slips = λ q.
    stays-empty fits (plan p s x v None e).acts v k r done w j (length hs) d (f.ends q).1 (f.ends q).0 i.hold in
    let there : desk_of y ≡ j = desk-left r (plan p s x v None e) x j a y n o at-shut at-close in
    let hold' : Whole (length (hands (called r e a done ∷ past))) (desk_of y) = subst (λ q. Whole q (desk_of y)) (sym count) (subst (Whole (hands-after done (length hs))) (sym (there ∙ g.1)) b.1) in
    record {
      hold = hold';
      since = λ acts q.
          let q' : cond (is_opening e && is_ok a) (Some []) (opt (since_opening past) None (λ xs. Some (xs ++ done))) ≡ Some acts =
          sym (ap (λ z. cond z None (cond (is_opening e && is_ok a) (Some []) (opt (since_opening past) None (λ xs. Some (xs ++ done))))) o) ∙ q in
          elim (pick (is_opening e && is_ok a) (since_opening past) done acts q') [
            | inl u ↦
                let z : desk_of y ≡ no_slips = there ∙ at-shut (was_shut p s x v e r j a y n u.0) in
                let t : Whole (length (hands (called r e a done ∷ past))) no_slips = subst (Whole (length (hands (called r e a done ∷ past)))) z hold' in
                subst (λ l. (desk_of y ≡ replay l no_slips) × Flow l 0 no_slips × (hands-after l 0 ≡ length (hands (called r e a done ∷ past)))) (sym u.1) (z, tt, omega arith)
            | inr u ↦
                let h = i.since u.0 u.1 in
                subst (λ l. (desk_of y ≡ replay l no_slips) × Flow l 0 no_slips × (hands-after l 0 ≡ length (hands (called r e a done ∷ past)))) (sym u.2) (
                  there ∙ g.1 ∙ ap (replay done) h.0 ∙ sym (replay_append u.0 done no_slips),
                  flow_append u.0 done 0 no_slips h.1 (subst (λ z. Flow done z (replay u.0 no_slips)) (sym h.2) (subst (Flow done (length hs)) h.0 g.0)),
                  after-append u.0 done 0 ∙ ap (hands-after done) h.2 ∙ sym count,
                )
          ];
    }

dead : (e : Event) (a : Answer) (done : List Act) (past : List Deed) → Inv shut (called off e a done ∷ past)
dead e a done past = record { hold = refl; since = λ acts q. let z : ◌≡◌ {A = ℕ} 0 1 = cc in absurd (omega arith) }

lives : (r : Ended) (p : Answers) (s : Settings) (fits : Space) (x : Engine) (v : Log) (e : Event) (a : Answer) (done : List Act) (y : Engine) (w : Log) (j : Desk) (past : List Deed) →
    Inv x past → Held e (hands past) → Did fits (plan p s x v None e).acts v (desk_of x) r done w j → Ends r (plan p s x v None e) x j a y → Inv y (called r e a done ∷ past)
lives whole p s fits x v e a done y w j past i m d n = live p s fits x v e a done y w whole j past i m d n refl
lives full p s fits x v e a done y w j past i m d n = live p s fits x v e a done y w full j past i m d n refl
lives below_bound p s fits x v e a done y w j past i m d n = live p s fits x v e a done y w below_bound j past i m d n refl
lives failed p s fits x v e a done y w j past i m d n = live p s fits x v e a done y w failed j past i m d n refl
lives off p s fits x v e a done y w j past i m d (_, u) = subst (λ z. Inv z (called off e a done ∷ past)) (sym u) (dead e a done past)

holds : {p : Answers} {s : Settings} {x : Sys} {past : List Deed} → Run p s x past → Inv x.engine past
holds start = record { hold = refl; since = λ acts q. let z : ◌≡◌ {A = ℕ} 0 1 = cc in absurd (omega arith) }
holds {p} {s} (call {x} {y} {past} run fits e a done z m c) =
    lives c.ended p s fits x.engine x.log e a done y.engine y.log c.desk past (holds run) m c.did c.left
holds (power_cut run w c) = record { hold = refl; since = λ acts q. let z : ◌≡◌ {A = ℕ} 0 1 = cc in absurd (omega arith) }

pub balance : (p : Answers) (s : Settings) (x : Sys) (past : List Deed) → Run p s x past →
    (acts : List Act) → since_opening past ≡ Some acts → length (handed_out acts) ≡ came_back no_slips acts + (desk_of x.engine).out
balance p s x past run acts e =
    let h = (holds run).since acts e in
    let b = balanced acts 0 no_slips h.1 refl in
    let o = ap (λ k. k.out) h.0 in
    omega (arith, b.0, o)
