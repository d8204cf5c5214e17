-- Every run keeps the promises. Assumes nothing.
use Rattle.std.proofs.Common.{◌≡◌, ℕ, zero, suc, ◌≤◌, Bool, true, false, cond, eqb, ◌⊎◌, List, [], ◌∷◌, ◌++◌, map, None, sym, refl, ap, ◌∙◌, subst, inl, inr}
use mathlib.Core.List.Memᴰ
use mathlib.Core.List.{Memᴰ}
use Rattle.forms.specs.Values.{Ack, Activity, ack}
use Rattle.forms.specs.Reading as forms
use Rattle.journal.specs.Log.{Log, Bytes, Placed, reading, Firmer, empty}
use Rattle.provider.specs.Answers.{Answers}
use Rattle.provider.specs.Laws.{Lawful}
use Rattle.rules.specs.Lists.{those}
use Rattle.rules.specs.State.{Settings, Mem, Desk, Engine, shut, running, halted, desk_of}
use Rattle.rules.specs.Acts.{Act, sync_all, tell, take_back, fetch, sign, Ended, whole, full, below_bound, failed, off, Space, Did}
use Rattle.rules.specs.Plans.{Event, opening, epoch_change, message, taking, fetching, handing_back, cancelling, lodging, due, closing, Answer, ok, After, stays, runs, closes, Plan, refuse, or_refuse}
use Rattle.rules.specs.Opening.{open_from, found_refusal, opening_refusal, before, plan_opening}
use Rattle.rules.specs.Message.{in_epoch, epoch_refusal, plan_epoch, plan_message}
use Rattle.rules.specs.Calls.{plan, take_first, fetch_first, counted_back, plan_due, plan_closing}
use Rattle.rules.specs.Runs.{Sys, settle, Ends, Deed, called, cut, Run, start, call, power_cut, Sized}
use Rattle.rules.specs.Promises.{acts_in, Accepted, Rising, OwnKey, NoneUnderOwnKey, Promises}
use Rattle.rules.proofs.Calm.{by_cond, by_read}
use Rattle.rules.proofs.Grow.{B, begins}
use Rattle.rules.proofs.Once.{slips_law}
use Rattle.rules.proofs.Recs.{none_in}
use Rattle.rules.proofs.Wp.{WP, Sound, sound}
use Rattle.rules.proofs.Ledger.{Rec, JInv, firmer, cut_short, hush}
use Rattle.rules.proofs.Entries.{Back, source_of}
use Rattle.rules.proofs.Memory.{core, Inv}
use Rattle.rules.proofs.Moves.{apart}
use Rattle.rules.proofs.Events.{Sizes, inv_firmer, OkAfter, Good, good_message, good_epoch, good_taking, good_fetching, good_put, good_digest, good_cancel, good_due, good_closing, shut_down}
use Rattle.rules.proofs.Opens.{OpenOk, Opens, opens}
use Rattle.rules.proofs.Signs.{Unsigned, unsigned, did_in, SameEpoch, Steady, steady_message, steady_taking, steady_fetching, steady_put, steady_digest, steady_cancel, steady_due, steady_closing, fill-epoch}

-- an opening signs nothing
tells_unsigned : (l : List Activity) → Unsigned (map tell l)
tells_unsigned [] = tt
tells_unsigned (x ∷ l) = (refl, tells_unsigned l)

abbrev Quiet : Plan → Type 0
Quiet pl = Unsigned pl.acts

open_quiet : (p : Answers) (s : Settings) (e now room : ℕ) (xs : List Activity) (rs : List Placed) → Quiet (open_from p s e now room xs None rs)
open_quiet p s e now room xs [] = by_cond Quiet (eqb (found_refusal p s e room xs) 0) _ _ (refl, tells_unsigned xs) (refl, tt)
open_quiet p s e now room xs (r ∷ rs) = by_read Quiet (forms.read r.bytes) _ _ (λ w. (refl, tt)) (λ x. open_quiet p s e now room (xs ++ (x ∷ [])) rs)

or_quiet : (n : ℕ) (pl : Plan) → Quiet pl → Quiet (or_refuse n pl)
or_quiet zero pl q = q
or_quiet (suc n) pl q = tt

opening_quiet : (p : Answers) (s : Settings) (x : Engine) (v : Log) (e now room : ℕ) → Quiet (plan_opening p s x v None e now room)
opening_quiet p s x v e now room = or_quiet (opening_refusal p s x e now) _ (open_quiet p s e now room [] (those (before None) (reading v.sections)))

epoch_quiet : (p : Answers) (s : Settings) (m : Mem) (e now : ℕ) → Quiet (plan_epoch p s m e now)
epoch_quiet p s m e now = or_quiet (epoch_refusal p m e now) _ tt

module _ (back : Back) (sizes : Sizes) (p : Answers) (law : Lawful p) (s : Settings) (g : Bool) where
  -- an engine, with what was done and its journal
  abbrev Eng : List Act → Log → Engine → Type 0
  Eng hist v shut = JInv p s g hist v
  Eng hist v (running m k) = Inv back p s g hist v (core m)
  Eng hist v (halted k) = JInv p s g hist v

  jour : (hist : List Act) (v : Log) (x : Engine) → Eng hist v x → JInv p s g hist v
  jour hist v shut i = i
  jour hist v (running m k) i = i.jour
  jour hist v (halted k) i = i

  -- how a call of a running engine ends
  done-run : (hist : List Act) (v : Log) (m : Mem) (k : Desk) (pl : Plan) → Good back p law s g hist v m pl →
      (room : Space) (r : Ended) (done : List Act) (w : Log) (j : Desk) (a : Answer) (y : Engine) → Did room pl.acts v k r done w j → Ends r pl (running m k) j a y → Eng (hist ++ done) w y
  done-run hist v m k pl good room r done w j a y d e = finish r (sound (JInv p s g) pl.acts hist v _ room k r done w j good d) e
    where
      so : (f : After) (u : Log) → OkAfter back p law s g (hist ++ done) u m f → Firmer u w → Eng (hist ++ done) w (settle f (running m k) j)
      so stays u i q = inv_firmer back p law s g (hist ++ done) u w (core m) i q
      so (runs n) u i q = inv_firmer back p law s g (hist ++ done) u w (core n) i q
      so closes u i q = firmer p s g (hist ++ done) u w i q

      finish : (r : Ended) → Sound (JInv p s g) (λ h u. OkAfter back p law s g h u m pl.after) (hist ++ done) r w → Ends r pl (running m k) j a y → Eng (hist ++ done) w y
      finish whole z (_, e) = let t = z.ends refl in subst (Eng (hist ++ done) w) (sym e) (so pl.after t.0 t.1 t.2)
      finish full z (_, e) = subst (Eng (hist ++ done) w) (sym e) (z.stops (λ q. apart (cc)))
      finish below_bound z (_, e) = subst (Eng (hist ++ done) w) (sym e) (z.stops (λ q. apart (cc)))
      finish failed z (_, e) = subst (Eng (hist ++ done) w) (sym e) (z.stops (λ q. apart (cc)))
      finish off z (_, e) = subst (Eng (hist ++ done) w) (sym e) (z.stops (λ q. apart (cc)))

  -- how a call ends that leaves no engine running
  abbrev Idle : After → Type 0
  Idle stays = Unit {0}
  Idle (runs n) = ⊥
  Idle closes = Unit {0}

  abbrev Still : Engine → Type 0
  Still shut = Unit {0}
  Still (running m k) = ⊥
  Still (halted k) = Unit {0}

  pub record Rests (hist : List Act) (v : Log) (pl : Plan) : Type 0 where
    pub wp : WP (JInv p s g) pl.acts hist v (JInv p s g)
    pub idle : Idle pl.after

  done_rest : (hist : List Act) (v : Log) (x : Engine) (k : Desk) (pl : Plan) → Still x → Rests hist v pl →
      (room : Space) (r : Ended) (done : List Act) (w : Log) (j : Desk) (a : Answer) (y : Engine) → Did room pl.acts v k r done w j → Ends r pl x j a y → Eng (hist ++ done) w y
  done_rest hist v x k pl st q room r done w j a y d e = finish r (sound (JInv p s g) pl.acts hist v _ room k r done w j q.wp d) e
    where
      so : (f : After) (x : Engine) → Still x → Idle f → JInv p s g (hist ++ done) w → Eng (hist ++ done) w (settle f x j)
      so stays shut st id i = i
      so stays (running m k) st id i = absurd st
      so stays (halted k) st id i = i
      so (runs n) x st id i = absurd id
      so closes x st id i = i

      finish : (r : Ended) → Sound (JInv p s g) (JInv p s g) (hist ++ done) r w → Ends r pl x j a y → Eng (hist ++ done) w y
      finish whole z (_, e) = let t = z.ends refl in subst (Eng (hist ++ done) w) (sym e) (so pl.after x st q.idle (firmer p s g (hist ++ done) t.0 w t.1 t.2))
      finish full z (_, e) = subst (Eng (hist ++ done) w) (sym e) (z.stops (λ q. apart (cc)))
      finish below_bound z (_, e) = subst (Eng (hist ++ done) w) (sym e) (z.stops (λ q. apart (cc)))
      finish failed z (_, e) = subst (Eng (hist ++ done) w) (sym e) (z.stops (λ q. apart (cc)))
      finish off z (_, e) = subst (Eng (hist ++ done) w) (sym e) (z.stops (λ q. apart (cc)))

  rests_refuse : (hist : List Act) (v : Log) (n : ℕ) → JInv p s g hist v → Rests hist v (refuse n)
  rests_refuse hist v n i = record { wp = i; idle = tt }

  rests_fetch : (hist : List Act) (v : Log) (l : List ℕ) → JInv p s g hist v → Rests hist v (fetch_first l)
  rests_fetch hist v [] i = rests_refuse hist v 23 i
  rests_fetch hist v (h ∷ l) i = record { wp = (λ room r w z. absurd z, λ _. hush p s g hist v (fetch h) i refl); idle = tt }

  rests_back : (hist : List Act) (v : Log) (k : Desk) (h : ℕ) → JInv p s g hist v → Rests hist v (cond (eqb k.out 0) (refuse 24) (counted_back h))
  rests_back hist v k h i =
      by_cond (Rests hist v) (eqb k.out 0) (refuse 24) (counted_back h) (rests_refuse hist v 24 i)
      (record { wp = (λ room r w z. absurd z, λ _. hush p s g hist v (take_back h) i refl); idle = tt })

  rests_close : (hist : List Act) (v : Log) (k : Desk) → JInv p s g hist v → Rests hist v (plan_closing k)
  rests_close hist v k i =
      by_cond (Rests hist v) (eqb k.out 0) (record { acts = sync_all ∷ []; after = closes; answer = ok }) (refuse 26)
      (record { wp = shut_down back p law s g hist v i; idle = tt }) (rests_refuse hist v 26 i)

  -- how an opening ends
  done_open : (hist : List Act) (v : Log) (e now : ℕ) (pl : Plan) → Opens back p law s g e now hist v pl →
      (room : Space) (r : Ended) (done : List Act) (w : Log) (j : Desk) (a : Answer) (y : Engine) → Did room pl.acts v (desk_of shut) r done w j → Ends r pl shut j a y →
      (r ≡ whole → g ≡ true → (n : Mem) → pl.after ≡ runs n → (b : Ack) → Rec p s g (ack b) v → b.epoch ≤ e) → Eng (hist ++ done) w y
  done_open hist v e now pl good room r done w j a y d q up = finish r refl (sound (JInv p s g) pl.acts hist v _ room (desk_of shut) r done w j good d) q
    where
      so : r ≡ whole → (f : After) → pl.after ≡ f → (u : Log) → OpenOk back p law s g e now v (hist ++ done) u f → Firmer u w → Eng (hist ++ done) w (settle f shut j)
      so x stays z u i t = firmer p s g (hist ++ done) u w i t
      so x (runs n) z u i t = inv_firmer back p law s g (hist ++ done) u w (core n) (i (λ k. up x k n z)) t
      so x closes z u i t = firmer p s g (hist ++ done) u w i t

      finish : (o : Ended) → r ≡ o → Sound (JInv p s g) (λ h u. OpenOk back p law s g e now v h u pl.after) (hist ++ done) r w → Ends r pl shut j a y → Eng (hist ++ done) w y
      finish whole x z t =
          let t' = subst (λ o. Ends o pl shut j a y) x t in
          let k = z.ends x in subst (Eng (hist ++ done) w) (sym t'.1) (so x pl.after refl k.0 k.1 k.2)
      finish full x z t = subst (Eng (hist ++ done) w) (sym (subst (λ o. Ends o pl shut j a y) x t).1) (z.stops (λ q. apart (cc)))
      finish below_bound x z t = subst (Eng (hist ++ done) w) (sym (subst (λ o. Ends o pl shut j a y) x t).1) (z.stops (λ q. apart (cc)))
      finish failed x z t = subst (Eng (hist ++ done) w) (sym (subst (λ o. Ends o pl shut j a y) x t).1) (z.stops (λ q. apart (cc)))
      finish off x z t = subst (Eng (hist ++ done) w) (sym (subst (λ o. Ends o pl shut j a y) x t).1) (z.stops (λ q. apart (cc)))

  -- an ack that a plan signs is of the engine's epoch
  abbrev Signer : Engine → Ack → Type 0
  Signer shut a = ⊥
  Signer (running m k) a = a.epoch ≡ m.epoch
  Signer (halted k) a = ⊥

  rest_signs : (x : Engine) (pl : Plan) (a : Ack) → Unsigned pl.acts → Memᴰ (sign a) pl.acts → Signer x a
  rest_signs x pl a u m = absurd (unsigned pl.acts a u m)

  fetch_quiet : (l : List ℕ) → Quiet (fetch_first l)
  fetch_quiet [] = tt
  fetch_quiet (h ∷ l) = (refl, tt)

  plan-signs : (x : Engine) (v : Log) (e : Event) (a : Ack) → Memᴰ (sign a) (plan p s x v None e).acts → Signer x a
  plan-signs x v (opening e now room) a m = rest_signs x (plan_opening p s x v None e now room) a (opening_quiet p s x v e now room) m
  plan-signs shut v (epoch_change e now) a m = Memᴰ.not-nil m
  plan-signs (running n k) v (epoch_change e now) a m = rest_signs (running n k) (plan_epoch p s n e now) a (epoch_quiet p s n e now) m
  plan-signs (halted k) v (epoch_change e now) a m = Memᴰ.not-nil m
  plan-signs shut v (message c b room) a m = Memᴰ.not-nil m
  plan-signs (running n k) v (message c b room) a m = (steady_message p s n c b room).signs a m
  plan-signs (halted k) v (message c b room) a m = Memᴰ.not-nil m
  plan-signs shut v taking a m = Memᴰ.not-nil m
  plan-signs (running n k) v taking a m = (steady_taking n n.wanted).signs a m
  plan-signs (halted k) v taking a m = Memᴰ.not-nil m
  plan-signs shut v fetching a m = Memᴰ.not-nil m
  plan-signs (running n k) v fetching a m = (steady_fetching n.epoch k.lodged).signs a m
  plan-signs (halted k) v fetching a m = rest_signs (halted k) (fetch_first k.lodged) a (fetch_quiet k.lodged) m
  plan-signs shut v (handing_back h d now room) a m = Memᴰ.not-nil m
  plan-signs (running n k) v (handing_back h d now room) a m = by_cond (λ pl. Memᴰ (sign a) pl.acts → a.epoch ≡ n.epoch) (eqb k.out 0) (refuse 24) _ (λ z. absurd (Memᴰ.not-nil z)) ((steady_digest p s n h d now room).signs a) m
  plan-signs (halted k) v (handing_back h d now room) a m = rest_signs (halted k) (cond (eqb k.out 0) (refuse 24) (counted_back h)) a (by_cond Quiet (eqb k.out 0) (refuse 24) (counted_back h) tt (refl, tt)) m
  plan-signs shut v (cancelling h) a m = Memᴰ.not-nil m
  plan-signs (running n k) v (cancelling h) a m = by_cond (λ pl. Memᴰ (sign a) pl.acts → a.epoch ≡ n.epoch) (eqb k.out 0) (refuse 24) _ (λ z. absurd (Memᴰ.not-nil z)) ((steady_cancel s n h).signs a) m
  plan-signs (halted k) v (cancelling h) a m = rest_signs (halted k) (cond (eqb k.out 0) (refuse 24) (counted_back h)) a (by_cond Quiet (eqb k.out 0) (refuse 24) (counted_back h) tt (refl, tt)) m
  plan-signs shut v (lodging h) a m = Memᴰ.not-nil m
  plan-signs (running n k) v (lodging h) a m = by_cond (λ pl. Memᴰ (sign a) pl.acts → a.epoch ≡ n.epoch) (eqb k.out 0) (refuse 24) _ (λ z. absurd (Memᴰ.not-nil z)) ((steady_put n h ok).signs a) m
  plan-signs (halted k) v (lodging h) a m = rest_signs (halted k) (cond (eqb k.out 0) (refuse 24) (counted_back h)) a (by_cond Quiet (eqb k.out 0) (refuse 24) (counted_back h) tt (refl, tt)) m
  plan-signs shut v (due now room) a m = Memᴰ.not-nil m
  plan-signs (running n k) v (due now room) a m = (steady_due p s n now room).signs a m
  plan-signs (halted k) v (due now room) a m = Memᴰ.not-nil m
  plan-signs shut v closing a m = Memᴰ.not-nil m
  plan-signs (running n k) v closing a m = (steady_closing n.epoch k).signs a m
  plan-signs (halted k) v closing a m = rest_signs (halted k) (plan_closing k) a (by_cond Quiet (eqb k.out 0) (record { acts = sync_all ∷ []; after = closes; answer = ok }) (refuse 26) (refl, tt) tt) m

  -- an engine that runs after a call is in the epoch that it was in, or in one that the call was carried out for
  abbrev Named : Event → ℕ → Type 0
  Named (opening f now room) e = e ≡ f
  Named (epoch_change f now) e = e ≡ f
  Named (message c b room) e = ⊥
  Named taking e = ⊥
  Named fetching e = ⊥
  Named (handing_back h d now room) e = ⊥
  Named (cancelling h) e = ⊥
  Named (lodging h) e = ⊥
  Named (due now room) e = ⊥
  Named closing e = ⊥

  abbrev Was : Engine → ℕ → Type 0
  Was shut e = ⊥
  Was (running m k) e = e ≡ m.epoch
  Was (halted k) e = ⊥

  abbrev InEpoch : Engine → Event → After → Answer → Type 0
  InEpoch x v stays a = Unit {0}
  InEpoch x v (runs n) a = Was x n.epoch ⊎ (Named v n.epoch × (a ≡ ok))
  InEpoch x v closes a = Unit {0}

  by_steady : (m : Mem) (k : Desk) (v : Event) (pl : Plan) → SameEpoch m.epoch pl.after → InEpoch (running m k) v pl.after pl.answer
  by_steady m k v pl q = go pl.after q
    where
      go : (f : After) → SameEpoch m.epoch f → InEpoch (running m k) v f pl.answer
      go stays q = tt
      go (runs n) q = inl q
      go closes q = tt

  open_epoch : (x : Engine) (e now room : ℕ) (xs : List Activity) (rs : List Placed) → InEpoch x (opening e now room) (open_from p s e now room xs None rs).after (open_from p s e now room xs None rs).answer
  open_epoch x e now room xs [] = by_cond (λ (pl : Plan). InEpoch x (opening e now room) pl.after pl.answer) (eqb (found_refusal p s e room xs) 0) _ _ (inr (fill-epoch s.window s _, refl)) tt
  open_epoch x e now room xs (r ∷ rs) =
      by_read (λ (pl : Plan). InEpoch x (opening e now room) pl.after pl.answer) (forms.read r.bytes) _ _ (λ w. tt) (λ y. open_epoch x e now room (xs ++ (y ∷ [])) rs)

  or_epoch : (x : Engine) (v : Event) (n : ℕ) (pl : Plan) → InEpoch x v pl.after pl.answer → InEpoch x v (or_refuse n pl).after (or_refuse n pl).answer
  or_epoch x v zero pl q = q
  or_epoch x v (suc n) pl q = tt

  back-epoch : (m : Mem) (k : Desk) (v : Event) (pl : Plan) → Steady m.epoch pl → InEpoch (running m k) v (cond (eqb k.out 0) (refuse 24) pl).after (cond (eqb k.out 0) (refuse 24) pl).answer
  back-epoch m k v pl q = by_cond (λ z. InEpoch (running m k) v z.after z.answer) (eqb k.out 0) (refuse 24) pl tt (by_steady m k v pl q.epoch)

  rest_epoch : (k : Desk) (x : Engine) (v : Event) (h : ℕ) → InEpoch x v (cond (eqb k.out 0) (refuse 24) (counted_back h)).after (cond (eqb k.out 0) (refuse 24) (counted_back h)).answer
  rest_epoch k x v h = by_cond (λ z. InEpoch x v z.after z.answer) (eqb k.out 0) (refuse 24) (counted_back h) tt tt

  fetch-epoch : (x : Engine) (v : Event) (l : List ℕ) → InEpoch x v (fetch_first l).after (fetch_first l).answer
  fetch-epoch x v [] = tt
  fetch-epoch x v (h ∷ l) = tt

  close_epoch : (x : Engine) (v : Event) (k : Desk) → InEpoch x v (plan_closing k).after (plan_closing k).answer
  close_epoch x v k = by_cond (λ z. InEpoch x v z.after z.answer) (eqb k.out 0) (record { acts = sync_all ∷ []; after = closes; answer = ok }) (refuse 26) tt tt

  plan-epochs : (x : Engine) (v : Log) (e : Event) → InEpoch x e (plan p s x v None e).after (plan p s x v None e).answer
  plan-epochs x v (opening e now room) = or_epoch x (opening e now room) (opening_refusal p s x e now) _ (open_epoch x e now room [] (those (before None) (reading v.sections)))
  plan-epochs shut v (epoch_change e now) = tt
  plan-epochs (running n k) v (epoch_change e now) = or_epoch (running n k) (epoch_change e now) (epoch_refusal p n e now) _ (inr (fill-epoch s.window s (in_epoch p s n e now), refl))
  plan-epochs (halted k) v (epoch_change e now) = tt
  plan-epochs shut v (message c b room) = tt
  plan-epochs (running n k) v (message c b room) = by_steady n k (message c b room) (plan_message p s n c b room) (steady_message p s n c b room).epoch
  plan-epochs (halted k) v (message c b room) = tt
  plan-epochs shut v taking = tt
  plan-epochs (running n k) v taking = by_steady n k taking (take_first n n.wanted) (steady_taking n n.wanted).epoch
  plan-epochs (halted k) v taking = tt
  plan-epochs shut v fetching = tt
  plan-epochs (running n k) v fetching = fetch-epoch (running n k) fetching k.lodged
  plan-epochs (halted k) v fetching = fetch-epoch (halted k) fetching k.lodged
  plan-epochs shut v (handing_back h d now room) = tt
  plan-epochs (running n k) v (handing_back h d now room) = back-epoch n k (handing_back h d now room) _ (steady_digest p s n h d now room)
  plan-epochs (halted k) v (handing_back h d now room) = rest_epoch k (halted k) (handing_back h d now room) h
  plan-epochs shut v (cancelling h) = tt
  plan-epochs (running n k) v (cancelling h) = back-epoch n k (cancelling h) _ (steady_cancel s n h)
  plan-epochs (halted k) v (cancelling h) = rest_epoch k (halted k) (cancelling h) h
  plan-epochs shut v (lodging h) = tt
  plan-epochs (running n k) v (lodging h) = back-epoch n k (lodging h) _ (steady_put n h ok)
  plan-epochs (halted k) v (lodging h) = rest_epoch k (halted k) (lodging h) h
  plan-epochs shut v (due now room) = tt
  plan-epochs (running n k) v (due now room) = by_steady n k (due now room) (plan_due p s n now room) (steady_due p s n now room).epoch
  plan-epochs (halted k) v (due now room) = tt
  plan-epochs shut v closing = tt
  plan-epochs (running n k) v closing = close_epoch (running n k) closing k
  plan-epochs (halted k) v closing = close_epoch (halted k) closing k

  -- what the premises say of one call
  pub record Fair (hist : List Act) (v : Log) (x : Engine) (e : Event) (r : Ended) : Type 0 where
    pub foreign : (k b : Bytes) (room : ℕ) → e ≡ message k b room → g ≡ true → OwnKey p k → ⊥
    pub up : (f now room : ℕ) → e ≡ opening f now room → r ≡ whole → g ≡ true → (n : Mem) → (plan p s x v None e).after ≡ runs n → (b : Ack) → Rec p s g (ack b) v → b.epoch ≤ f

  called_eng : (x : Engine) (hist : List Act) (v : Log) (e : Event) (room : Space) (r : Ended) (done : List Act) (w : Log) (j : Desk) (a : Answer) (y : Engine) → Eng hist v x → Sized e → Fair hist v x e r →
      Did room (plan p s x v None e).acts v (desk_of x) r done w j → Ends r (plan p s x v None e) x j a y → Eng (hist ++ done) w y
  called_eng shut hist v (opening e now room) sp r done w j a y i z f d q = done_open hist v e now _ (opens back p law s g e now hist v room i z) sp r done w j a y d q (f.up e now room refl)
  called_eng (running m k) hist v (opening e now room) sp r done w j a y i z f d q = done-run hist v m k (refuse 2) i sp r done w j a y d q
  called_eng (halted k) hist v (opening e now room) sp r done w j a y i z f d q = done_rest hist v (halted k) k (refuse 2) tt (rests_refuse hist v 2 i) sp r done w j a y d q
  called_eng shut hist v (epoch_change e now) sp r done w j a y i z f d q = done_rest hist v shut (desk_of shut) (refuse 1) tt (rests_refuse hist v 1 i) sp r done w j a y d q
  called_eng (running m k) hist v (epoch_change e now) sp r done w j a y i z f d q = done-run hist v m k _ (good_epoch back p law s g hist v m e now i z) sp r done w j a y d q
  called_eng (halted k) hist v (epoch_change e now) sp r done w j a y i z f d q = done_rest hist v (halted k) k (refuse 1) tt (rests_refuse hist v 1 i) sp r done w j a y d q
  called_eng shut hist v (message c b room) sp r done w j a y i z f d q = done_rest hist v shut (desk_of shut) (refuse 1) tt (rests_refuse hist v 1 i) sp r done w j a y d q
  called_eng (running m k) hist v (message c b room) sp r done w j a y i z f d q = done-run hist v m k _ (good_message back p law s g sizes hist v m c b room z.1 i (f.foreign c b room refl)) sp r done w j a y d q
  called_eng (halted k) hist v (message c b room) sp r done w j a y i z f d q = done_rest hist v (halted k) k (refuse 1) tt (rests_refuse hist v 1 i) sp r done w j a y d q
  called_eng shut hist v taking sp r done w j a y i z f d q = done_rest hist v shut (desk_of shut) (refuse 1) tt (rests_refuse hist v 1 i) sp r done w j a y d q
  called_eng (running m k) hist v taking sp r done w j a y i z f d q = done-run hist v m k _ (good_taking back p law s g hist v m m.wanted i) sp r done w j a y d q
  called_eng (halted k) hist v taking sp r done w j a y i z f d q = done_rest hist v (halted k) k (refuse 1) tt (rests_refuse hist v 1 i) sp r done w j a y d q
  called_eng shut hist v fetching sp r done w j a y i z f d q = done_rest hist v shut (desk_of shut) (refuse 23) tt (rests_refuse hist v 23 i) sp r done w j a y d q
  called_eng (running m k) hist v fetching sp r done w j a y i z f d q = done-run hist v m k _ (good_fetching back p law s g hist v m k.lodged i) sp r done w j a y d q
  called_eng (halted k) hist v fetching sp r done w j a y i z f d q = done_rest hist v (halted k) k _ tt (rests_fetch hist v k.lodged i) sp r done w j a y d q
  called_eng shut hist v (handing_back h t now room) sp r done w j a y i z f d q = done_rest hist v shut (desk_of shut) (refuse 24) tt (rests_refuse hist v 24 i) sp r done w j a y d q
  called_eng (running m k) hist v (handing_back h t now room) sp r done w j a y i z f d q =
      done-run hist v m k _ (by_cond (Good back p law s g hist v m) (eqb k.out 0) (refuse 24) _ i (good_digest back p law s g hist v m h t now room i z)) sp r done w j a y d q
  called_eng (halted k) hist v (handing_back h t now room) sp r done w j a y i z f d q = done_rest hist v (halted k) k _ tt (rests_back hist v k h i) sp r done w j a y d q
  called_eng shut hist v (cancelling h) sp r done w j a y i z f d q = done_rest hist v shut (desk_of shut) (refuse 24) tt (rests_refuse hist v 24 i) sp r done w j a y d q
  called_eng (running m k) hist v (cancelling h) sp r done w j a y i z f d q =
      done-run hist v m k _ (by_cond (Good back p law s g hist v m) (eqb k.out 0) (refuse 24) _ i (good_cancel back p law s g hist v m h i)) sp r done w j a y d q
  called_eng (halted k) hist v (cancelling h) sp r done w j a y i z f d q = done_rest hist v (halted k) k _ tt (rests_back hist v k h i) sp r done w j a y d q
  called_eng shut hist v (lodging h) sp r done w j a y i z f d q = done_rest hist v shut (desk_of shut) (refuse 24) tt (rests_refuse hist v 24 i) sp r done w j a y d q
  called_eng (running m k) hist v (lodging h) sp r done w j a y i z f d q =
      done-run hist v m k _ (by_cond (Good back p law s g hist v m) (eqb k.out 0) (refuse 24) _ i (good_put back p law s g hist v m h ok i)) sp r done w j a y d q
  called_eng (halted k) hist v (lodging h) sp r done w j a y i z f d q = done_rest hist v (halted k) k _ tt (rests_back hist v k h i) sp r done w j a y d q
  called_eng shut hist v (due now room) sp r done w j a y i z f d q = done_rest hist v shut (desk_of shut) (refuse 1) tt (rests_refuse hist v 1 i) sp r done w j a y d q
  called_eng (running m k) hist v (due now room) sp r done w j a y i z f d q = done-run hist v m k _ (good_due back p law s g hist v m now room i) sp r done w j a y d q
  called_eng (halted k) hist v (due now room) sp r done w j a y i z f d q = done_rest hist v (halted k) k (refuse 1) tt (rests_refuse hist v 1 i) sp r done w j a y d q
  called_eng shut hist v closing sp r done w j a y i z f d q = done_rest hist v shut (desk_of shut) (refuse 1) tt (rests_refuse hist v 1 i) sp r done w j a y d q
  called_eng (running m k) hist v closing sp r done w j a y i z f d q = done-run hist v m k _ (good_closing back p law s g hist v m k i) sp r done w j a y d q
  called_eng (halted k) hist v closing sp r done w j a y i z f d q = done_rest hist v (halted k) k _ tt (rests_close hist v k i) sp r done w j a y d q

  -- after what happened
  abbrev Now : Engine → List Deed → Type 0
  Now shut past = Unit {0}
  Now (running m k) past = Accepted m.epoch past
  Now (halted k) past = Unit {0}

  pub record RInv (x : Sys) (past : List Deed) : Type 0 where
    pub eng : Eng (acts_in past) x.log x.engine
    pub signs : (a : Ack) → Memᴰ (sign a) (acts_in past) → Accepted a.epoch past
    pub now : Now x.engine past

  accepted_on : (d : Deed) (f : ℕ) (past : List Deed) → Accepted f past → Accepted f (d ∷ past)
  accepted_on d f past (inl (now, room, (done, m))) = inl (now, room, (done, Memᴰ.tail m))
  accepted_on d f past (inr (now, (done, m))) = inr (now, (done, Memᴰ.tail m))

  empty_inv : JInv p s g [] empty
  empty_inv = record {
    form = λ t b i. absurd (none_in t b i);
    one = λ c d x y e. elim x [ inl r ↦ absurd (none_in _ _ r.1) | inr m ↦ absurd (Memᴰ.not-nil m) ];
    told = λ c m. absurd (Memᴰ.not-nil m);
    backed = λ c m. absurd (Memᴰ.not-nil m);
    agree = λ q a b x. elim x [ inl r ↦ absurd (none_in _ _ r.1) | inr m ↦ elim m [ inl n ↦ absurd (Memᴰ.not-nil n) | inr n ↦ absurd (Memᴰ.not-nil n.1) ] ];
    shown = λ q a x. elim x [ inl n ↦ absurd (Memᴰ.not-nil n) | inr n ↦ absurd (Memᴰ.not-nil n.1) ];
  }

  abbrev Prem : List Deed → Type 0
  Prem past = g ≡ true → Rising past × NoneUnderOwnKey p past

  earlier : (d : Deed) (past : List Deed) → Prem (d ∷ past) → Prem past
  earlier cut past q z = ((q z).0, λ k b room r a done m. (q z).1 k b room r a done (Memᴰ.tail m))
  earlier (called r e a done) past q z = ((q z).0.1, λ k b room r a done m. (q z).1 k b room r a done (Memᴰ.tail m))

  -- the epoch of an engine that runs after a call was accepted
  now_accepted : (x : Engine) (past : List Deed) (e : Event) (a : Answer) (done : List Act) (n : Mem) → Now x past → Was x n.epoch ⊎ (Named e n.epoch × (a ≡ ok)) → Accepted n.epoch (called whole e a done ∷ past)
  now_accepted shut past e a done n w (inl q) = absurd q
  now_accepted (running m k) past e a done n w (inl q) = accepted_on (called whole e a done) n.epoch past (subst (λ f. Accepted f past) (sym q) w)
  now_accepted (halted k) past e a done n w (inl q) = absurd q
  now_accepted x past (opening f now room) a done n w (inr (q, o)) = inl (now, room, (done, Memᴰ.head (ap (λ k. called whole (opening k now room) ok done) q ∙ ap (λ b. called whole (opening f now room) b done) (sym o))))
  now_accepted x past (epoch_change f now) a done n w (inr (q, o)) = inr (now, (done, Memᴰ.head (ap (λ k. called whole (epoch_change k now) ok done) q ∙ ap (λ b. called whole (epoch_change f now) b done) (sym o))))
  now_accepted x past (message c b room) a done n w (inr (q, o)) = absurd q
  now_accepted x past taking a done n w (inr (q, o)) = absurd q
  now_accepted x past fetching a done n w (inr (q, o)) = absurd q
  now_accepted x past (handing_back h d now room) a done n w (inr (q, o)) = absurd q
  now_accepted x past (cancelling h) a done n w (inr (q, o)) = absurd q
  now_accepted x past (lodging h) a done n w (inr (q, o)) = absurd q
  now_accepted x past (due now room) a done n w (inr (q, o)) = absurd q
  now_accepted x past closing a done n w (inr (q, o)) = absurd q

  now_after : (x : Engine) (past : List Deed) (e : Event) (pl : Plan) (r : Ended) (j : Desk) (a : Answer) (y : Engine) (done : List Act) → Now x past → InEpoch x e pl.after pl.answer → Ends r pl x j a y → Now y (called r e a done ∷ past)
  now_after x past e pl whole j a y done w i (o, q) = subst (λ z. Now z (called whole e a done ∷ past)) (sym q) (go x pl.after w (subst (InEpoch x e pl.after) (sym o) i))
    where
      go : (x : Engine) (f : After) → Now x past → InEpoch x e f a → Now (settle f x j) (called whole e a done ∷ past)
      go shut stays w i = tt
      go (running m k) stays w i = accepted_on (called whole e a done) m.epoch past w
      go (halted k) stays w i = tt
      go x (runs n) w i = now_accepted x past e a done n w i
      go x closes w i = tt
  now_after x past e pl full j a y done w i (o, q) = subst (λ z. Now z (called full e a done ∷ past)) (sym q) tt
  now_after x past e pl below_bound j a y done w i (o, q) = subst (λ z. Now z (called below_bound e a done ∷ past)) (sym q) tt
  now_after x past e pl failed j a y done w i (o, q) = subst (λ z. Now z (called failed e a done ∷ past)) (sym q) tt
  now_after x past e pl off j a y done w i (o, q) = subst (λ z. Now z (called off e a done ∷ past)) (sym q) tt

  signed_when : (x : Engine) (past : List Deed) (a : Ack) → Now x past → Signer x a → Accepted a.epoch past
  signed_when shut past a w q = absurd q
  signed_when (running m k) past a w q = subst (λ f. Accepted f past) (sym q) w
  signed_when (halted k) past a w q = absurd q

  -- where an opening leaves a running engine it answers ok
  opened-ok : (x : Engine) (v : Log) (f now room : ℕ) (n : Mem) → (plan p s x v None (opening f now room)).after ≡ runs n → (plan p s x v None (opening f now room)).answer ≡ ok
  opened-ok x v f now room n q = go (plan p s x v None (opening f now room)).after q (begins p s x v None f now room).says
    where
      go : (t : After) → t ≡ runs n → Rattle.rules.proofs.Grow.Says t (plan p s x v None (opening f now room)).answer → (plan p s x v None (opening f now room)).answer ≡ ok
      go stays q z = apart (cc)
      go (runs k) q z = z
      go closes q z = apart (cc)

  pub run_inv : {x : Sys} {past : List Deed} → Run p s x past → Prem past → RInv x past
  run_inv start q = record { eng = empty_inv; signs = λ a m. absurd (Memᴰ.not-nil m); now = tt }
  run_inv (power_cut {x} {past} run w c) q =
      let i = run_inv run (earlier cut past q) in
      record { eng = cut_short p s g (acts_in past) x.log w (jour (acts_in past) x.log x.engine i.eng) c; signs = λ a m. accepted_on cut a.epoch past (i.signs a m); now = tt }
  run_inv (call {x} {y} {past} run room e a done z h c) q =
      let d = called c.ended e a done in
      let i = run_inv run (earlier d past q) in
      let pl = plan p s x.engine x.log None e in
      let fair : Fair (acts_in past) x.log x.engine e c.ended = record {
        foreign = λ k b room f t o. (q t).1 k b room c.ended a done (Memᴰ.head (ap (λ u. called c.ended u a done) (sym f))) o;
        up = λ f now room u w t n r b k.
            (let ran : a ≡ pl.answer = (subst (λ o. Ends o pl x.engine c.desk a y.engine) w c.left).0 in
            let good : a ≡ ok = ran ∙ subst (λ o. (plan p s x.engine x.log None o).after ≡ runs n → (plan p s x.engine x.log None o).answer ≡ ok) (sym u) (opened-ok x.engine x.log f now room n) r in
            (q t).0.0 f now room u good b.epoch (i.signs b (source_of back p s g (acts_in past) x.log (jour (acts_in past) x.log x.engine i.eng) (ack b) k).0));
      } in
      record {
        eng = called_eng x.engine (acts_in past) x.log e room c.ended done y.log c.desk a y.engine i.eng z fair c.did c.left;
        signs = λ b m. elim (Memᴰ.append_cases (acts_in past) m) [
          | inl n ↦ accepted_on d b.epoch past (i.signs b n)
          | inr n ↦ accepted_on d b.epoch past (signed_when x.engine past b i.now (plan-signs x.engine x.log e b (did_in room pl.acts x.log (desk_of x.engine) c.ended done y.log c.desk (sign b) c.did n)))
        ];
        now = now_after x.engine past e pl c.ended c.desk a y.engine done i.now (plan-epochs x.engine x.log e) c.left;
      }

  pub ledger : {x : Sys} {past : List Deed} → Run p s x past → Prem past → JInv p s g (acts_in past) x.log
  ledger {x} {past} run q = jour (acts_in past) x.log x.engine (run_inv run q).eng

pub promises : Back → Sizes → Promises
promises back sizes p s x past law run =
    let i = ledger back sizes p law s false run (λ z. apart (cc)) in (
      (λ c d m n e. (let q = i.one c d (inr m) (inr n) e in (ap (λ z. z.digest) q, ap (λ z. z.bytes) q)), λ c m. i.backed c m),
      λ up alone a b m n o r e h. (ledger back sizes p law s true run (λ _. (up, alone))).agree refl a b (inr m) (inr n) o r e h,
      slips_law p s x past run,
    )
