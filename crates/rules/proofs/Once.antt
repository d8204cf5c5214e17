-- In every run, no height's slip is handed out twice since an opening. Assumes nothing.
use Rattle.std.proofs.Common.{◌≡◌, ℕ, ◌+◌, ◌<◌, ◌≤◌, Bool, true, false, cond, ◌&&◌, eqb, ◌⊎◌, List, [], ◌∷◌, ◌++◌, Some, None, Option, sym, refl, ap, ◌∙◌, subst, inl, inr, append_assoc, append-nil, arith}
use Rattle.std.specs.List.{AllByRecursion}
use mathlib.Core.List.Memᴰ
use mathlib.Core.List.{Memᴰ}
use Rattle.rules.proofs.Flow.{Calm}
use Rattle.rules.proofs.Calm.{by_cond, calm_opening, calm_epoch, calm_message, calm_due, calm_closing}
use Rattle.rules.proofs.Grow.{Asc, Onward, O, on_epoch, on_message, on_due, on_digest, on_cancel, on_close, Begins, Says, begins}
use Rattle.rules.proofs.Slips.{never, Returns, back, aside, Ret, ret_put, ret_digest, was_shut, balance}
use Rattle.journal.specs.Log.{Log}
use Rattle.provider.specs.Answers.{Answers}
use Rattle.rules.specs.Acts.{Act, hand_out, take_back, lodge, fetch, Ended, whole, full, below_bound, failed, off, Space, Did, at_desk}
use Rattle.rules.specs.Calls.{plan, take_first, with_wanted, fetch_first, returned}
use Rattle.rules.specs.Lists.{opt}
use Rattle.rules.specs.Plans.{Event, opening, epoch_change, message, taking, fetching, handing_back, cancelling, lodging, due, closing, Answer, ok, refused, After, stays, runs, closes, Plan, refuse}
use Rattle.rules.specs.Promises.{is_ok, is_opening, since_opening, handed_by, handed_out, Distinct, SlipsLaw}
use Rattle.rules.specs.Runs.{Sys, settle, Ends, Deed, called, Run, start, call, power_cut, is_off}
use Rattle.rules.specs.State.{Settings, Mem, Desk, Engine, shut, running, halted, desk_of, next}

handed_append : (xs ys : List Act) → handed_out (xs ++ ys) ≡ handed_out xs ++ handed_out ys
handed_append [] ys = refl
handed_append (a ∷ xs) ys = ap (λ l. handed_by a ++ l) (handed_append xs ys) ∙ sym (append_assoc (handed_by a) (handed_out xs) (handed_out ys))

-- acts that hand nothing out
abbrev Silent : List Act → Type 0
Silent acts = AllByRecursion (λ a. handed_by a ≡ []) acts

calm_silent : (acts : List Act) → Calm acts → Silent acts
calm_silent [] c = tt
calm_silent (a ∷ acts) (p, c) = (p.2, calm_silent acts c)

returns_silent : {acts : List Act} → Returns acts → Silent acts
returns_silent (back h {acts} c) = (refl, calm_silent acts c)
returns_silent (aside h {acts} c) = (refl, calm_silent acts c)

did-silent : (fits : Space) (acts : List Act) (v : Log) (k : Desk) (r : Ended) (done : List Act) (w : Log) (j : Desk) → Did fits acts v k r done w j → Silent acts → handed_out done ≡ []
did-silent fits [] v k r done w j (_, e, _, _) c = ap handed_out e
did-silent fits (a ∷ acts) v k r done w j (inl (_, e, _)) c = ap handed_out e
did-silent fits (a ∷ acts) v k r done w j (inr (_, (rest, e, d))) (p, c) =
    ap handed_out e ∙ ap (λ l. l ++ handed_out rest) p ∙ did-silent fits acts _ (at_desk a k) r rest w j d c

abbrev takes : Event → Bool
takes (opening e now room) = false
takes (epoch_change e now) = false
takes (message k b room) = false
takes taking = true
takes fetching = false
takes (handing_back h d now room) = false
takes (cancelling h) = false
takes (lodging h) = false
takes (due now room) = false
takes closing = false

record S (pl : Plan) : Type 0 where
  silent : Silent pl.acts

silent-fetch : (l : List ℕ) → S (fetch_first l)
silent-fetch [] = record { silent = tt }
silent-fetch (h ∷ l) = record { silent = (refl, tt) }

silent-returned : (x : Engine) (h : ℕ) (f : Mem → Plan) → ((m : Mem) → Ret (f m)) → S (returned x h f)
silent-returned shut h f r = record { silent = tt }
silent-returned (running m k) h f r = by_cond S (eqb k.out 0) (refuse 24) (f m) (record { silent = tt }) (record { silent = returns_silent (r m).ret })
silent-returned (halted k) h f r = by_cond S (eqb k.out 0) (refuse 24) (record { acts = take_back h ∷ []; after = stays; answer = refused 1 }) (record { silent = tt }) (record { silent = (refl, tt) })

quiet : (p : Answers) (s : Settings) (x : Engine) (v : Log) (e : Event) → takes e ≡ false → S (plan p s x v None e)
quiet p s x v (opening e now room) q = record { silent = calm_silent _ (calm_opening p s x v None e now room).calm }
quiet p s shut v (epoch_change e now) q = record { silent = tt }
quiet p s (running n k) v (epoch_change e now) q = record { silent = calm_silent _ (calm_epoch p s n e now).calm }
quiet p s (halted k) v (epoch_change e now) q = record { silent = tt }
quiet p s shut v (message c b room) q = record { silent = tt }
quiet p s (running n k) v (message c b room) q = record { silent = calm_silent _ (calm_message p s n c b room).calm }
quiet p s (halted k) v (message c b room) q = record { silent = tt }
quiet p s shut v (due now room) q = record { silent = tt }
quiet p s (running n k) v (due now room) q = record { silent = calm_silent _ (calm_due p s n now room).calm }
quiet p s (halted k) v (due now room) q = record { silent = tt }
quiet p s shut v closing q = record { silent = tt }
quiet p s (running n k) v closing q = record { silent = calm_silent _ (calm_closing k) }
quiet p s (halted k) v closing q = record { silent = calm_silent _ (calm_closing k) }
quiet p s x v taking q = never q refl
quiet p s shut v fetching q = record { silent = tt }
quiet p s (running n k) v fetching q = silent-fetch k.lodged
quiet p s (halted k) v fetching q = silent-fetch k.lodged
quiet p s x v (handing_back h d now room) q = silent-returned x h _ (λ m. ret_digest p s m h d now room)
quiet p s x v (cancelling h) q = silent-returned x h _ (λ m. record { ret = back h tt; stay = refl })
quiet p s x v (lodging h) q = silent-returned x h _ (λ m. ret_put m h ok)

-- the heights handed out lie below those that are wanted
abbrev Room : Engine → List ℕ → Type 0
Room shut taken = Unit {0}
Room (running m k) taken = (b : ℕ) × AllByRecursion (λ h. h < b) taken × Asc b m.wanted (next m)
Room (halted k) taken = Unit {0}

abbrev Dull : After → Type 0
Dull stays = Unit {0}
Dull (runs n) = ⊥
Dull closes = Unit {0}

-- where an engine goes on
abbrev Next : Engine → After → Answer → Type 0
Next shut f a = Says f a
Next (running m k) f a = Onward m f
Next (halted k) f a = Dull f

record N (x : Engine) (pl : Plan) : Type 0 where
  goes : Next x pl.after pl.answer

next-fetch : (x : Engine) (l : List ℕ) → N x (fetch_first l)
next-fetch shut [] = record { goes = tt }
next-fetch shut (h ∷ l) = record { goes = tt }
next-fetch (running m k) [] = record { goes = tt }
next-fetch (running m k) (h ∷ l) = record { goes = tt }
next-fetch (halted k) [] = record { goes = tt }
next-fetch (halted k) (h ∷ l) = record { goes = tt }

next-returned : (x : Engine) (h : ℕ) (f : Mem → Plan) → ((m : Mem) → O m (f m)) → N x (returned x h f)
next-returned shut h f r = record { goes = tt }
next-returned (running m k) h f r = by_cond (N (running m k)) (eqb k.out 0) (refuse 24) (f m) (record { goes = tt }) (record { goes = (r m).on })
next-returned (halted k) h f r = by_cond (N (halted k)) (eqb k.out 0) (refuse 24) (record { acts = take_back h ∷ []; after = stays; answer = refused 1 }) (record { goes = tt }) (record { goes = tt })

goes_on : (p : Answers) (s : Settings) (x : Engine) (v : Log) (e : Event) → takes e ≡ false → N x (plan p s x v None e)
goes_on p s shut v (opening e now room) q = record { goes = (begins p s shut v None e now room).says }
goes_on p s (running n k) v (opening e now room) q = record { goes = tt }
goes_on p s (halted k) v (opening e now room) q = record { goes = tt }
goes_on p s shut v (epoch_change e now) q = record { goes = tt }
goes_on p s (running n k) v (epoch_change e now) q = record { goes = (on_epoch p s n e now).on }
goes_on p s (halted k) v (epoch_change e now) q = record { goes = tt }
goes_on p s shut v (message c b room) q = record { goes = tt }
goes_on p s (running n k) v (message c b room) q = record { goes = (on_message p s n c b room).on }
goes_on p s (halted k) v (message c b room) q = record { goes = tt }
goes_on p s shut v (due now room) q = record { goes = tt }
goes_on p s (running n k) v (due now room) q = record { goes = (on_due p s n now room).on }
goes_on p s (halted k) v (due now room) q = record { goes = tt }
goes_on p s shut v closing q = record { goes = tt }
goes_on p s (running n k) v closing q = record { goes = (on_close n k).on }
goes_on p s (halted k) v closing q = by_cond (N (halted k)) (eqb k.out 0) (record { acts = Rattle.rules.specs.Acts.sync_all ∷ []; after = closes; answer = ok }) (refuse 26) (record { goes = tt }) (record { goes = tt })
goes_on p s x v taking q = never q refl
goes_on p s shut v fetching q = record { goes = tt }
goes_on p s (running n k) v fetching q = next-fetch (running n k) k.lodged
goes_on p s (halted k) v fetching q = next-fetch (halted k) k.lodged
goes_on p s x v (handing_back h d now room) q = next-returned x h _ (λ m. on_digest p s m h d now room)
goes_on p s x v (cancelling h) q = next-returned x h _ (λ m. on_cancel s m h)
goes_on p s x v (lodging h) q = next-returned x h _ (λ m. record { on = tt })

room_settled : (f : After) (x : Engine) (j : Desk) (a : Answer) (taken : List ℕ) → (x ≡ shut → Dull f) → Next x f a → Room x taken → Room (settle f x j) taken
room_settled stays shut j a taken o n r = tt
room_settled stays (running m k) j a taken o n r = r
room_settled stays (halted k) j a taken o n r = tt
room_settled (runs m) shut j a taken o n r = absurd (o refl)
room_settled (runs m) (running l k) j a taken o n (b, q, c) = (b, q, n b c)
room_settled (runs m) (halted k) j a taken o n r = absurd n
room_settled closes shut j a taken o n r = tt
room_settled closes (running m k) j a taken o n r = tt
room_settled closes (halted k) j a taken o n r = tt

-- one more, above all others
above-all : (b h : ℕ) (taken : List ℕ) → b ≤ h → AllByRecursion (λ x. x < b) taken → AllByRecursion (λ x. x < h + 1) (taken ++ (h ∷ []))
above-all b h [] e q = (omega arith, tt)
above-all b h (x ∷ taken) e (p, q) = (omega arith, above-all b h taken e q)

not_among : (b h : ℕ) (taken : List ℕ) → b ≤ h → AllByRecursion (λ x. x < b) taken → Memᴰ h taken → ⊥
not_among b h [] e q m = absurd (Memᴰ.not-nil m)
not_among b h (x ∷ taken) e (p, q) (Memᴰ.head u) = omega arith
not_among b h (x ∷ taken) e (p, q) (Memᴰ.tail m) = not_among b h taken e q m

distinct_more : (b h : ℕ) (taken : List ℕ) → b ≤ h → AllByRecursion (λ x. x < b) taken → Distinct taken → Distinct (taken ++ (h ∷ []))
distinct_more b h [] e q u = (λ m. Memᴰ.not-nil m, tt)
distinct_more b h (x ∷ taken) e (p, q) (f, u) =
    (λ m. elim (Memᴰ.append_cases taken m) [ inl l ↦ f l | inr l ↦ let z = Memᴰ.eq_of_singleton l in omega arith ], distinct_more b h taken e q u)

abbrev Fine : Engine → List ℕ → Type 0
Fine x taken = Distinct taken × Room x taken

-- a taking
taken_fine : (fits : Space) (v : Log) (m : Mem) (l : List ℕ) (k : Desk) (r : Ended) (done : List Act) (w : Log) (j : Desk) (a : Answer) (y : Engine) (taken : List ℕ) → m.wanted ≡ l →
    Did fits (take_first m l).acts v k r done w j → Ends r (take_first m l) (running m k) j a y → Fine (running m k) taken → Fine y (taken ++ handed_out done)
taken_fine fits v m [] k r done w j a y taken e (d, u, _, _) n (q, c) =
    let n' = subst (λ z. Ends z (refuse 23) (running m k) j a y) d n in
    let same : taken ++ handed_out done ≡ taken = ap (λ z. taken ++ handed_out z) u ∙ append-nil taken in
    subst (λ z. Fine z (taken ++ handed_out done)) (sym n'.1) (subst (λ z. Fine (running m j) z) (sym same) (q, c))
taken_fine fits v m (h ∷ l) k r done w j a y taken e (inl (z, _, _)) n f = absurd z
taken_fine fits v m (h ∷ l) k r done w j a y taken e (inr (_, (rest, u, (d, t, _, _)))) n (q, (b, c, s)) =
    let n' = subst (λ z. Ends z (take_first m (h ∷ l)) (running m k) j a y) d n in
    let what : taken ++ handed_out done ≡ taken ++ (h ∷ []) = ap (λ z. taken ++ handed_out z) (u ∙ ap (λ z. hand_out h ∷ z) t) in
    let s' : Asc b (h ∷ l) (next m) = subst (λ z. Asc b z (next m)) e s in
    subst (λ z. Fine z (taken ++ handed_out done)) (sym n'.1)
    (subst (λ z. Fine (running (with_wanted l m) j) z) (sym what) (distinct_more b h taken s'.0 c q, (h + 1, above-all b h taken s'.0 c, s'.1)))

-- all other calls
other_fine : (r : Ended) (pl : Plan) (x : Engine) (j : Desk) (a : Answer) (y : Engine) (done : List Act) (taken : List ℕ) → Ends r pl x j a y → handed_out done ≡ [] →
    (r ≡ whole → x ≡ shut → Dull pl.after) → Next x pl.after pl.answer → Fine x taken → Fine y (taken ++ handed_out done)
other_fine r pl x j a y done taken n e o g (q, c) = subst (Fine y) (sym (ap (λ z. taken ++ z) e ∙ append-nil taken)) (q, room r o n)
  where
    room : (r : Ended) → (r ≡ whole → x ≡ shut → Dull pl.after) → Ends r pl x j a y → Room y taken
    room whole o (u, t) = subst (λ z. Room z taken) (sym t) (room_settled pl.after x j pl.answer taken (o refl) g c)
    room full o (_, t) = subst (λ z. Room z taken) (sym t) tt
    room below_bound o (_, t) = subst (λ z. Room z taken) (sym t) tt
    room failed o (_, t) = subst (λ z. Room z taken) (sym t) tt
    room off o (_, t) = subst (λ z. Room z taken) (sym t) tt

dull_says : (f : After) (a : Answer) → Says f a → is_ok a ≡ false → Dull f
dull_says stays a s o = tt
dull_says (runs n) a s o = never o (ap is_ok s)
dull_says closes a s o = tt

-- what a shut engine plans, where no opening is carried out
dull : (p : Answers) (s : Settings) (x : Engine) (v : Log) (e : Event) (r : Ended) (j : Desk) (a : Answer) (y : Engine) → (is_opening e && is_ok a) ≡ false →
    Ends r (plan p s x v None e) x j a y → r ≡ whole → x ≡ shut → Dull (plan p s x v None e).after
dull p s (running m k) v e r j a y o n w q = let z : ◌≡◌ {A = ℕ} 0 1 = cc in absurd (omega arith)
dull p s (halted k) v e r j a y o n w q = let z : ◌≡◌ {A = ℕ} 0 1 = cc in absurd (omega arith)
dull p s shut v (opening e now room) r j a y o n w q =
    let pl = plan p s shut v None (opening e now room) in
    let n' = subst (λ z. Ends z pl shut j a y) w n in
    dull_says pl.after pl.answer (begins p s shut v None e now room).says (sym (ap is_ok n'.0) ∙ o)
dull p s shut v (epoch_change e now) r j a y o n w q = tt
dull p s shut v (message k b room) r j a y o n w q = tt
dull p s shut v taking r j a y o n w q = tt
dull p s shut v fetching r j a y o n w q = tt
dull p s shut v (handing_back h d now room) r j a y o n w q = tt
dull p s shut v (cancelling h) r j a y o n w q = tt
dull p s shut v (lodging h) r j a y o n w q = tt
dull p s shut v (due now room) r j a y o n w q = tt
dull p s shut v closing r j a y o n w q = tt

-- any call but an opening carried out
more_fine : (p : Answers) (s : Settings) (fits : Space) (x : Engine) (v : Log) (e : Event) (r : Ended) (done : List Act) (w : Log) (j : Desk) (a : Answer) (y : Engine) (taken : List ℕ) (b : Bool) → takes e ≡ b →
    (is_opening e && is_ok a) ≡ false → Did fits (plan p s x v None e).acts v (desk_of x) r done w j → Ends r (plan p s x v None e) x j a y → Fine x taken → Fine y (taken ++ handed_out done)
more_fine p s fits x v e r done w j a y taken false t o d n f =
    other_fine r (plan p s x v None e) x j a y done taken n (did-silent fits (plan p s x v None e).acts v (desk_of x) r done w j d (quiet p s x v e t).silent)
    (dull p s x v e r j a y o n) (goes_on p s x v e t).goes f
more_fine p s fits x v e r done w j a y taken true t o d n f = took e t o x d n f
  where
    took : (e : Event) → takes e ≡ true → (is_opening e && is_ok a) ≡ false → (x : Engine) → Did fits (plan p s x v None e).acts v (desk_of x) r done w j → Ends r (plan p s x v None e) x j a y → Fine x taken → Fine y (taken ++ handed_out done)
    took taking t o shut d n f = other_fine r (refuse 1) shut j a y done taken n (did-silent fits [] v (desk_of shut) r done w j d tt) (λ _ _. tt) tt f
    took taking t o (running m k) d n f = taken_fine fits v m m.wanted k r done w j a y taken refl d n f
    took taking t o (halted k) d n f = other_fine r (refuse 1) (halted k) j a y done taken n (did-silent fits [] v k r done w j d tt) (λ _ _. tt) tt f
    took (opening e now room) t o x d n f = never refl t
    took (epoch_change e now) t o x d n f = never refl t
    took (message k b room) t o x d n f = never refl t
    took fetching t o x d n f = never refl t
    took (handing_back h c now room) t o x d n f = never refl t
    took (cancelling h) t o x d n f = never refl t
    took (lodging h) t o x d n f = never refl t
    took (due now room) t o x d n f = never refl t
    took closing t o x d n f = never refl t

room-begins : (f : After) (j : Desk) → Begins f → Room (settle f shut j) []
room-begins stays j b = tt
room-begins (runs m) j b = (0, tt, b)
room-begins closes j b = tt

-- an opening carried out
opened_fine : (p : Answers) (s : Settings) (x : Engine) (v : Log) (e : Event) (r : Ended) (j : Desk) (a : Answer) (y : Engine) →
    Ends r (plan p s x v None e) x j a y → (is_opening e && is_ok a) ≡ true → x ≡ shut → Room y []
opened_fine p s (running m k) v e r j a y n o q = let z : ◌≡◌ {A = ℕ} 0 1 = cc in absurd (omega arith)
opened_fine p s (halted k) v e r j a y n o q = let z : ◌≡◌ {A = ℕ} 0 1 = cc in absurd (omega arith)
opened_fine p s shut v (opening e now room) whole j a y (_, u) o q = subst (λ z. Room z []) (sym u) (room-begins (plan p s shut v None (opening e now room)).after j (begins p s shut v None e now room).start)
opened_fine p s shut v (opening e now room) full j a y (_, u) o q = subst (λ z. Room z []) (sym u) tt
opened_fine p s shut v (opening e now room) below_bound j a y (_, u) o q = subst (λ z. Room z []) (sym u) tt
opened_fine p s shut v (opening e now room) failed j a y (_, u) o q = subst (λ z. Room z []) (sym u) tt
opened_fine p s shut v (opening e now room) off j a y (_, u) o q = subst (λ z. Room z []) (sym u) tt
opened_fine p s shut v (epoch_change e now) r j a y n o q = never refl o
opened_fine p s shut v (message k b room) r j a y n o q = never refl o
opened_fine p s shut v taking r j a y n o q = never refl o
opened_fine p s shut v fetching r j a y n o q = never refl o
opened_fine p s shut v (handing_back h d now room) r j a y n o q = never refl o
opened_fine p s shut v (cancelling h) r j a y n o q = never refl o
opened_fine p s shut v (lodging h) r j a y n o q = never refl o
opened_fine p s shut v (due now room) r j a y n o q = never refl o
opened_fine p s shut v closing r j a y n o q = never refl o

choose : (b : Bool) (o : Option (List Act)) (done acts : List Act) → cond b (Some []) (opt o None (λ xs. Some (xs ++ done))) ≡ Some acts →
    ((b ≡ true) × (acts ≡ [])) ⊎ ((b ≡ false) × ((xs : List Act) × (o ≡ Some xs) × (acts ≡ xs ++ done)))
choose true o done acts e = inl (refl, cc)
choose false None done acts e = let z : ◌≡◌ {A = ℕ} 0 1 = cc in absurd (omega arith)
choose false (Some xs) done acts e = inr (refl, (xs, refl, cc))

abbrev Inv : Engine → List Deed → Type 0
Inv x past = (acts : List Act) → since_opening past ≡ Some acts → Fine x (handed_out acts)

step : (p : Answers) (s : Settings) (fits : Space) (x : Engine) (v : Log) (e : Event) (a : Answer) (done : List Act) (y : Engine) (w : Log) (r : Ended) (j : Desk) (past : List Deed) →
    Inv x past → Did fits (plan p s x v None e).acts v (desk_of x) r done w j → Ends r (plan p s x v None e) x j a y → is_off r ≡ false → Inv y (called r e a done ∷ past)
step p s fits x v e a done y w r j past i d n o acts q =
    let b = is_opening e && is_ok a in
    let q' : cond b (Some []) (opt (since_opening past) None (λ xs. Some (xs ++ done))) ≡ Some acts =
    sym (ap (λ z. cond z None (cond b (Some []) (opt (since_opening past) None (λ xs. Some (xs ++ done))))) o) ∙ q in
    elim (choose b (since_opening past) done acts q') [
      | inl u ↦ subst (λ z. Fine y (handed_out z)) (sym u.1) (tt, opened_fine p s x v e r j a y n u.0 (was_shut p s x v e r j a y n u.0))
      | inr u ↦
          subst (Fine y) (sym (ap handed_out u.1.2 ∙ handed_append u.1.0 done))
          (more_fine p s fits x v e r done w j a y (handed_out u.1.0) (takes e) refl u.0 d n (i u.1.0 u.1.1))
    ]

steps : (r : Ended) (p : Answers) (s : Settings) (fits : Space) (x : Engine) (v : Log) (e : Event) (a : Answer) (done : List Act) (y : Engine) (w : Log) (j : Desk) (past : List Deed) →
    Inv x past → Did fits (plan p s x v None e).acts v (desk_of x) r done w j → Ends r (plan p s x v None e) x j a y → Inv y (called r e a done ∷ past)
steps whole p s fits x v e a done y w j past i d n = step p s fits x v e a done y w whole j past i d n refl
steps full p s fits x v e a done y w j past i d n = step p s fits x v e a done y w full j past i d n refl
steps below_bound p s fits x v e a done y w j past i d n = step p s fits x v e a done y w below_bound j past i d n refl
steps failed p s fits x v e a done y w j past i d n = step p s fits x v e a done y w failed j past i d n refl
steps off p s fits x v e a done y w j past i d n = λ acts q. let z : ◌≡◌ {A = ℕ} 0 1 = cc in absurd (omega arith)

once : {p : Answers} {s : Settings} {x : Sys} {past : List Deed} → Run p s x past → Inv x.engine past
once start = λ acts q. let z : ◌≡◌ {A = ℕ} 0 1 = cc in absurd (omega arith)
once {p} {s} (call {x} {y} {past} run fits e a done z m c) =
    steps c.ended p s fits x.engine x.log e a done y.engine y.log c.desk past (once run) c.did c.left
once (power_cut run w c) = λ acts q. let z : ◌≡◌ {A = ℕ} 0 1 = cc in absurd (omega arith)

pub slips_law : SlipsLaw
slips_law p s x past run acts e = (balance p s x past run acts e, (once run acts e).0)
