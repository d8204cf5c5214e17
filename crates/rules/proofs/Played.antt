-- Calls that are carried out to their end, or cut, as steps of a run. Assumes nothing.
use Rattle.std.proofs.Common.{◌≡◌, ℕ, zero, suc, true, leb, List, [], ◌∷◌, length, take, drop, sym, refl, subst, inl, inr, arith}
use Rattle.std.proofs.lemmas.List.{append-nil}
use Rattle.std.proofs.lemmas.Bool.{and_parts, leb-true, false≢true}
use Rattle.forms.specs.Values.{Activity}
use Rattle.forms.specs.Writing.{write}
use Rattle.journal.specs.Log.{Log, Section, appended, AllFirmer, Firmer}
use Rattle.journal.specs.Cuts.{Cut, AllLeft, Left, kept}
use Rattle.provider.specs.Answers.{Answers}
use Rattle.rules.specs.State.{Settings, Desk, shut, desk_of}
use Rattle.rules.specs.Acts.{Act, append, sync, prune, sync_all, read, tell, send, block, hand_out, take_back, lodge, fetch, drop_below, hear, sign, make, fail, whole, off, Space, Goes, Stops, Did, in_log, at_desk}
use Rattle.rules.specs.Plans.{Event, power_off}
use Rattle.rules.specs.Runs.{Sys, Run, call, Deed, called, Sized, Held, hands}
use Rattle.rules.specs.Played.{can_go, can_all, logged, shuffled, planned, played}

all_firmer : (xs : List Section) → AllFirmer xs xs
unfolding AllFirmer
all_firmer [] = tt
all_firmer (x ∷ xs) = (record { number = refl; same = refl; longer = omega arith }, all_firmer xs)

pub firmer_refl : (v : Log) → Firmer v v
firmer_refl v = record { bound = refl; sections = all_firmer v.sections }

goes : (a : Act) (v : Log) → can_go a v ≡ true → Goes a v
goes (append s x) v e = let b = and_parts (leb v.bound s) (leb (length (write x)) 1068) e in (leb-true v.bound s b.0, leb-true (length (write x)) 1068 b.1)
goes (sync s) v e = tt
goes (prune s) v e = tt
goes sync_all v e = tt
goes (read o) v e = tt
goes (tell a) v e = tt
goes (send t a) v e = tt
goes (block x) v e = tt
goes (hand_out h) v e = tt
goes (take_back h) v e = tt
goes (lodge h) v e = tt
goes (fetch h) v e = tt
goes (drop_below h) v e = tt
goes (hear a) v e = tt
goes (sign a) v e = tt
goes (make c) v e = tt
goes fail v e = false≢true e

module _ (room : Space) where
  -- to the end
  pub did-all : (acts : List Act) (v : Log) (k : Desk) → can_all acts v ≡ true → Did room acts v k whole acts (logged acts v) (shuffled acts k)
  did-all [] v k e = (refl, refl, firmer_refl v, refl)
  did-all (a ∷ acts) v k e = let b = and_parts (can_go a v) (can_all acts (in_log a v)) e in inr (goes a v b.0, (acts, refl, did-all acts (in_log a v) (at_desk a k) b.1))

  -- to the first act that stops
  pub did_to : (n : ℕ) (acts : List Act) (a : Act) (rest : List Act) (v : Log) (k : Desk) (w : Log) → drop n acts ≡ a ∷ rest → can_all (take n acts) v ≡ true → Stops room a (logged (take n acts) v) off w →
      Did room acts v k off (take n acts) w (shuffled (take n acts) k)
  did_to zero acts a rest v k w q e s = subst (λ l. Did room l v k off [] w k) (sym q) (inl (s, refl, refl))
  did_to (suc n) [] a rest v k w q e s = let z : ◌≡◌ {A = ℕ} 0 1 = cc in absurd (omega arith)
  did_to (suc n) (b ∷ acts) a rest v k w q e s =
      let c = and_parts (can_go b v) (can_all (take n acts) (in_log b v)) e in
      inr (goes b v c.0, (take n acts, refl, did_to n acts a rest (in_log b v) (at_desk b k) w q c.1 s))

-- a call that is carried out to its end
pub run-played : {p : Answers} {s : Settings} {x : Sys} {past : List Deed} → Run p s x past → (room : Space) (e : Event) → Sized e → Held e (hands past) → can_all (planned p s x e).acts x.log ≡ true →
    Run p s (played p s x e) (called whole e (planned p s x e).answer (planned p s x e).acts ∷ past)
run-played {p} {s} {x} {past} run room e z h q =
    call run room e (planned p s x e).answer (planned p s x e).acts z h
    (record { ended = whole; desk = shuffled (planned p s x e).acts (desk_of x.engine); did = did-all room (planned p s x e).acts x.log (desk_of x.engine) q; left = (refl, refl) })

-- what is durable lasts
abbrev pub lasting : List Section → List Section
lasting [] = []
lasting (x ∷ xs) = kept x.number x.durable (lasting xs)

abbrev pub after-cut : Log → Log
after-cut v = record { bound = 0; sections = lasting v.sections }

all_left : (b : ℕ) (xs : List Section) → AllLeft b xs (lasting xs)
unfolding AllLeft Left
all_left b [] = refl
all_left b (x ∷ xs) = (x.durable, inl (0, sym (append-nil x.durable)), (lasting xs, all_left b xs, refl))

pub cut-lasts : (b : ℕ) (v : Log) → Cut b v (after-cut v)
cut-lasts b v = record { bound = refl; sections = all_left b v.sections }

-- a call that is cut after n acts, at an append of which nothing lasts
pub run-cut : {p : Answers} {s : Settings} {x : Sys} {past : List Deed} → Run p s x past → (room : Space) (e : Event) → Sized e → Held e (hands past) →
    (n : ℕ) (t : ℕ) (y : Activity) (rest : List Act) → drop n (planned p s x e).acts ≡ append t y ∷ rest → can_all (take n (planned p s x e).acts) x.log ≡ true →
    can_go (append t y) (logged (take n (planned p s x e).acts) x.log) ≡ true →
    Run p s (record { engine = shut; log = after-cut (appended t (write y) (logged (take n (planned p s x e).acts) x.log)) }) (called off e power_off (take n (planned p s x e).acts) ∷ past)
run-cut {p} {s} {x} {past} run room e z h n t y rest q g c =
    let acts = (planned p s x e).acts in
    call run room e power_off (take n acts) z h
    (record {
      ended = off;
      desk = shuffled (take n acts) (desk_of x.engine);
      did = did_to room n acts (append t y) rest x.log (desk_of x.engine) _ q g (goes (append t y) (logged (take n acts) x.log) c, cut-lasts 0 _);
      left = (refl, refl);
    })
