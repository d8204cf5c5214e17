-- Slips through a list of acts. Assumes nothing.
use Rattle.std.proofs.Common.{◌≡◌, ℕ, suc, ◌+◌, ◌-◌, ◌<◌, Bool, true, false, cond, not, eqb, ltb, List, [], ◌∷◌, ◌++◌, length, sym, refl, ap, ◌∙◌, subst, inl, inr, arith, length-append}
use Rattle.std.specs.List.{AllByRecursion}
use mathlib.Core.List.Memᴰ
use mathlib.Core.List.{Memᴰ}
use borrow.Author.Tests.{eqb-false}
use Rattle.std.proofs.lemmas.Bool.{cond_both}
use Rattle.journal.specs.Log.{Log}
use Rattle.rules.specs.Acts.{Act, append, sync, prune, sync_all, read, tell, send, block, hand_out, take_back, lodge, fetch, drop_below, hear, sign, make, fail, Ended, Space, Did, at_desk, without, inserted}
use Rattle.rules.specs.Lists.{those}
use Rattle.rules.specs.Promises.{handed_by, handed_out, back_by, came_back}
use Rattle.rules.specs.State.{Desk}

abbrev pub replay : List Act → Desk → Desk
replay [] k = k
replay (a ∷ acts) k = replay acts (at_desk a k)

-- how many slips the caller holds, after an act
abbrev pub hand : Act → ℕ → ℕ
hand (append s b) n = n
hand (sync s) n = n
hand (prune s) n = n
hand sync_all n = n
hand (read o) n = n
hand (tell a) n = n
hand (send t a) n = n
hand (block x) n = n
hand (hand_out h) n = n + 1
hand (take_back h) n = n - 1
hand (lodge h) n = n - 1
hand (fetch h) n = n + 1
hand (drop_below h) n = n
hand (hear a) n = n
hand (sign a) n = n
hand (make c) n = n
hand fail n = n

abbrev pub hands-after : List Act → ℕ → ℕ
hands-after [] n = n
hands-after (a ∷ acts) n = hands-after acts (hand a n)

-- what an act needs
abbrev pub Able : Act → ℕ → Desk → Type 0
Able (append s b) n k = Unit {0}
Able (sync s) n k = Unit {0}
Able (prune s) n k = Unit {0}
Able sync_all n k = Unit {0}
Able (read o) n k = Unit {0}
Able (tell a) n k = Unit {0}
Able (send t a) n k = Unit {0}
Able (block x) n k = Unit {0}
Able (hand_out h) n k = Unit {0}
Able (take_back h) n k = 0 < n
Able (lodge h) n k = 0 < n
Able (fetch h) n k = length (without h k.lodged) + 1 ≡ length k.lodged
Able (drop_below h) n k = Unit {0}
Able (hear a) n k = Unit {0}
Able (sign a) n k = Unit {0}
Able (make c) n k = Unit {0}
Able fail n k = Unit {0}

abbrev pub Flow : List Act → ℕ → Desk → Type 0
Flow [] n k = Unit {0}
Flow (a ∷ acts) n k = Able a n k × Flow acts (hand a n) (at_desk a k)

-- each slip out is held or lodged
abbrev pub Whole : ℕ → Desk → Type 0
Whole n k = n + length k.lodged ≡ k.out

split : (h : ℕ) (xs : List ℕ) → length (those (λ x. ltb x h) xs) + length (those (λ x. not (ltb x h)) xs) ≡ length xs
split h [] = refl
split h (x ∷ xs) =
    let i = split h xs in
    let P : Bool → Type 0 = λ b. length (cond b (x ∷ those (λ y. ltb y h) xs) (those (λ y. ltb y h) xs)) + length (cond (not b) (x ∷ those (λ y. not (ltb y h)) xs) (those (λ y. not (ltb y h)) xs)) ≡ suc (length xs) in
    elim (ltb x h) as P [ true ↦ omega arith | false ↦ omega arith ]

longer : (h : ℕ) (xs : List ℕ) → length (inserted h xs) ≡ length xs + 1
longer h [] = refl
longer h (x ∷ xs) =
    let i = longer h xs in
    cond_both (ltb h x) (h ∷ x ∷ xs) (x ∷ inserted h xs) (λ l. length l ≡ length (x ∷ xs) + 1) (λ _. omega arith) (λ _. omega arith)

pub shorter : (h : ℕ) (xs : List ℕ) → Memᴰ h xs → length (without h xs) + 1 ≡ length xs
shorter h [] m = absurd (Memᴰ.not-nil m)
shorter h (x ∷ xs) (Memᴰ.head e) =
    cond_both (eqb h x) xs (x ∷ without h xs) (λ l. length l + 1 ≡ length (x ∷ xs)) (λ _. omega arith) (λ f. absurd (eqb-false h x f e))
shorter h (x ∷ xs) (Memᴰ.tail m) =
    let i = shorter h xs m in
    cond_both (eqb h x) xs (x ∷ without h xs) (λ l. length l + 1 ≡ length (x ∷ xs)) (λ _. omega arith) (λ _. omega arith)

abbrev Keeps : Act → ℕ → Desk → Type 0
Keeps a n k = (length (handed_by a) + k.out ≡ back_by a k + (at_desk a k).out) × Whole (hand a n) (at_desk a k)

keeps : (a : Act) (n : ℕ) (k : Desk) → Able a n k → Whole n k → Keeps a n k
keeps (append s b) n k o w = (refl, w)
keeps (sync s) n k o w = (refl, w)
keeps (prune s) n k o w = (refl, w)
keeps sync_all n k o w = (refl, w)
keeps (read x) n k o w = (refl, w)
keeps (tell a) n k o w = (refl, w)
keeps (send t a) n k o w = (refl, w)
keeps (block x) n k o w = (refl, w)
keeps (hand_out h) n k o w = (omega arith, omega arith)
keeps (take_back h) n k o w = (omega arith, omega arith)
keeps (lodge h) n k o w = let l = longer h k.lodged in (refl, omega arith)
keeps (fetch h) n k o w = (refl, omega arith)
keeps (drop_below h) n k o w = let l = split h k.lodged in (omega arith, omega arith)
keeps (hear a) n k o w = (refl, w)
keeps (sign a) n k o w = (refl, w)
keeps (make c) n k o w = (refl, w)
keeps fail n k o w = (refl, w)

pub balanced : (acts : List Act) (n : ℕ) (k : Desk) → Flow acts n k → Whole n k →
    (length (handed_out acts) + k.out ≡ came_back k acts + (replay acts k).out) × Whole (hands-after acts n) (replay acts k)
balanced [] n k f w = (refl, w)
balanced (a ∷ acts) n k (o, f) w =
    let g = keeps a n k o w in
    let i = balanced acts (hand a n) (at_desk a k) f g.1 in
    let l = length-append (handed_by a) (handed_out acts) in
    (omega (arith, l, g.0, i.0), i.1)

pub replay_append : (xs ys : List Act) (k : Desk) → replay (xs ++ ys) k ≡ replay ys (replay xs k)
replay_append [] ys k = refl
replay_append (x ∷ xs) ys k = replay_append xs ys (at_desk x k)

pub after-append : (xs ys : List Act) (n : ℕ) → hands-after (xs ++ ys) n ≡ hands-after ys (hands-after xs n)
after-append [] ys n = refl
after-append (x ∷ xs) ys n = after-append xs ys (hand x n)

pub flow_append : (xs ys : List Act) (n : ℕ) (k : Desk) → Flow xs n k → Flow ys (hands-after xs n) (replay xs k) → Flow (xs ++ ys) n k
flow_append [] ys n k f g = g
flow_append (x ∷ xs) ys n k (o, f) g = (o, flow_append xs ys (hand x n) (at_desk x k) f g)

-- what was done of acts that flow
pub did_flow : (room : Space) (acts : List Act) (v : Log) (k : Desk) (r : Ended) (done : List Act) (w : Log) (j : Desk) (n : ℕ) →
    Did room acts v k r done w j → Flow acts n k → Flow done n k × (j ≡ replay done k)
did_flow room [] v k r done w j n (_, e, _, f) o = (subst (λ d. Flow d n k) (sym e) tt, f ∙ ap (λ d. replay d k) (sym e))
did_flow room (a ∷ acts) v k r done w j n (inl (_, e, f)) o = (subst (λ d. Flow d n k) (sym e) tt, f ∙ ap (λ d. replay d k) (sym e))
did_flow room (a ∷ acts) v k r done w j n (inr (_, (rest, e, d))) (o, f) =
    let i = did_flow room acts _ (at_desk a k) r rest w j (hand a n) d f in
    (subst (λ z. Flow z n k) (sym e) (o, i.0), i.1 ∙ ap (λ z. replay z k) (sym e))

-- acts that are nothing to the caller's slips
abbrev pub Plain : Act → Type 0
Plain a = ((n : ℕ) (k : Desk) → Able a n k) × ((n : ℕ) → hand a n ≡ n) × (handed_by a ≡ [])

abbrev pub Calm : List Act → Type 0
Calm acts = AllByRecursion Plain acts

pub calm_append : (xs ys : List Act) → Calm xs → Calm ys → Calm (xs ++ ys)
calm_append [] ys c d = d
calm_append (x ∷ xs) ys (p, c) d = (p, calm_append xs ys c d)

pub calm_flow : (acts : List Act) (n : ℕ) (k : Desk) → Calm acts → Flow acts n k
calm_flow [] n k c = tt
calm_flow (a ∷ acts) n k (p, c) = (p.0 n k, calm_flow acts (hand a n) (at_desk a k) c)

pub calm_hands : (acts : List Act) (n : ℕ) → Calm acts → hands-after acts n ≡ n
calm_hands [] n c = refl
calm_hands (a ∷ acts) n (p, c) = calm_hands acts (hand a n) c ∙ p.1 n

pub calm_handed : (acts : List Act) → Calm acts → handed_out acts ≡ []
calm_handed [] c = refl
calm_handed (a ∷ acts) (p, c) = ap (λ l. l ++ handed_out acts) p.2 ∙ calm_handed acts c

pub did_calm : (room : Space) (acts : List Act) (v : Log) (k : Desk) (r : Ended) (done : List Act) (w : Log) (j : Desk) →
    Did room acts v k r done w j → Calm acts → Calm done
did_calm room [] v k r done w j (_, e, _, _) c = subst Calm (sym e) tt
did_calm room (a ∷ acts) v k r done w j (inl (_, e, _)) c = subst Calm (sym e) tt
did_calm room (a ∷ acts) v k r done w j (inr (_, (rest, e, d))) (p, c) = subst Calm (sym e) (p, did_calm room acts _ (at_desk a k) r rest w j d c)
