-- Reading answers whole records only. Assumes nothing.
use Rattle.std.proofs.Common.{◌≡◌, ℕ, suc, eqb, ltb, ◌⊎◌, List, [], ◌∷◌, ◌++◌, Ok, Err, Option, Result, sym, ap, ◌∙◌, subst, inl, inr, ⊎_elim, append_assoc, append-nil}
use Rattle.std.proofs.lemmas.Bool.{cond_both, eqb-true}
use Rattle.journal.specs.Log.{Bytes, Section, Log, all_of, added, from, appended, synced, all_synced, synced_to, pruned, Placed, numbered, reading, AllFirmer, Firmer}
use Rattle.journal.specs.Cuts.{SomeOf, kept, AllLeft}
use Rattle.journal.specs.Steps.{Disk, Appended, Settled, Pruning, Reading}
use Rattle.journal.specs.Laws.{Op, append, sync, sync_all, prune, read, cut, Ran, Among, Answers, Appends}
use Rattle.journal.specs.declared.places.Overrun.{Overrun}
use Rattle.journal.specs.declared.stops.Stop.{Stop}
use Rattle.journal.specs.declared.stops.Stop.TheVariants.{Full, Pruned, Off}
use Rattle.journal.specs.declared.stops.ReadStop.{ReadStop}
use Rattle.journal.specs.declared.stops.ReadStop.TheVariants.{Overrun as Overran, Full as Crammed, Off as Dark}
use Rattle.journal.proofs.Firm.{firmer_trans}
use Rattle.journal.proofs.Lost.{firmer_firm}
use Rattle.journal.proofs.Leaves.{left-some}
use Rattle.journal.proofs.Stays.{synced_firmer, synced_to_firmer}

-- a record of a section
unfoldable Held : ℕ → Bytes → List Section → Type 0
Held s b [] = ⊥
Held s b (x ∷ xs) = ((s ≡ x.number) × Among b (all_of x)) ⊎ Held s b xs

among-left : {X : Type 0} (x : X) (xs ys : List X) → Among x xs → Among x (xs ++ ys)
unfolding Among
among-left x [] ys a = absurd a
among-left x (y ∷ xs) ys (inl e) = inl e
among-left x (y ∷ xs) ys (inr a) = inr (among-left x xs ys a)

among_right : {X : Type 0} (x : X) (xs ys : List X) → Among x ys → Among x (xs ++ ys)
unfolding Among
among_right x [] ys a = a
among_right x (y ∷ xs) ys a = inr (among_right x xs ys a)

among_split : {X : Type 0} (x : X) (xs ys : List X) → Among x (xs ++ ys) → Among x xs ⊎ Among x ys
unfolding Among
among_split x [] ys a = inr a
among_split x (y ∷ xs) ys (inl e) = inl (inl e)
among_split x (y ∷ xs) ys (inr a) = ⊎_elim (λ l. inl (inr l)) (λ r. inr r) (among_split x xs ys a)

-- a record that is read is one of its section, and the other way round
numbered-held : (s n t m : ℕ) (b : Bytes) (bs : List Bytes) → Among (record { section = s; number = n; bytes = b }) (numbered t m bs) → (s ≡ t) × Among b bs
unfolding Among numbered
numbered-held s n t m b [] a = absurd a
numbered-held s n t m b (c ∷ bs) (inl e) = (ap (λ (x : Placed). x.section) e, inl (ap (λ (x : Placed). x.bytes) e))
numbered-held s n t m b (c ∷ bs) (inr a) = let h = numbered-held s n t (suc m) b bs a in (h.0, inr h.1)

held-numbered : (s m : ℕ) (b : Bytes) (bs : List Bytes) → Among b bs → (n : ℕ) × Among (record { section = s; number = n; bytes = b }) (numbered s m bs)
unfolding Among numbered
held-numbered s m b [] a = absurd a
held-numbered s m b (c ∷ bs) (inl e) = (m, inl (ap (λ (x : Bytes). record { section = s; number = m; bytes = x }) e))
held-numbered s m b (c ∷ bs) (inr a) = let h = held-numbered s (suc m) b bs a in (h.0, inr h.1)

answers_held : (s n : ℕ) (b : Bytes) (xs : List Section) → Among (record { section = s; number = n; bytes = b }) (reading xs) → Held s b xs
unfolding reading Held
answers_held s n b [] a = absurd (unfold Among in a)
answers_held s n b (x ∷ xs) a =
    ⊎_elim (λ l. inl (numbered-held s n x.number 0 b (all_of x) l)) (λ r. inr (answers_held s n b xs r))
    (among_split (record { section = s; number = n; bytes = b }) (numbered x.number 0 (all_of x)) (reading xs) a)

held_answers : (s : ℕ) (b : Bytes) (xs : List Section) → Held s b xs → Answers s b xs
unfolding reading Held
held_answers s b [] h = absurd h
held_answers s b (x ∷ xs) (inl (e, a)) =
    let h = held-numbered s 0 b (all_of x) a in
    (h.0, among-left _ (numbered x.number 0 (all_of x)) (reading xs) (subst (λ t. Among (record { section = s; number = h.0; bytes = b }) (numbered t 0 (all_of x))) e h.1))
held_answers s b (x ∷ xs) (inr h) = let r = held_answers s b xs h in (r.0, among_right _ (numbered x.number 0 (all_of x)) (reading xs) r.1)

-- where each record of a value comes from
firmer_held : (s : ℕ) (b : Bytes) (xs ys : List Section) → AllFirmer xs ys → Held s b ys → Held s b xs
unfolding AllFirmer Held
firmer_held s b [] [] f h = h
firmer_held s b [] (y ∷ ys) f h = absurd f
firmer_held s b (x ∷ xs) [] f h = absurd f
firmer_held s b (x ∷ xs) (y ∷ ys) (f, fs) (inl (e, a)) = inl (e ∙ f.number, subst (Among b) f.same a)
firmer_held s b (x ∷ xs) (y ∷ ys) (f, fs) (inr h) = inr (firmer_held s b xs ys fs h)

-- of this section and these bytes
abbrev New : ℕ → Bytes → ℕ → Bytes → Type 0
New s b t c = (s ≡ t) × (b ≡ c)

only : (b c : Bytes) → Among b (c ∷ []) → b ≡ c
unfolding Among
only b c (inl e) = e
only b c (inr a) = absurd a

added-held : (s : ℕ) (b : Bytes) (t : ℕ) (c : Bytes) (xs : List Section) → Held s b (added t c xs) → New s b t c ⊎ Held s b xs
unfolding added Held all_of
added-held s b t c [] (inl (e, a)) = inl (e, only b c a)
added-held s b t c [] (inr h) = absurd h
added-held s b t c (x ∷ xs) h =
    cond_both (ltb t x.number) _ _ (λ l. Held s b l → New s b t c ⊎ Held s b (x ∷ xs))
    (λ _. ⊎_elim (λ p. inl (p.0, only b c p.1)) (λ r. inr r))
    (λ _. cond_both (eqb t x.number) _ _ (λ l. Held s b l → New s b t c ⊎ Held s b (x ∷ xs))
    (λ q. ⊎_elim
    (λ p. ⊎_elim (λ l. inr (inl (p.0, l))) (λ r. inl (p.0 ∙ sym (eqb-true t x.number q), only b c r)) (among_split b (x.durable ++ x.loose) (c ∷ []) (subst (Among b) (sym (append_assoc x.durable x.loose (c ∷ []))) p.1)))
    (λ r. inr (inr r)))
    (λ _. ⊎_elim (λ p. inr (inl p)) (λ r. ⊎_elim (λ l. inl l) (λ k. inr (inr k)) (added-held s b t c xs r))))
    h

from-held : (s : ℕ) (b : Bytes) (t : ℕ) (xs : List Section) → Held s b (from t xs) → Held s b xs
unfolding from Held
from-held s b t [] h = h
from-held s b t (x ∷ xs) h =
    cond_both (ltb x.number t) _ _ (λ l. Held s b l → Held s b (x ∷ xs)) (λ _ r. inr (from-held s b t xs r)) (λ _. ⊎_elim (λ p. inl p) (λ r. inr (from-held s b t xs r))) h

some-among : (b : Bytes) (xs ys : List Bytes) → SomeOf xs ys → Among b ys → Among b xs
unfolding SomeOf Among
some-among b [] ys e a = subst (Among b) e a
some-among b (x ∷ xs) ys (inl s) a = inr (some-among b xs ys s a)
some-among b (x ∷ xs) ys (inr (zs, e, s)) a = ⊎_elim (λ q. inl q) (λ q. inr (some-among b xs zs s q)) (subst (Among b) e a)

kept-held : (s : ℕ) (b : Bytes) (n : ℕ) (ys : List Bytes) (rest : List Section) → Held s b (kept n ys rest) → ((s ≡ n) × Among b ys) ⊎ Held s b rest
unfolding kept Held all_of
kept-held s b n [] rest h = inr h
kept-held s b n (y ∷ ys) rest (inl (e, a)) = inl (e, subst (Among b) (append-nil (y ∷ ys)) a)
kept-held s b n (y ∷ ys) rest (inr h) = inr h

left-held : (below s : ℕ) (b : Bytes) (xs ws : List Section) → AllLeft below xs ws → Held s b ws → Held s b xs
unfolding AllLeft Held
left-held below s b [] ws e h = subst (Held s b) e h
left-held below s b (x ∷ xs) ws (ys, l, (rest, a, e)) h =
    ⊎_elim (λ p. inl (p.0, some-among b (all_of x) ys (left-some below x ys l) p.1)) (λ r. inr (left-held below s b xs rest a r))
    (kept-held s b x.number ys rest (subst (Held s b) e h))

-- one operation brings no record but the one that it appends
new : (s : ℕ) (b : Bytes) (t : ℕ) (c : Bytes) (v : Log) → Held s b (appended t c v).sections → (append s b ≡ append t c) ⊎ Held s b v.sections
unfolding appended
new s b t c v h = ⊎_elim (λ p. inl (ap (λ (n : ℕ). append n b) p.0 ∙ ap (append t) p.1)) (λ r. inr r) (added-held s b t c v.sections h)

append-held : (s : ℕ) (b : Bytes) (t : ℕ) (c : Bytes) (r : Result (Unit {0}) Stop) (d e : Disk) → Appended d t c r e → Held s b e.log.sections → (append s b ≡ append t c) ⊎ Held s b d.log.sections
append-held s b t c (Ok _) d e (_, _, f) h = new s b t c d.log (firmer_held s b (appended t c d.log).sections e.log.sections f.sections h)
append-held s b t c (Err Full) d e (_, _, q) h = inr (subst (λ (x : Disk). Held s b x.log.sections) q h)
append-held s b t c (Err Pruned) d e (_, q) h = inr (subst (λ (x : Disk). Held s b x.log.sections) q h)
append-held s b t c (Err Off) d e (_, _, k) h = new s b t c d.log (left-held 0 s b (appended t c d.log).sections e.log.sections k.sections h)

settled-held : (s : ℕ) (b : Bytes) (to : Log → Log) → ((v : Log) → Firmer v (to v)) → (r : Result (Unit {0}) Stop) (d e : Disk) → Settled to d r e → Held s b e.log.sections → Held s b d.log.sections
settled-held s b to w (Ok _) d e (_, _, f) h = firmer_held s b d.log.sections e.log.sections (firmer_trans d.log (to d.log) e.log (w d.log) f).sections h
settled-held s b to w (Err Full) d e (_, f) h = firmer_held s b d.log.sections e.log.sections f.sections h
settled-held s b to w (Err Pruned) d e z h = absurd z
settled-held s b to w (Err Off) d e k h = left-held 0 s b d.log.sections e.log.sections k.sections h

prune-held : (s : ℕ) (b : Bytes) (t : ℕ) (r : Result (Unit {0}) Stop) (d e : Disk) → Pruning d t r e → Held s b e.log.sections → Held s b d.log.sections
unfolding pruned
prune-held s b t (Ok _) d e f h = from-held s b t d.log.sections (firmer_held s b (pruned t d.log).sections e.log.sections f.sections h)
prune-held s b t (Err Full) d e z h = absurd z
prune-held s b t (Err Pruned) d e z h = absurd z
prune-held s b t (Err Off) d e k h = left-held t s b d.log.sections e.log.sections k.sections h

read_held : (s : ℕ) (b : Bytes) (o p : Option Overrun) (r : Result (Unit {0}) ReadStop) (d e : Disk) → Reading d o r e p → Held s b e.log.sections → Held s b d.log.sections
read_held s b o p (Ok _) d e (_, _, _, _, f) h = firmer_held s b d.log.sections e.log.sections (firmer_trans d.log (all_synced d.log) e.log (firmer_firm d.log) f).sections h
read_held s b o p (Err (Overran x)) d e (_, _, _, _, f) h =
    firmer_held s b d.log.sections e.log.sections (firmer_trans d.log (synced_to x.place.section x.place.number d.log) e.log (synced_to_firmer x.place.section x.place.number d.log) f).sections h
read_held s b o p (Err Crammed) d e (_, _, f) h = firmer_held s b d.log.sections e.log.sections f.sections h
read_held s b o p (Err Dark) d e (_, k) h = left-held 0 s b d.log.sections e.log.sections k.sections h

ran_held : (os : List Op) (d e : Disk) → Ran os d e → (s : ℕ) (b : Bytes) → Held s b e.log.sections → Held s b d.log.sections ⊎ Appends s b os
unfolding Among
ran_held [] d e q s b h = inl (subst (λ (x : Disk). Held s b x.log.sections) q h)
ran_held (append t c ∷ os) d e (m, (r, x), rest) s b h =
    ⊎_elim (λ k. ⊎_elim (λ n. inr (inl n)) (λ l. inl l) (append-held s b t c r d m x k)) (λ a. inr (inr a)) (ran_held os m e rest s b h)
ran_held (sync t ∷ os) d e (m, (r, x), rest) s b h = ⊎_elim (λ k. inl (settled-held s b (synced t) (synced_firmer t) r d m x k)) (λ a. inr (inr a)) (ran_held os m e rest s b h)
ran_held (sync_all ∷ os) d e (m, (r, x), rest) s b h = ⊎_elim (λ k. inl (settled-held s b all_synced firmer_firm r d m x k)) (λ a. inr (inr a)) (ran_held os m e rest s b h)
ran_held (prune t ∷ os) d e (m, (r, x), rest) s b h = ⊎_elim (λ k. inl (prune-held s b t r d m x k)) (λ a. inr (inr a)) (ran_held os m e rest s b h)
ran_held (read ∷ os) d e (m, (o, p, r, x), rest) s b h = ⊎_elim (λ k. inl (read_held s b o p r d m x k)) (λ a. inr (inr a)) (ran_held os m e rest s b h)
ran_held (cut ∷ os) d e (m, x, rest) s b h = ⊎_elim (λ k. inl (left-held 0 s b d.log.sections m.log.sections x.sections k)) (λ a. inr (inr a)) (ran_held os m e rest s b h)

pub ran_whole : (os : List Op) (d e : Disk) → Ran os d e → (s : ℕ) (b : Bytes) → Answers s b e.log.sections → Answers s b d.log.sections ⊎ Appends s b os
ran_whole os d e r s b (n, a) = ⊎_elim (λ h. inl (held_answers s b d.log.sections h)) (λ q. inr q) (ran_held os d e r s b (answers_held s n b e.log.sections a))
