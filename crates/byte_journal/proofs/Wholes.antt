-- The laws of a byte journal. Assumes nothing.
use Rattle.std.proofs.Common.{◌≡◌, ℕ, ◌<◌, true, cond, eqb, ltb, ◌⊎◌, List, [], ◌∷◌, ◌++◌, length, Some, None, Ok, Err, Option, sym, refl, ap, ◌∙◌, inl, inr, map, arith}
use Rattle.std.proofs.lemmas.Bool.{cond_both, eqb-true, ltb-false}
use Rattle.area.specs.Area.{Area}
use Rattle.areas.specs.Plan.{areas_of, plan, records_in, spared}
use Rattle.areas_writing.specs.Steps.{under, cleared, cleared_from}
use Rattle.journal.specs.Laws.{durable_in}
use Rattle.journal.specs.Log.{Section}
use Rattle.journal.specs.declared.stops.Stop.TheVariants.{Full, Pruned, Off}
use Rattle.byte_journal.specs.Sections.{sections}
use Rattle.byte_journal.specs.Laws.{Sound, FirstAreaShows, FirstOverrun, AppendsWhole, PrunesWhole, PruneFrees}
use Rattle.byte_journal.proofs.Lookup.{recs, AllKept, all-durable}
use Rattle.byte_journal.proofs.Value.{all-kept, recs_sections}
use Rattle.byte_journal.proofs.Grows.{own_not, grown-records, stayed_records}
use Rattle.areas_reading.specs.Overruns.{overrun_of, overrun}
use Rattle.byte_journal.proofs.Steady.{alone, of_one, of_no, none_each, none_in, first_in}
use Rattle.byte_journal.proofs.Frees.{freed-records}

durable_recs : (s : ℕ) (xs : List Section) → AllKept xs → durable_in s xs ≡ recs s xs
unfolding durable_in recs AllKept
durable_recs s [] k = refl
durable_recs s (x ∷ xs) k = ap (λ l. cond (eqb s x.number) x.durable l) (durable_recs s xs k.1) ∙ ap (λ l. cond (eqb s x.number) l (recs s xs)) (sym (all-durable x k.0.loose))

pub first_area : FirstAreaShows
first_area os s = durable_recs s (sections os) (all-kept os) ∙ recs_sections s os

pub append_whole : AppendsWhole
append_whole bs cs p q s b (Ok x) w t =
    cond_both (eqb t s) (records_in s (plan bs) ++ b ∷ []) (records_in t (plan bs)) (λ l. records_in t (plan cs) ≡ l → (records_in t (plan cs) ≡ records_in t (plan bs)) ⊎ ((t ≡ s) × (records_in t (plan cs) ≡ records_in t (plan bs) ++ b ∷ [])))
    (λ h e. let i = eqb-true t s h in inr (i, e ∙ ap (λ k. records_in k (plan bs) ++ b ∷ []) (sym i)))
    (λ h e. inl e) (grown-records s b (plan bs) (plan cs) w.1 t)
append_whole bs cs p q s b (Err Full) w t = inl (ap (λ ds. records_in t (plan ds)) w.1)
append_whole bs cs p q s b (Err Pruned) w t = absurd w
append_whole bs cs p q s b (Err Off) w t = inl (stayed_records s (plan bs) (plan cs) w.1 t)

freed_whole : (i s t : ℕ) (os ns : List (Option Area)) → ns ≡ cleared_from i s os → (records_in t ns ≡ records_in t os) ⊎ ((t < s) × (records_in t ns ≡ []))
freed_whole i s t os ns e = go (freed-records i t s os)
  where
    go : (records_in t (cleared_from i s os) ≡ records_in t os) ⊎ ((t < s) × (records_in t (cleared_from i s os) ≡ [])) → (records_in t ns ≡ records_in t os) ⊎ ((t < s) × (records_in t ns ≡ []))
    go (inl h) = inl (ap (records_in t) e ∙ h)
    go (inr h) = inr (h.0, ap (records_in t) e ∙ h.1)

pub prune_whole : PrunesWhole
unfolding cleared_from
prune_whole bs cs p q s (Ok x) w t = freed_whole 0 s t (plan bs) (plan cs) w.0
prune_whole bs cs p q s (Err Full) w t = absurd w
prune_whole bs cs p q s (Err Pruned) w t = absurd w
prune_whole bs cs p q s (Err Off) w t = freed_whole w.0.0 s t (plan bs) (plan cs) w.0.1

frees : (s t : ℕ) (os : List (Option Area)) → t < s → (areas_of t os ≡ [] → ⊥) → spared (map (cleared s) os) ≡ true
unfolding areas_of spared cleared under
frees s t [] h n = absurd (n refl)
frees s t (None ∷ os) h n = refl
frees s t (Some a ∷ os) h n =
    cond_both (ltb a.section s) None (Some a) (λ o. spared (o ∷ map (cleared s) os) ≡ true) (λ _. refl)
    (λ e. frees s t os h (λ z. n (own_not t a os (λ q. omega (arith, ltb-false a.section s e)) ∙ z)))

pub prune_frees : PruneFrees
prune_frees bs cs p q s w t h n = ap spared w.0 ∙ frees s t (plan bs) h n

sound_by : (s : ℕ) (os : List (Option Area)) (xs : List Area) → areas_of s os ≡ xs → overrun_of s xs ≡ None → Sound s os
unfolding overrun_of
sound_by s os [] e z = inl e
sound_by s os (a ∷ xs) e z = let c = alone s (length a.records) a.defect xs z in inr (a, e ∙ ap (λ l. a ∷ l) c.1, c.0)

unsound : (s : ℕ) (os : List (Option Area)) → Sound s os → overrun_of s (areas_of s os) ≡ None
unsound s os (inl e) = of_no s (areas_of s os) e
unsound s os (inr (a, e, f)) = of_one s a (areas_of s os) e f

pub first_overrun : FirstOverrun
unfolding overrun
first_overrun os =
    (λ z s. sound_by s os (areas_of s os) refl (none_each os z s), λ h. none_in os os (λ s. unsound s os (h s)), λ x e s l. go s (first_in os os x e s l))
  where
    go : (s : ℕ) → (areas_of s os ≡ []) ⊎ (overrun_of s (areas_of s os) ≡ None) → Sound s os
    go s (inl e) = inl e
    go s (inr z) = sound_by s os (areas_of s os) refl z
