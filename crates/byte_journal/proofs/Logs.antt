-- What each write does to the value of the journal. Assumes nothing.
use Rattle.std.proofs.Common.{◌≡◌, ℕ, ◌<◌, max, Bool, false, cond, not, ◌||◌, ltb, ◌⊎◌, List, [], ◌∷◌, map, Option, sym, refl, ap, ◌∙◌, subst, inl, inr, append-nil, arith}
use Rattle.std.proofs.lemmas.Bool.{cond_both, or_parts, not-false, ltb-true}
use Rattle.std.proofs.lemmas.Bool.Decides.{nat_tests}
use Rattle.area.specs.Area.{Area}
use Rattle.journal.specs.Log.{Bytes, Section, all_of, firm, added, «from», appended, all_synced, pruned, All, Sound, Firmer}
use Rattle.journal.specs.Cuts.{SomeOf, Left, kept, AllLeft, Cut}
use Rattle.journal.proofs.Firm.{firmer_refl}
use Rattle.journal.proofs.Stays.{added-ascends}
use Rattle.journal.proofs.Lost.{firmer_firm, lost_cut, kept_whole}
use Rattle.areas.specs.Plan.{some, records_in, plan}
use Rattle.areas_writing.specs.Steps.{Grown, Stayed, cleared, cleared_from}
use Rattle.byte_journal.specs.Sections.{sections}
use Rattle.byte_journal.specs.Value.{log_of}
use Rattle.byte_journal.proofs.Lookup.{recs, AllKept, same_lists}
use Rattle.byte_journal.proofs.Sieve.{sieve, recs_sieve, sieve_ascends, sieve_kept, from_sieve, recs_firm, firm-ascends, added-kept, recs_added}
use Rattle.byte_journal.proofs.Value.{ascends, all-kept, recs_sections, same-sections}
use Rattle.byte_journal.proofs.Grows.{grown-records, stayed_records}
use Rattle.byte_journal.proofs.Frees.{freed-records, cleared-records}
use Rattle.byte_journal.proofs.Short.{sound, solid, formed}

-- an append
grown_recs : (n s : ℕ) (b : Bytes) (os ns : List (Option Area)) → Grown s b os ns → recs n (sections ns) ≡ recs n (map firm (added s b (sections os)))
grown_recs n s b os ns g =
    let was = recs_sections n os in
    let there = recs_sections s os in
    let new = recs_sections n ns ∙ grown-records s b os ns g n in
    let want = recs_firm n (added s b (sections os)) ∙ recs_added 0 n s b (sections os) (ascends os) in
    grind (arith, nat_tests)

grown-sections : (s : ℕ) (b : Bytes) (os ns : List (Option Area)) → Grown s b os ns → sections ns ≡ map firm (added s b (sections os))
grown-sections s b os ns g =
    same_lists 0 (sections ns) (map firm (added s b (sections os))) (ascends ns) (firm-ascends 0 (added s b (sections os)) (added-ascends 0 s b (sections os) (omega arith) (ascends os))) (all-kept ns) (added-kept s b (sections os) (all-kept os))
    (λ n. grown_recs n s b os ns g)

pub grown-log : (bound s : ℕ) (b : Bytes) (os ns : List (Option Area)) → Grown s b os ns → Firmer (appended s b (log_of bound os)) (log_of bound ns)
unfolding appended all_synced
grown-log bound s b os ns g =
    subst (λ (xs : List Section). Firmer (appended s b (log_of bound os)) (record { bound = bound; sections = xs })) (sym (grown-sections s b os ns g)) (firmer_firm (appended s b (log_of bound os)))

-- one that the power cut
pub stayed_log : (bound s : ℕ) (b : Bytes) (bs : List ℕ) (ns : List (Option Area)) → Stayed s (plan bs) ns → Cut 0 (appended s b (log_of bound (plan bs))) (log_of 0 ns)
stayed_log bound s b bs ns g =
    subst (λ (xs : List Section). Cut 0 (appended s b (log_of bound (plan bs))) (record { bound = 0; sections = xs })) (sym (same-sections (plan bs) ns (stayed_records s (plan bs) ns g))) (lost_cut 0 s b (log_of bound (plan bs)) (solid (plan bs)) (formed bound bs))

-- a prune
pub cleared-log : (bound s : ℕ) (os ns : List (Option Area)) → ns ≡ map (cleared s) os → Firmer (pruned s (log_of bound os)) (log_of (max s bound) ns)
unfolding pruned
cleared-log bound s os ns e =
    let keep : ℕ → Bool = λ n. not (ltb n s) in
    let t : sections ns ≡ «from» s (sections os) =
    ap sections e
    ∙ same_lists 0 (sections (map (cleared s) os)) (sieve keep (sections os)) (ascends (map (cleared s) os)) (sieve_ascends keep 0 (sections os) (ascends os)) (all-kept (map (cleared s) os)) (sieve_kept keep (sections os) (all-kept os)) (λ n. recs_sections n (map (cleared s) os) ∙ cleared-records n s os ∙ ap (λ l. cond (keep n) l []) (sym (recs_sections n os)) ∙ sym (recs_sieve keep n (sections os)))
    ∙ sym (from_sieve s (sections os)) in
    subst (λ (xs : List Section). Firmer (pruned s (log_of bound os)) (record { bound = max s bound; sections = xs })) (sym t) (firmer_refl (pruned s (log_of bound os)))

-- one that the power cut

none_of : (rs : List Bytes) → SomeOf rs []
unfolding SomeOf
none_of [] = refl
none_of (r ∷ rs) = inl (none_of rs)

sieve_left : (below : ℕ) (keep : ℕ → Bool) → ((n : ℕ) → keep n ≡ false → n < below) → (xs : List Section) → AllKept xs → All Sound xs → AllLeft below xs (sieve keep xs)
unfolding sieve AllLeft AllKept All Left kept
sieve_left below keep h [] k q = refl
sieve_left below keep h (x ∷ xs) k q =
    cond_both (keep x.number) _ _ (AllLeft below (x ∷ xs))
    (λ _. (x.durable, inl (0, sym (append-nil x.durable)), (sieve keep xs, sieve_left below keep h xs k.1 q.1, kept_whole x k.0.loose q.0.some (sieve keep xs))))
    (λ e. ([], inr (h x.number e, none_of (all_of x)), (sieve keep xs, sieve_left below keep h xs k.1 q.1, refl)))

-- what is left is what a test keeps
kept_by : (n s : ℕ) (rs ts : List Bytes) → (ts ≡ rs) ⊎ ((n < s) × (ts ≡ [])) → ts ≡ cond (not (ltb n s) || some ts) rs []
unfolding some
kept_by n s rs [] h = grind (arith, nat_tests)
kept_by n s rs (t ∷ ts) h = grind (arith, nat_tests)

pub freed-log : (bound s i : ℕ) (bs : List ℕ) (ns : List (Option Area)) → ns ≡ cleared_from i s (plan bs) → Cut s (log_of bound (plan bs)) (log_of 0 ns)
freed-log bound s i bs ns e =
    let os = plan bs in
    let cs = cleared_from i s os in
    let keep : ℕ → Bool = λ n. not (ltb n s) || some (records_in n cs) in
    let t : sections ns ≡ sieve keep (sections os) =
    ap sections e
    ∙ same_lists 0 (sections cs) (sieve keep (sections os)) (ascends cs) (sieve_ascends keep 0 (sections os) (ascends os)) (all-kept cs) (sieve_kept keep (sections os) (all-kept os)) (λ n. recs_sections n cs ∙ kept_by n s (records_in n os) (records_in n cs) (freed-records i n s os) ∙ ap (λ l. cond (keep n) l []) (sym (recs_sections n os)) ∙ sym (recs_sieve keep n (sections os))) in
    let l = sieve_left s keep (λ n f. ltb-true n s (not-false (ltb n s) (or_parts (not (ltb n s)) (some (records_in n cs)) f).0)) (sections os) (all-kept os) (sound bs) in
    record { bound = refl; sections = subst (AllLeft s (sections os)) (sym t) l }
