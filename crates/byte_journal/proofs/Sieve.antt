-- Sections put in, added to and left out, as maps. Assumes nothing.
use Rattle.std.proofs.Common.{◌≡◌, ℕ, suc, ◌≤◌, Bool, true, cond, not, eqb, ltb, List, [], ◌∷◌, ◌++◌, map, sym, refl, ap, ◌∙◌, append-nil, append_assoc, arith}
use Rattle.std.proofs.lemmas.Bool.Decides.{nat_tests}
use Rattle.journal.specs.Log.{Bytes, Section, all_of, firm, added, from, Ascends}
use Rattle.journal.proofs.Leaves.{ascends-lower}
use Rattle.areas.specs.Plan.{some}
use Rattle.byte_journal.specs.Sections.{stored, put}
use Rattle.byte_journal.proofs.Lookup.{recs, recs_below, Kept, AllKept, kept_some}

-- putting in

pub recs_put : (n s : ℕ) (rs : List Bytes) (xs : List Section) → recs n (put s rs xs) ≡ cond (eqb n s) rs (recs n xs)
unfolding put recs stored all_of
recs_put n s rs [] = grind (arith, nat_tests, append-nil)
recs_put n s rs (x ∷ xs) = let ih = recs_put n s rs xs in grind (arith, nat_tests, append-nil)

pub put-ascends : (m s : ℕ) (rs : List Bytes) (xs : List Section) → m ≤ s → Ascends m xs → Ascends m (put s rs xs)
unfolding put Ascends stored
put-ascends m s rs [] h a = (h, tt)
put-ascends m s rs (x ∷ xs) h a = let ih = put-ascends (suc x.number) s rs xs in grind (arith, nat_tests)

pub put-kept : (s : ℕ) (rs : List Bytes) (xs : List Section) → some rs ≡ true → AllKept xs → AllKept (put s rs xs)
unfolding put AllKept stored
put-kept s rs [] h k = (record { loose = refl; some' = h }, tt)
put-kept s rs (x ∷ xs) h k =
    let one : Kept (stored s rs) = record { loose = refl; some' = h } in
    let ih = put-kept s rs xs h k.1 in
    grind (arith, nat_tests)

-- leaving out
unfoldable pub sieve : (ℕ → Bool) → List Section → List Section
sieve keep [] = []
sieve keep (x ∷ xs) = cond (keep x.number) (x ∷ sieve keep xs) (sieve keep xs)

pub recs_sieve : (keep : ℕ → Bool) (n : ℕ) (xs : List Section) → recs n (sieve keep xs) ≡ cond (keep n) (recs n xs) []
unfolding sieve recs
recs_sieve keep n [] = grind (arith, nat_tests)
recs_sieve keep n (x ∷ xs) = let ih = recs_sieve keep n xs in grind (arith, nat_tests)

pub sieve_ascends : (keep : ℕ → Bool) (m : ℕ) (xs : List Section) → Ascends m xs → Ascends m (sieve keep xs)
unfolding sieve Ascends
sieve_ascends keep m [] a = tt
sieve_ascends keep m (x ∷ xs) a = let ih = sieve_ascends keep (suc x.number) xs a.1 in grind (arith, nat_tests, ascends-lower)

pub sieve_kept : (keep : ℕ → Bool) (xs : List Section) → AllKept xs → AllKept (sieve keep xs)
unfolding sieve AllKept
sieve_kept keep [] k = tt
sieve_kept keep (x ∷ xs) k = let ih = sieve_kept keep xs k.1 in grind (arith, nat_tests)

pub from_sieve : (s : ℕ) (xs : List Section) → from s xs ≡ sieve (λ n. not (ltb n s)) xs
unfolding from sieve
from_sieve s [] = refl
from_sieve s (x ∷ xs) = let ih = from_sieve s xs in grind (arith, nat_tests)

-- all records durable

pub recs_firm : (n : ℕ) (xs : List Section) → recs n (map firm xs) ≡ recs n xs
unfolding recs firm all_of
recs_firm n [] = refl
recs_firm n (x ∷ xs) = let ih = recs_firm n xs in grind (arith, nat_tests, append-nil)

pub firm-ascends : (m : ℕ) (xs : List Section) → Ascends m xs → Ascends m (map firm xs)
unfolding Ascends firm
firm-ascends m [] a = tt
firm-ascends m (x ∷ xs) a = (a.0, firm-ascends (suc x.number) xs a.1)

-- one record more

some-push : (rs : List Bytes) (b : Bytes) → some (rs ++ b ∷ []) ≡ true
unfolding some
some-push [] b = refl
some-push (r ∷ rs) b = refl

all-push : (x : Section) (b : Bytes) → x.durable ++ (x.loose ++ b ∷ []) ≡ all_of x ++ b ∷ []
unfolding all_of
all-push x b = sym (append_assoc x.durable x.loose (b ∷ []))

firm-kept : (xs : List Section) → AllKept xs → AllKept (map firm xs)
unfolding AllKept firm
firm-kept [] k = tt
firm-kept (x ∷ xs) k = (record { loose = refl; some' = kept_some x k.0 }, firm-kept xs k.1)

pub added-kept : (s : ℕ) (b : Bytes) (xs : List Section) → AllKept xs → AllKept (map firm (added s b xs))
unfolding added AllKept firm all_of some
added-kept s b [] k = (record { loose = refl; some' = refl }, tt)
added-kept s b (x ∷ xs) k =
    let ih = added-kept s b xs k.1 in
    let rest = firm-kept xs k.1 in
    let one : Kept (record { number = s; durable = b ∷ []; loose = [] }) = record { loose = refl; some' = refl } in
    let same : Kept (record { number = x.number; durable = x.durable ++ x.loose; loose = [] }) = record { loose = refl; some' = kept_some x k.0 } in
    let more : Kept (record { number = x.number; durable = x.durable ++ (x.loose ++ b ∷ []); loose = [] }) = record { loose = refl; some' = ap some (all-push x b) ∙ some-push (all_of x) b } in
    grind (arith, nat_tests)

pub recs_added : (m n s : ℕ) (b : Bytes) (xs : List Section) → Ascends m xs → recs n (added s b xs) ≡ cond (eqb n s) (recs s xs ++ b ∷ []) (recs n xs)
unfolding added Ascends recs all_of
recs_added m n s b [] a = grind (arith, nat_tests)
recs_added m n s b (x ∷ xs) a =
    let ih = recs_added (suc x.number) n s b xs a.1 in
    let low = recs_below (suc x.number) s xs a.1 in
    grind (arith, nat_tests, append_assoc)
