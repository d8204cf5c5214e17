-- No record that is read is longer than 1,068 bytes. Assumes nothing.
use Rattle.std.proofs.Common.{◌≡◌, ℕ, zero, suc, ◌+◌, ◌/◌, ◌<◌, ◌≤◌, true, eqb, List, [], ◌∷◌, ◌++◌, map, length, get_or, take, drop, Some, None, Option, sym, refl, subst, arith}
use Rattle.std.proofs.lemmas.List.{append-nil}
use Rattle.std.proofs.lemmas.Bool.{cond_both, false≢true}
use Rattle.std.proofs.lemmas.Bool.Decides.{nat_tests}
use Rattle.area.specs.Area.{Area, size, holds, records_by, records_at, records_of, read}
use Rattle.area.proofs.Steps.{whole_from, length-body}
use Rattle.areas.specs.Plan.{some, parts, areas_in, plan}
use Rattle.areas_reading.proofs.Shows.{records_is}
use Rattle.journal.specs.Log.{Bytes, Section, all_of, All, Sound, Formed}
use Rattle.byte_journal.specs.Sections.{stored, put, shown, sections}
use Rattle.byte_journal.proofs.Lookup.{AllKept, all-durable}
use Rattle.byte_journal.proofs.Value.{ascends, all-kept}

unfoldable Short : List Bytes → Type 0
Short rs = All (λ b. length b ≤ 1068) rs

short_by : (f : ℕ) (bs : List ℕ) (at : ℕ) → Short (records_by f bs at)
unfolding Short All records_by
short_by zero bs at = tt
short_by (suc f) bs at =
    cond_both (holds bs at) _ _ (All (λ b. length b ≤ 1068)) (λ h. (omega (arith, length-body bs at h, (whole_from bs at h).short), short_by f bs (at + 3 + size bs at))) (λ _. tt)

short_of : (bs : List ℕ) → Short (records_of bs)
unfolding Short All records_at records_of
short_of bs = cond_both (eqb (get_or bs 0 0) 1) _ _ (All (λ b. length b ≤ 1068)) (λ _. short_by (length bs) bs 9) (λ _. tt)

-- of every section
unfoldable AllShort : List Section → Type 0
AllShort [] = Unit {0}
AllShort (x ∷ xs) = Short (all_of x) × AllShort xs

short-put : (s : ℕ) (rs : List Bytes) (xs : List Section) → Short rs → AllShort xs → AllShort (put s rs xs)
unfolding put AllShort stored all_of
short-put s rs [] h k = (subst Short (sym (append-nil rs)) h, tt)
short-put s rs (x ∷ xs) h k =
    let one : Short (rs ++ []) = subst Short (sym (append-nil rs)) h in
    let ih = short-put s rs xs h k.1 in
    grind (arith, nat_tests)

short-shown : (s : ℕ) (rs : List Bytes) (xs : List Section) → Short rs → AllShort xs → AllShort (shown s rs xs)
unfolding shown
short-shown s [] xs h k = k
short-shown s (r ∷ rs) xs h k = short-put s (r ∷ rs) xs h k

short-area : (bs : List ℕ) (o : Option Area) (os : List (Option Area)) → read bs ≡ o → AllShort (sections os) → AllShort (sections (o ∷ os))
unfolding sections
short-area bs None os e k = k
short-area bs (Some a) os e k = short-shown a.section a.records (sections os) (subst Short (sym (records_is bs a e)) (short_of bs)) k

short-parts : (n : ℕ) (bs : List ℕ) → AllShort (sections (map read (parts n bs)))
unfolding parts sections AllShort
short-parts zero bs = tt
short-parts (suc n) bs = short-area (take 4096 bs) (read (take 4096 bs)) (map read (parts n (drop 4096 bs))) refl (short-parts n (drop 4096 bs))

some-length : (rs : List Bytes) → some rs ≡ true → 0 < length rs
unfolding some
some-length [] h = absurd (false≢true h)
some-length (r ∷ rs) h = omega arith

all_sound : (xs : List Section) → AllKept xs → AllShort xs → All Sound xs
unfolding All AllKept AllShort Short
all_sound [] k h = tt
all_sound (x ∷ xs) k h =
    (record { some = subst (λ l. 0 < length l) (sym (all-durable x k.0.loose)) (some-length x.durable k.0.some'); short = h.0 }, all_sound xs k.1 h.1)

pub sound : (bs : List ℕ) → All Sound (sections (plan bs))
unfolding plan areas_in
sound bs = all_sound (sections (plan bs)) (all-kept (plan bs)) (short-parts (length bs / 4096) bs)

loose_none : (xs : List Section) → AllKept xs → All (λ x. x.loose ≡ []) xs
unfolding All AllKept
loose_none [] k = tt
loose_none (x ∷ xs) k = (k.0.loose, loose_none xs k.1)

-- nothing is loose
pub solid : (os : List (Option Area)) → All (λ x. x.loose ≡ []) (sections os)
solid os = loose_none (sections os) (all-kept os)

pub formed : (bound : ℕ) (bs : List ℕ) → Formed (record { bound = bound; sections = sections (plan bs) })
formed bound bs = record { ascends = ascends (plan bs); sound = sound bs }
