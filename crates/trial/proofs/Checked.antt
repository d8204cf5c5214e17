-- A set of a list without a fault fits. Assumes nothing.
use Rattle.std.proofs.Common.{◌≡◌, ℕ, suc, ◌<◌, ◌≤◌, Bool, true, false, cond, not, eqb, ltb, List, [], ◌∷◌, length, is_some, Some, None, All, IfSome, Option, sym, refl, ◌∙◌, subst, ⊎_elim, arith}
use Rattle.std.proofs.lemmas.List.{length-map}
use Rattle.std.proofs.lemmas.List.Elements.{All-nil, All-cons}
use Rattle.std.proofs.lemmas.Bool.{cases_Bool, cond-true, cond-false, ltb-true, ltb-false}
use Rattle.std.specs.Option.{option_map}
use Rattle.std.specs.Str.{bytes_eq}
use Rattle.types.specs.Texts.{PublicKey}
use Rattle.types.specs.Numbers.{Participant}
use Rattle.table.specs.Keys.{lower}
use Rattle.provider.specs.Answers.{Bytes}
use Rattle.provider.specs.Laws.{Ascending}
use Rattle.provider.specs.Values.{key_bytes}
use Rattle.trial.specs.declared.epoch_set.EpochSet.{EpochSet}
use Rattle.trial.specs.declared.fault.Fault.{Fault}
use Rattle.trial.specs.declared.fault.Fault.TheVariants.{FewKeys, ManyKeys, EqualKeys, UnsortedKeys, OwnSigner}
use Rattle.trial.specs.Faults.{or_else, placed, size_fault, neighbour_fault, key_faults, keys_fault, own_fault, set_fault, epoch_fault, fault_after, faults_from, list_fault, sound}
use Rattle.trial.specs.Fits.{Fit}
use Rattle.trial.specs.Sets.{keys_of, keys_in, count_of, set_at}

pub some_none : {A : Type 0} (x : A) → Some x ≡ None → ⊥
some_none x e = let z : ◌≡◌ {A = ℕ} 0 1 = cc in omega arith

-- neither of two is there
neither : {A : Type 0} (a b : Option A) → or_else a b ≡ None → (a ≡ None) × (b ≡ None)
neither None b e = (refl, e)
neither (Some x) b e = absurd (some_none x e)

unplaced : (i : ℕ) (o : Option Fault) → placed i o ≡ None → o ≡ None
unplaced i None e = refl
unplaced i (Some f) e = absurd (some_none _ e)

-- a test that would have answered a fault failed
spared : {A : Type 0} (b : Bool) (x : A) (o : Option A) → cond b (Some x) o ≡ None → (b ≡ false) × (o ≡ None)
spared true x o e = absurd (some_none x e)
spared false x o e = (refl, e)

-- a test without which there would have been a fault passed
passed : {A : Type 0} (b : Bool) (x : A) → cond b None (Some x) ≡ None → b ≡ true
passed true x e = refl
passed false x e = absurd (some_none x e)

number_of-keys : (n : ℕ) → size_fault n ≡ None → (2 ≤ n) × (n ≤ 16)
number_of-keys n e =
    let few = spared (ltb n 2) FewKeys _ e in
    let many = spared (ltb 16 n) ManyKeys None few.1 in
    (ltb-false n 2 few.0, ltb-false 16 n many.0)

ascending-from : (i : ℕ) (p : Bytes) (ks : List Bytes) → key_faults i p ks ≡ None → Ascending lower (p ∷ ks)
ascending-from i p [] e = tt
ascending-from i p (k ∷ ks) e =
    let both = neither (neighbour_fault i p k) (key_faults (suc i) k ks) e in
    let apart = spared (bytes_eq p k) (EqualKeys i) _ both.0 in
    (passed (lower p k) (UnsortedKeys i) apart.1, ascending-from (suc i) k ks both.1)

ascending : (ks : List Bytes) → keys_fault ks ≡ None → Ascending lower ks
ascending [] e = tt
ascending (k ∷ ks) e = ascending-from 1 k ks e

each_sized : (ks : List PublicKey) → All (λ k. length k ≡ 32) (key_bytes ks)
each_sized [] = All-nil (λ (k : Bytes). length k ≡ 32)
each_sized (k ∷ ks) = All-cons (λ (k : Bytes). length k ≡ 32) k.bytes (key_bytes ks) k.sized (each_sized ks)

own_below : (n : ℕ) (me : Option Participant) → own_fault n me ≡ None → (p : Participant) → me ≡ Some p → p.0 < n
own_below n None e p is = absurd (some_none p (sym is))
own_below n (Some q) e p is =
    let same : q ≡ p = cc in
    let below = ltb-true q.0 n (passed (ltb q.0 n) OwnSigner e) in
    subst (λ (r : Participant). r.0 < n) same below

fit : (s : EpochSet) → set_fault s ≡ None → Fit s
fit s e =
    let first = neither (size_fault (count_of s)) (or_else (keys_fault (keys_in s)) (own_fault (count_of s) s.me)) e in
    let second = neither (keys_fault (keys_in s)) (own_fault (count_of s) s.me) first.1 in
    let bounds = number_of-keys (count_of s) first.0 in
    let count : length (keys_in s) ≡ count_of s = length-map (keys_of s) (λ (k : PublicKey). k.bytes) in
    record {
      keys = record {
        least = omega arith;
        most = omega arith;
        sized = each_sized (keys_of s);
        ascending = ascending (keys_in s) second.0;
      };
      count = count;
      least = bounds.0;
      most = bounds.1;
      own = own_below (count_of s) s.me second.1;
    }

fits-from : (i : ℕ) (p : Option ℕ) (ss : List EpochSet) → faults_from i p ss ≡ None → (e : ℕ) (s : EpochSet) → set_at e ss ≡ Some s → Fit s
fits-from i p [] none e s is = absurd (some_none s (sym is))
fits-from i p (t ∷ ss) none e s is =
    let both = neither (placed i (fault_after p t)) (faults_from (suc i) (Some t.epoch.0) ss) none in
    let here = neither (epoch_fault p t.epoch.0) (set_fault t) (unplaced i (fault_after p t) both.0) in
    ⊎_elim
    (λ this.
    let same : t ≡ s = cc (cond-true (eqb t.epoch.0 e) (Some t) (set_at e ss) this) in
    subst Fit same (fit t here.1))
    (λ other. fits-from (suc i) (Some t.epoch.0) ss both.1 e s (sym (cond-false (eqb t.epoch.0 e) (Some t) (set_at e ss) other) ∙ is))
    (cases_Bool (eqb t.epoch.0 e))

none_there : {A : Type 0} (o : Option A) → not (is_some o) ≡ true → o ≡ None
none_there None e = refl
none_there (Some x) e = let z : ◌≡◌ {A = Bool} false true = e in absurd (let y : ◌≡◌ {A = ℕ} 0 1 = cc in omega arith)

-- every set that a sound list answers fits
pub fits : (ss : List EpochSet) → sound ss ≡ true → (e : ℕ) (s : EpochSet) → set_at e ss ≡ Some s → Fit s
unfolding list_fault
fits ss none e s is = fits-from 0 None ss (none_there (faults_from 0 None ss) none) e s is

-- so does the one that was found, if there is one
pub fit_found : (ss : List EpochSet) → sound ss ≡ true → (e : ℕ) (o : Option EpochSet) → option_map (λ (s : EpochSet). s) o ≡ set_at e ss → IfSome o Fit
fit_found ss none e None is = tt
fit_found ss none e (Some s) is = fits ss none e s (sym is)
