-- Durable records stay. Assumes nothing.
use Rattle.std.proofs.Common.{◌≡◌, ℕ, suc, ◌+◌, ◌-◌, ◌<◌, ◌≤◌, cond, eqb, ltb, List, [], ◌∷◌, ◌++◌, map, length, take, drop, Ok, Err, Option, Result, sym, refl, ap, ◌∙◌, subst, inl, inr, append_assoc, append-nil, arith, length-append, take-append-drop}
use lib.Seq.{take-append-add, take-append_seam}
use Rattle.std.proofs.lemmas.Bool.{cond-true, cond-false, cond_both, cases_Bool, eq-eqb, ne_eqb, eqb-true, eqb-false, ltb-true, ltb-false}
use Rattle.journal.specs.Log.{Bytes, Section, Log, all_of, firm, firm_to, added, from, appended, synced, all_synced, synced_to, pruned, Ascends, FirmerSection, AllFirmer, Firmer}
use Rattle.journal.specs.Cuts.{Left, kept, AllLeft, Cut}
use Rattle.journal.specs.Steps.{Disk, Appended, Settled, Pruning, Reading}
use Rattle.journal.specs.Laws.{Op, append, sync, sync_all, prune, read, cut, Ran, durable_in, Spared, Begins}
use Rattle.journal.specs.declared.places.Overrun.{Overrun}
use Rattle.journal.specs.declared.stops.Stop.{Stop}
use Rattle.journal.specs.declared.stops.Stop.TheVariants.{Full, Pruned, Off}
use Rattle.journal.specs.declared.stops.ReadStop.{ReadStop}
use Rattle.journal.specs.declared.stops.ReadStop.TheVariants.{Overrun as Overran, Full as Crammed, Off as Dark}
use Rattle.journal.proofs.Firm.{section_refl, firmer_refl, firmer_trans, both_cond}
use Rattle.journal.proofs.Lost.{section-firm, firmer_firm}
use Rattle.journal.proofs.Leaves.{ascends-lower, left-ascends}

-- beginnings
begins_refl : (xs : List Bytes) → Begins xs xs
begins_refl xs = ([], sym (append-nil xs))

begins-trans : (xs ys zs : List Bytes) → Begins xs ys → Begins ys zs → Begins xs zs
begins-trans xs ys zs (a, p) (b, q) = (a ++ b, q ∙ ap (λ (l : List Bytes). l ++ b) p ∙ append_assoc xs a b)

begins-same : (xs ys : List Bytes) → ys ≡ xs → Begins xs ys
begins-same xs ys e = subst (λ (l : List Bytes). Begins xs l) (sym e) (begins_refl xs)

in_here : (s : ℕ) (x : Section) (xs : List Section) → s ≡ x.number → durable_in s (x ∷ xs) ≡ x.durable
unfolding durable_in
in_here s x xs e = cond-true _ _ _ (eq-eqb _ _ e)

in_other : (s : ℕ) (x : Section) (xs : List Section) → (s ≡ x.number → ⊥) → durable_in s (x ∷ xs) ≡ durable_in s xs
unfolding durable_in
in_other s x xs n = cond-false _ _ _ (ne_eqb _ _ n)

-- a firmer section has a longer first part
section-begins : (x y : Section) → FirmerSection x y → Begins x.durable y.durable
unfolding all_of
section-begins x y f =
    let k = length y.durable - length x.durable in
    let n : length y.durable ≡ length x.durable + k = omega (arith, f.longer) in
    (take k x.loose, sym (take-append_seam y.durable y.loose) ∙ ap (take (length y.durable)) f.same ∙ ap (λ m. take m (x.durable ++ x.loose)) n ∙ take-append-add x.durable x.loose k)

pub firmer_begins : (s : ℕ) (xs ys : List Section) → AllFirmer xs ys → Begins (durable_in s xs) (durable_in s ys)
unfolding AllFirmer durable_in
firmer_begins s [] [] f = begins_refl (durable_in s [])
firmer_begins s [] (y ∷ ys) f = absurd f
firmer_begins s (x ∷ xs) [] f = absurd f
firmer_begins s (x ∷ xs) (y ∷ ys) (f, fs) =
    both_cond Begins (eqb s x.number) (eqb s y.number) x.durable (durable_in s xs) y.durable (durable_in s ys) (ap (eqb s) f.number)
    (λ _. section-begins x y f) (λ _. firmer_begins s xs ys fs)

pub firmer_ascends : (n : ℕ) (xs ys : List Section) → AllFirmer xs ys → Ascends n xs → Ascends n ys
unfolding AllFirmer Ascends
firmer_ascends n [] [] f a = tt
firmer_ascends n [] (y ∷ ys) f a = absurd f
firmer_ascends n (x ∷ xs) [] f a = absurd f
firmer_ascends n (x ∷ xs) (y ∷ ys) (f, fs) (h, a) =
    (omega (arith, h, f.number), subst (λ m. Ascends (suc m) ys) (sym f.number) (firmer_ascends (suc x.number) xs ys fs a))

-- a record more leaves the durable ones
absent : (s n : ℕ) (xs : List Section) → s < n → Ascends n xs → durable_in s xs ≡ []
unfolding Ascends
absent s n [] h a = unfold durable_in in refl
absent s n (x ∷ xs) h (b, a) = in_other s x xs (λ e. omega (arith, h, b, e)) ∙ absent s (suc x.number) xs (omega (arith, h, b)) a

added-same : (t s : ℕ) (b : Bytes) (n : ℕ) (xs : List Section) → Ascends n xs → durable_in t (added s b xs) ≡ durable_in t xs
unfolding added Ascends
added-same t s b n [] a = unfold durable_in in cond_both (eqb t s) [] [] (λ (l : List Bytes). l ≡ []) (λ _. refl) (λ _. refl)
added-same t s b n (x ∷ xs) (h, a) =
    let fresh : Section = record { number = s; durable = []; loose = b ∷ [] } in
    let longer : Section = record { number = x.number; durable = x.durable; loose = x.loose ++ (b ∷ []) } in
    cond_both (ltb s x.number) _ _ (λ l. durable_in t l ≡ durable_in t (x ∷ xs))
    (λ p.
    elim (cases_Bool (eqb t s)) [
      | inl q ↦
          let e : t ≡ s = eqb-true t s q in
          let lt = ltb-true s x.number p in
          in_here t fresh (x ∷ xs) e ∙ sym (in_other t x xs (λ z. omega (arith, lt, e, z)) ∙ absent t (suc x.number) xs (omega (arith, lt, e)) a)
      | inr q ↦ in_other t fresh (x ∷ xs) (eqb-false t s q)
    ])
    (λ _. cond_both (eqb s x.number) _ _ (λ l. durable_in t l ≡ durable_in t (x ∷ xs))
    (λ _. unfold durable_in in refl)
    (λ _.
    elim (cases_Bool (eqb t x.number)) [
      | inl q ↦ in_here t x (added s b xs) (eqb-true _ _ q) ∙ sym (in_here t x xs (eqb-true _ _ q))
      | inr q ↦ in_other t x (added s b xs) (eqb-false _ _ q) ∙ added-same t s b (suc x.number) xs a ∙ sym (in_other t x xs (eqb-false _ _ q))
    ]))

pub added-ascends : (n s : ℕ) (b : Bytes) (xs : List Section) → n ≤ s → Ascends n xs → Ascends n (added s b xs)
unfolding added Ascends
added-ascends n s b [] h a = (h, tt)
added-ascends n s b (x ∷ xs) h (g, a) =
    cond_both (ltb s x.number) _ _ (Ascends n) (λ p. (h, (ltb-true s x.number p, a)))
    (λ p. cond_both (eqb s x.number) _ _ (Ascends n) (λ _. (g, a))
    (λ q. (g, added-ascends (suc x.number) s b xs (omega (arith, ltb-false s x.number p, eqb-false s x.number q)) a)))

-- what is pruned is below
from-same : (s t : ℕ) (xs : List Section) → t ≤ s → durable_in s (from t xs) ≡ durable_in s xs
unfolding from
from-same s t [] h = refl
from-same s t (x ∷ xs) h =
    cond_both (ltb x.number t) _ _ (λ l. durable_in s l ≡ durable_in s (x ∷ xs))
    (λ p. from-same s t xs h ∙ sym (in_other s x xs (λ e. omega (arith, h, e, ltb-true x.number t p))))
    (λ _.
    elim (cases_Bool (eqb s x.number)) [
      | inl q ↦ in_here s x (from t xs) (eqb-true _ _ q) ∙ sym (in_here s x xs (eqb-true _ _ q))
      | inr q ↦ in_other s x (from t xs) (eqb-false _ _ q) ∙ from-same s t xs h ∙ sym (in_other s x xs (eqb-false _ _ q))
    ])

from-ascends : (n t : ℕ) (xs : List Section) → Ascends n xs → Ascends n (from t xs)
unfolding from Ascends
from-ascends n t [] a = tt
from-ascends n t (x ∷ xs) (h, a) =
    cond_both (ltb x.number t) _ _ (Ascends n)
    (λ _. ascends-lower n (suc x.number) (from t xs) (omega (arith, h)) (from-ascends (suc x.number) t xs a))
    (λ _. (h, from-ascends (suc x.number) t xs a))

-- what a cut leaves
kept_other : (s n : ℕ) (ys : List Bytes) (rest : List Section) → (s ≡ n → ⊥) → durable_in s (kept n ys rest) ≡ durable_in s rest
unfolding kept
kept_other s n [] rest h = refl
kept_other s n (y ∷ ys) rest h = in_other s (record { number = n; durable = y ∷ ys; loose = [] }) rest h

kept-begins : (s n : ℕ) (xs ys : List Bytes) (rest : List Section) → s ≡ n → Begins xs ys → Begins xs (durable_in s (kept n ys rest))
unfolding kept
kept-begins s n [] ys rest e b = (durable_in s (kept n ys rest), refl)
kept-begins s n (x ∷ xs) [] rest e (r, q) = let z : ◌≡◌ {A = ℕ} 0 1 = cc in absurd (omega arith)
kept-begins s n (x ∷ xs) (y ∷ ys) rest e b = subst (Begins (x ∷ xs)) (sym (in_here s (record { number = n; durable = y ∷ ys; loose = [] }) rest e)) b

left-begins : (below s : ℕ) (x : Section) (ys : List Bytes) → below ≤ s → s ≡ x.number → Left below x ys → Begins x.durable ys
unfolding Left
left-begins below s x ys h e (inl (k, q)) = (take k x.loose, q)
left-begins below s x ys h e (inr (l, o)) = absurd (omega (arith, h, e, l))

all-left-begins : (below s : ℕ) (xs ws : List Section) → below ≤ s → AllLeft below xs ws → Begins (durable_in s xs) (durable_in s ws)
unfolding AllLeft
all-left-begins below s [] ws h e = subst (λ l. Begins (durable_in s []) (durable_in s l)) (sym e) (begins_refl (durable_in s []))
all-left-begins below s (x ∷ xs) ws h (ys, l, (rest, a, e)) =
    subst (λ w. Begins (durable_in s (x ∷ xs)) (durable_in s w)) (sym e)
    (elim (cases_Bool (eqb s x.number)) [
      | inl q ↦
          let n = eqb-true s x.number q in
          subst (λ (d : List Bytes). Begins d (durable_in s (kept x.number ys rest))) (sym (in_here s x xs n))
          (kept-begins s x.number x.durable ys rest n (left-begins below s x ys h n l))
      | inr q ↦
          let n = eqb-false s x.number q in
          subst (λ (d : List Bytes). Begins d (durable_in s (kept x.number ys rest))) (sym (in_other s x xs n))
          (subst (Begins (durable_in s xs)) (sym (kept_other s x.number ys rest n)) (all-left-begins below s xs rest h a))
    ])

-- to make durable is to make firmer
section-firm_to : (n : ℕ) (x : Section) → FirmerSection x (firm_to n x)
unfolding firm_to all_of
section-firm_to n x =
    record {
      number = refl;
      same = append_assoc x.durable (take (n - length x.durable) x.loose) (drop (n - length x.durable) x.loose) ∙ ap (λ (l : List Bytes). x.durable ++ l) (take-append-drop (n - length x.durable) x.loose);
      longer = omega (arith, length-append x.durable (take (n - length x.durable) x.loose));
    }

all_mapped : (t : Section → Section) → ((x : Section) → FirmerSection x (t x)) → (xs : List Section) → AllFirmer xs (map t xs)
unfolding AllFirmer
all_mapped t h [] = tt
all_mapped t h (x ∷ xs) = (h x, all_mapped t h xs)

pub synced_firmer : (s : ℕ) (v : Log) → Firmer v (synced s v)
unfolding synced
synced_firmer s v =
    record {
      bound = refl;
      sections = all_mapped (λ x. cond (eqb s x.number) (firm x) x) (λ x. cond_both (eqb s x.number) (firm x) x (FirmerSection x) (λ _. section-firm x) (λ _. section_refl x)) v.sections;
    }

pub synced_to_firmer : (s n : ℕ) (v : Log) → Firmer v (synced_to s n v)
unfolding synced_to
synced_to_firmer s n v =
    record {
      bound = refl;
      sections =
          all_mapped (λ x. cond (ltb x.number s) (firm x) (cond (eqb s x.number) (firm_to n x) x))
          (λ x. cond_both (ltb x.number s) (firm x) _ (FirmerSection x) (λ _. section-firm x)
          (λ _. cond_both (eqb s x.number) (firm_to n x) x (FirmerSection x) (λ _. section-firm_to n x) (λ _. section_refl x)))
          v.sections;
    }

-- what one operation keeps: ascending sections, and the durable records of section s
pub record Keeps (s : ℕ) (v w : Log) : Type 0 where
  pub ascends : Ascends 0 w.sections
  pub begins : Begins (durable_in s v.sections) (durable_in s w.sections)

firmer_keeps : (s : ℕ) (v w : Log) → Ascends 0 v.sections → Firmer v w → Keeps s v w
firmer_keeps s v w a f = record { ascends = firmer_ascends 0 v.sections w.sections f.sections a; begins = firmer_begins s v.sections w.sections f.sections }

cut_keeps : (below s : ℕ) (v w : Log) → below ≤ s → Ascends 0 v.sections → Cut below v w → Keeps s v w
cut_keeps below s v w h a c = record { ascends = left-ascends below 0 v.sections w.sections a c.sections; begins = all-left-begins below s v.sections w.sections h c.sections }

keeps-trans : (s : ℕ) (u v w : Log) → Keeps s u v → Keeps s v w → Keeps s u w
keeps-trans s u v w p q = record { ascends = q.ascends; begins = begins-trans _ _ _ p.begins q.begins }

appended-keeps : (s t : ℕ) (b : Bytes) (v : Log) → Ascends 0 v.sections → Keeps s v (appended t b v)
unfolding appended
appended-keeps s t b v a = record { ascends = added-ascends 0 t b v.sections (omega arith) a; begins = begins-same _ _ (added-same s t b 0 v.sections a) }

pruned-keeps : (s t : ℕ) (v : Log) → t ≤ s → Ascends 0 v.sections → Keeps s v (pruned t v)
unfolding pruned
pruned-keeps s t v h a = record { ascends = from-ascends 0 t v.sections a; begins = begins-same _ _ (from-same s t v.sections h) }

same-keeps : (s : ℕ) (d e : Disk) → Ascends 0 d.log.sections → e ≡ d → Keeps s d.log e.log
same-keeps s d e a q = subst (λ (x : Disk). Keeps s d.log x.log) (sym q) (firmer_keeps s d.log d.log a (firmer_refl d.log))

append-keeps : (s t : ℕ) (b : Bytes) (r : Result (Unit {0}) Stop) (d e : Disk) → Ascends 0 d.log.sections → Appended d t b r e → Keeps s d.log e.log
append-keeps s t b (Ok _) d e a (_, _, f) =
    let k = appended-keeps s t b d.log a in keeps-trans s d.log (appended t b d.log) e.log k (firmer_keeps s _ e.log k.ascends f)
append-keeps s t b (Err Full) d e a (_, _, q) = same-keeps s d e a q
append-keeps s t b (Err Pruned) d e a (_, q) = same-keeps s d e a q
append-keeps s t b (Err Off) d e a (_, _, c) =
    let k = appended-keeps s t b d.log a in keeps-trans s d.log (appended t b d.log) e.log k (cut_keeps 0 s _ e.log (omega arith) k.ascends c)

settled-keeps : (s : ℕ) (to : Log → Log) → ((v : Log) → Firmer v (to v)) → (r : Result (Unit {0}) Stop) (d e : Disk) → Ascends 0 d.log.sections → Settled to d r e → Keeps s d.log e.log
settled-keeps s to h (Ok _) d e a (_, _, f) = firmer_keeps s d.log e.log a (firmer_trans d.log (to d.log) e.log (h d.log) f)
settled-keeps s to h (Err Full) d e a (_, f) = firmer_keeps s d.log e.log a f
settled-keeps s to h (Err Pruned) d e a z = absurd z
settled-keeps s to h (Err Off) d e a c = cut_keeps 0 s d.log e.log (omega arith) a c

prune-keeps : (s t : ℕ) (r : Result (Unit {0}) Stop) (d e : Disk) → t ≤ s → Ascends 0 d.log.sections → Pruning d t r e → Keeps s d.log e.log
prune-keeps s t (Ok _) d e h a f = let k = pruned-keeps s t d.log h a in keeps-trans s d.log (pruned t d.log) e.log k (firmer_keeps s _ e.log k.ascends f)
prune-keeps s t (Err Full) d e h a z = absurd z
prune-keeps s t (Err Pruned) d e h a z = absurd z
prune-keeps s t (Err Off) d e h a c = cut_keeps t s d.log e.log h a c

read_keeps : (s : ℕ) (o p : Option Overrun) (r : Result (Unit {0}) ReadStop) (d e : Disk) → Ascends 0 d.log.sections → Reading d o r e p → Keeps s d.log e.log
read_keeps s o p (Ok _) d e a (_, _, _, _, f) = firmer_keeps s d.log e.log a (firmer_trans d.log (all_synced d.log) e.log (firmer_firm d.log) f)
read_keeps s o p (Err (Overran x)) d e a (_, _, _, _, f) =
    firmer_keeps s d.log e.log a (firmer_trans d.log (synced_to x.place.section x.place.number d.log) e.log (synced_to_firmer x.place.section x.place.number d.log) f)
read_keeps s o p (Err Crammed) d e a (_, _, f) = firmer_keeps s d.log e.log a f
read_keeps s o p (Err Dark) d e a (_, c) = cut_keeps 0 s d.log e.log (omega arith) a c

pub ran_keeps : (os : List Op) (d e : Disk) → Ascends 0 d.log.sections → Ran os d e → (s : ℕ) → Spared s os → Keeps s d.log e.log
ran_keeps [] d e a q s sp = same-keeps s d e a q
ran_keeps (append t b ∷ os) d e a (m, (r, x), rest) s sp = let k = append-keeps s t b r d m a x in keeps-trans s d.log m.log e.log k (ran_keeps os m e k.ascends rest s sp)
ran_keeps (sync t ∷ os) d e a (m, (r, x), rest) s sp = let k = settled-keeps s (synced t) (synced_firmer t) r d m a x in keeps-trans s d.log m.log e.log k (ran_keeps os m e k.ascends rest s sp)
ran_keeps (sync_all ∷ os) d e a (m, (r, x), rest) s sp = let k = settled-keeps s all_synced firmer_firm r d m a x in keeps-trans s d.log m.log e.log k (ran_keeps os m e k.ascends rest s sp)
ran_keeps (prune t ∷ os) d e a (m, (r, x), rest) s (h, sp) = let k = prune-keeps s t r d m h a x in keeps-trans s d.log m.log e.log k (ran_keeps os m e k.ascends rest s sp)
ran_keeps (read ∷ os) d e a (m, (o, p, r, x), rest) s sp = let k = read_keeps s o p r d m a x in keeps-trans s d.log m.log e.log k (ran_keeps os m e k.ascends rest s sp)
ran_keeps (cut ∷ os) d e a (m, x, rest) s sp = let k = cut_keeps 0 s d.log m.log (omega arith) a x in keeps-trans s d.log m.log e.log k (ran_keeps os m e k.ascends rest s sp)
