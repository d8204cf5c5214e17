-- A firmer log: an order that the operations keep, and that a cut cannot tell from above. Assumes nothing.
use Rattle.std.proofs.Common.{◌≡◌, ℕ, ◌+◌, ◌-◌, max, Bool, true, false, cond, eqb, ltb, List, [], ◌∷◌, ◌++◌, map, length, take, drop, sym, refl, ap, ◌∙◌, subst, inl, inr, append_assoc, arith, length-append, take-append-drop, length-take}
use lib.Seq.{take-append-add}
use Rattle.std.proofs.lemmas.Bool.{true≢false, false≢true}
use Rattle.journal.specs.Log.{Bytes, Section, Log, all_of, firm, firm_to, added, from, appended, synced, all_synced, synced_to, pruned, reading, FirmerSection, AllFirmer, Firmer}
use Rattle.journal.specs.Cuts.{SomeOf, Left, kept, AllLeft, Cut}

-- two choices by one test
pub both_cond : {A : Type 0} (R : A → A → Type 0) (b c : Bool) (x y u v : A) → c ≡ b → (b ≡ true → R x u) → (b ≡ false → R y v) → R (cond b x y) (cond c u v)
both_cond R true true x y u v e f g = f refl
both_cond R true false x y u v e f g = absurd (false≢true e)
both_cond R false true x y u v e f g = absurd (true≢false e)
both_cond R false false x y u v e f g = g refl

pub section_refl : (x : Section) → FirmerSection x x
section_refl x = record { number = refl; same = refl; longer = omega arith }

pub section-trans : (x y z : Section) → FirmerSection x y → FirmerSection y z → FirmerSection x z
section-trans x y z f g = record { number = g.number ∙ f.number; same = g.same ∙ f.same; longer = omega (arith, f.longer, g.longer) }

all_refl : (xs : List Section) → AllFirmer xs xs
unfolding AllFirmer
all_refl [] = tt
all_refl (x ∷ xs) = (section_refl x, all_refl xs)

all-trans : (xs ys zs : List Section) → AllFirmer xs ys → AllFirmer ys zs → AllFirmer xs zs
unfolding AllFirmer
all-trans [] [] zs f g = g
all-trans [] (y ∷ ys) zs f g = absurd f
all-trans (x ∷ xs) [] zs f g = absurd f
all-trans (x ∷ xs) (y ∷ ys) [] f g = absurd g
all-trans (x ∷ xs) (y ∷ ys) (z ∷ zs) (f, fs) (g, gs) = (section-trans x y z f g, all-trans xs ys zs fs gs)

pub firmer_refl : (v : Log) → Firmer v v
firmer_refl v = record { bound = refl; sections = all_refl v.sections }

pub firmer_trans : (u v w : Log) → Firmer u v → Firmer v w → Firmer u w
firmer_trans u v w f g = record { bound = g.bound ∙ f.bound; sections = all-trans u.sections v.sections w.sections f.sections g.sections }

-- a section with one record more
section-more : (x y : Section) (b : Bytes) → FirmerSection x y →
    FirmerSection (record { number = x.number; durable = x.durable; loose = x.loose ++ (b ∷ []) }) (record { number = y.number; durable = y.durable; loose = y.loose ++ (b ∷ []) })
unfolding all_of
section-more x y b f =
    record {
      number = f.number;
      same = sym (append_assoc y.durable y.loose (b ∷ [])) ∙ ap (λ (l : List Bytes). l ++ (b ∷ [])) f.same ∙ append_assoc x.durable x.loose (b ∷ []);
      longer = f.longer;
    }

all-added : (s : ℕ) (b : Bytes) (xs ys : List Section) → AllFirmer xs ys → AllFirmer (added s b xs) (added s b ys)
unfolding AllFirmer added
all-added s b [] [] f = (section_refl (record { number = s; durable = []; loose = b ∷ [] }), tt)
all-added s b [] (y ∷ ys) f = absurd f
all-added s b (x ∷ xs) [] f = absurd f
all-added s b (x ∷ xs) (y ∷ ys) (f, fs) =
    both_cond AllFirmer (ltb s x.number) (ltb s y.number) _ _ _ _ (ap (ltb s) f.number)
    (λ _. (section_refl (record { number = s; durable = []; loose = b ∷ [] }), (f, fs)))
    (λ _. both_cond AllFirmer (eqb s x.number) (eqb s y.number) _ _ _ _ (ap (eqb s) f.number)
    (λ _. (section-more x y b f, fs))
    (λ _. (f, all-added s b xs ys fs)))

pub firmer_appended : (s : ℕ) (b : Bytes) (v w : Log) → Firmer v w → Firmer (appended s b v) (appended s b w)
unfolding appended
firmer_appended s b v w f = record { bound = f.bound; sections = all-added s b v.sections w.sections f.sections }

-- what is done to each section
all_mapped : (t : Section → Section) → ((x y : Section) → FirmerSection x y → FirmerSection (t x) (t y)) → (xs ys : List Section) → AllFirmer xs ys → AllFirmer (map t xs) (map t ys)
unfolding AllFirmer
all_mapped t h [] [] f = tt
all_mapped t h [] (y ∷ ys) f = absurd f
all_mapped t h (x ∷ xs) [] f = absurd f
all_mapped t h (x ∷ xs) (y ∷ ys) (f, fs) = (h x y f, all_mapped t h xs ys fs)

section-firm : (x y : Section) → FirmerSection x y → FirmerSection (firm x) (firm y)
unfolding firm all_of
section-firm x y f =
    record {
      number = f.number;
      same = ap (λ (l : List Bytes). l ++ []) f.same;
      longer = omega (arith, ap length f.same);
    }

section-firm_to : (n : ℕ) (x y : Section) → FirmerSection x y → FirmerSection (firm_to n x) (firm_to n y)
unfolding firm_to all_of
section-firm_to n x y f =
    let split : (z : Section) → (z.durable ++ take (n - length z.durable) z.loose) ++ drop (n - length z.durable) z.loose ≡ z.durable ++ z.loose =
    λ z. append_assoc z.durable (take (n - length z.durable) z.loose) (drop (n - length z.durable) z.loose)
    ∙ ap (λ (l : List Bytes). z.durable ++ l) (take-append-drop (n - length z.durable) z.loose) in
    record {
      number = f.number;
      same = split y ∙ f.same ∙ sym (split x);
      longer =
          omega (
            arith,
            f.longer,
            length-append x.durable (take (n - length x.durable) x.loose),
            length-append y.durable (take (n - length y.durable) y.loose),
            length-take (n - length x.durable) x.loose,
            length-take (n - length y.durable) y.loose,
            length-append x.durable x.loose,
            length-append y.durable y.loose,
            ap length f.same,
          );
    }

pub firmer_synced : (s : ℕ) (v w : Log) → Firmer v w → Firmer (synced s v) (synced s w)
unfolding synced
firmer_synced s v w f =
    record {
      bound = f.bound;
      sections =
          all_mapped (λ x. cond (eqb s x.number) (firm x) x)
          (λ x y g. both_cond FirmerSection (eqb s x.number) (eqb s y.number) (firm x) x (firm y) y (ap (eqb s) g.number) (λ _. section-firm x y g) (λ _. g))
          v.sections w.sections f.sections;
    }

pub firmer_all-synced : (v w : Log) → Firmer v w → Firmer (all_synced v) (all_synced w)
unfolding all_synced
firmer_all-synced v w f = record { bound = f.bound; sections = all_mapped firm section-firm v.sections w.sections f.sections }

pub firmer_synced_to : (s n : ℕ) (v w : Log) → Firmer v w → Firmer (synced_to s n v) (synced_to s n w)
unfolding synced_to
firmer_synced_to s n v w f =
    record {
      bound = f.bound;
      sections =
          all_mapped (λ x. cond (ltb x.number s) (firm x) (cond (eqb s x.number) (firm_to n x) x))
          (λ x y g. both_cond FirmerSection (ltb x.number s) (ltb y.number s) (firm x) _ (firm y) _ (ap (λ k. ltb k s) g.number) (λ _. section-firm x y g)
          (λ _. both_cond FirmerSection (eqb s x.number) (eqb s y.number) (firm_to n x) x (firm_to n y) y (ap (eqb s) g.number) (λ _. section-firm_to n x y g) (λ _. g)))
          v.sections w.sections f.sections;
    }

all_from : (s : ℕ) (xs ys : List Section) → AllFirmer xs ys → AllFirmer (from s xs) (from s ys)
unfolding AllFirmer from
all_from s [] [] f = tt
all_from s [] (y ∷ ys) f = absurd f
all_from s (x ∷ xs) [] f = absurd f
all_from s (x ∷ xs) (y ∷ ys) (f, fs) =
    both_cond AllFirmer (ltb x.number s) (ltb y.number s) _ _ _ _ (ap (λ k. ltb k s) f.number) (λ _. all_from s xs ys fs) (λ _. (f, all_from s xs ys fs))

pub firmer_pruned : (s : ℕ) (v w : Log) → Firmer v w → Firmer (pruned s v) (pruned s w)
unfolding pruned
firmer_pruned s v w f = record { bound = ap (max s) f.bound; sections = all_from s v.sections w.sections f.sections }

-- the records are the same, in the same places
all-reading : (xs ys : List Section) → AllFirmer xs ys → reading ys ≡ reading xs
unfolding AllFirmer reading
all-reading [] [] f = refl
all-reading [] (y ∷ ys) f = absurd f
all-reading (x ∷ xs) [] f = absurd f
all-reading (x ∷ xs) (y ∷ ys) (f, fs) = let e = f.same in let n = f.number in let h = all-reading xs ys fs in cc

pub firmer_reading : (v w : Log) → Firmer v w → reading w.sections ≡ reading v.sections
firmer_reading v w f = all-reading v.sections w.sections f.sections

-- what a cut may leave of the firmer one, it may leave of the other
left_firmer : (below : ℕ) (x y : Section) (zs : List Bytes) → FirmerSection x y → Left below y zs → Left below x zs
unfolding Left all_of
left_firmer below x y zs f (inl (k, e)) =
    let j : ℕ = length y.durable - length x.durable + k in
    let n : length y.durable + k ≡ length x.durable + j = omega (arith, f.longer) in
    inl (j, e ∙ sym (take-append-add y.durable y.loose k) ∙ ap (take (length y.durable + k)) f.same ∙ ap (λ m. take m (x.durable ++ x.loose)) n ∙ take-append-add x.durable x.loose j)
left_firmer below x y zs f (inr (l, o)) = inr (omega (arith, l, f.number), subst (λ a. SomeOf a zs) f.same o)

all-left_firmer : (below : ℕ) (xs ys ws : List Section) → AllFirmer xs ys → AllLeft below ys ws → AllLeft below xs ws
unfolding AllFirmer AllLeft
all-left_firmer below [] [] ws f c = c
all-left_firmer below [] (y ∷ ys) ws f c = absurd f
all-left_firmer below (x ∷ xs) [] ws f c = absurd f
all-left_firmer below (x ∷ xs) (y ∷ ys) ws (f, fs) (zs, l, (rest, a, e)) =
    (zs, left_firmer below x y zs f l, (rest, all-left_firmer below xs ys rest fs a, e ∙ ap (λ n. kept n zs rest) f.number))

pub cut_firmer : (below : ℕ) (v v' w : Log) → Firmer v v' → Cut below v' w → Cut below v w
cut_firmer below v v' w f c = record { bound = c.bound; sections = all-left_firmer below v.sections v'.sections w.sections f.sections c.sections }
