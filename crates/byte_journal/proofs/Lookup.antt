-- Sections in ascending order as a map from their numbers to their records. Assumes nothing.
use Rattle.std.proofs.Common.{◌≡◌, ℕ, suc, ◌<◌, cond, eqb, ◌⊎◌, true, List, [], ◌∷◌, ◌++◌, sym, refl, ap, ◌∙◌, subst, inl, inr, append-nil, arith}
use Rattle.std.proofs.lemmas.Bool.{cases_order}
use Rattle.std.proofs.lemmas.Bool.Decides.{nat_tests}
use Rattle.journal.specs.Log.{Bytes, Section, all_of, Ascends}
use Rattle.areas.specs.Plan.{some}

-- the records of a section
unfoldable pub recs : ℕ → List Section → List Bytes
recs n [] = []
recs n (x ∷ xs) = cond (eqb n x.number) (all_of x) (recs n xs)

-- every section has records, all of them durable
pub record Kept (x : Section) : Type 0 where
  pub loose : x.loose ≡ []
  pub some' : some x.durable ≡ true

unfoldable pub AllKept : List Section → Type 0
AllKept [] = Unit {0}
AllKept (x ∷ xs) = Kept x × AllKept xs

pub all-durable : (x : Section) → x.loose ≡ [] → all_of x ≡ x.durable
unfolding all_of
all-durable x e = ap (λ l. x.durable ++ l) e ∙ append-nil x.durable

pub recs_here : (n : ℕ) (x : Section) (xs : List Section) → n ≡ x.number → recs n (x ∷ xs) ≡ all_of x
unfolding recs
recs_here n x xs e = grind (arith, nat_tests)

-- below the first there is nothing
pub recs_below : (m n : ℕ) (xs : List Section) → Ascends m xs → n < m → recs n xs ≡ []
unfolding Ascends recs
recs_below m n [] a h = refl
recs_below m n (x ∷ xs) a h = let ih = recs_below (suc x.number) n xs a.1 in grind (arith, nat_tests)

-- a section that is there has records
pub kept_some : (x : Section) → Kept x → some (all_of x) ≡ true
kept_some x k = ap some (all-durable x k.loose) ∙ k.some'

recs_some : (x : Section) (xs : List Section) → Kept x → recs x.number (x ∷ xs) ≡ [] → ⊥
unfolding some
recs_some x xs k e = let s = kept_some x k in let h = recs_here x.number x xs refl in cc

section_is : {m n : ℕ} {d e f g : List Bytes} → m ≡ n → d ≡ e → f ≡ g → ◌≡◌ {A = Section} (record { number = m; durable = d; loose = f }) (record { number = n; durable = e; loose = g })
section_is p q r = cc

same-section : (x y : Section) → Kept x → Kept y → x.number ≡ y.number → all_of x ≡ all_of y → x ≡ y
same-section x y k l e r = section_is e (sym (all-durable x k.loose) ∙ r ∙ all-durable y l.loose) (k.loose ∙ sym l.loose)

-- two such lists with the same records are the same
same_tails : (n : ℕ) (x y : Section) (xs ys : List Section) → x.number ≡ y.number → Ascends (suc x.number) xs → Ascends (suc y.number) ys → recs n (x ∷ xs) ≡ recs n (y ∷ ys) → recs n xs ≡ recs n ys
unfolding recs
same_tails n x y xs ys e a b h = let p = recs_below (suc x.number) n xs a in let q = recs_below (suc y.number) n ys b in grind (arith, nat_tests)

pub same_lists : (m : ℕ) (xs ys : List Section) → Ascends m xs → Ascends m ys → AllKept xs → AllKept ys → ((n : ℕ) → recs n xs ≡ recs n ys) → xs ≡ ys
unfolding Ascends AllKept recs
same_lists m [] [] a b k l h = refl
same_lists m [] (y ∷ ys) a b k l h = absurd (recs_some y ys l.0 (sym (h y.number)))
same_lists m (x ∷ xs) [] a b k l h = absurd (recs_some x xs k.0 (h x.number))
same_lists m (x ∷ xs) (y ∷ ys) a b k l h = go (cases_order x.number y.number) (λ p q. same_lists (suc x.number) xs ys a.1 p k.1 l.1 q)
  where
    go : (x.number ≡ y.number) ⊎ ((x.number < y.number) ⊎ (y.number < x.number)) → (Ascends (suc x.number) ys → ((n : ℕ) → recs n xs ≡ recs n ys) → xs ≡ ys) → x ∷ xs ≡ y ∷ ys
    go (inl e) ih =
        let s = same-section x y k.0 l.0 e (sym (recs_here x.number x xs refl) ∙ h x.number ∙ recs_here x.number y ys e) in
        let t = ih (subst (λ i. Ascends (suc i) ys) (sym e) b.1) (λ n. same_tails n x y xs ys e a.1 b.1 (h n)) in
        ap (λ z. z ∷ xs) s ∙ ap (λ zs. y ∷ zs) t
    go (inr (inl e)) ih = absurd (recs_some x xs k.0 (h x.number ∙ recs_below y.number x.number (y ∷ ys) (omega arith, b.1) e))
    go (inr (inr e)) ih = absurd (recs_some y ys l.0 (sym (h y.number) ∙ recs_below x.number y.number (x ∷ xs) (omega arith, a.1) e))
