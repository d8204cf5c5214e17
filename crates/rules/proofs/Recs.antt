-- Which records stand in a journal, and which of them are durable, after each operation and after a cut. Assumes nothing.
use Rattle.std.proofs.Common.{◌≡◌, ℕ, zero, suc, ◌<◌, ◌≤◌, Bool, true, false, cond, eqb, ltb, ◌⊎◌, List, [], ◌∷◌, ◌++◌, map, length, take, sym, refl, ap, ◌∙◌, subst, inl, inr, arith, ltb-true, eqb-true}
use mathlib.Core.List.Memᴰ
use mathlib.Core.List.{Memᴰ}
use borrow.Author.Tests.{eqb-false}
use Rattle.std.proofs.lemmas.Bool.{cond_both}
use Rattle.journal.specs.Log.{Bytes, Section, Log, Placed, all_of, firm, added, from, appended, synced, all_synced, pruned, numbered, reading, AllFirmer, FirmerSection, Firmer, empty}
use Rattle.journal.specs.Cuts.{SomeOf, Left, kept, AllLeft, Cut}

-- all records of a section
abbrev pub every : Section → List Bytes
every x = x.durable ++ x.loose

-- b is one of the records that f picks in section s
abbrev pub Has : (Section → List Bytes) → ℕ → Bytes → List Section → Type 0
Has f s b [] = ⊥
Has f s b (x ∷ xs) = ((x.number ≡ s) × Memᴰ b (f x)) ⊎ Has f s b xs

-- b stands in section s; it is durable there
abbrev pub In : ℕ → Bytes → Log → Type 0
In s b v = Has every s b v.sections

abbrev pub Dur : ℕ → Bytes → Log → Type 0
Dur s b v = Has (λ x. x.durable) s b v.sections

has_more : (f g : Section → List Bytes) → ((x : Section) (b : Bytes) → Memᴰ b (f x) → Memᴰ b (g x)) → (s : ℕ) (b : Bytes) (xs : List Section) → Has f s b xs → Has g s b xs
has_more f g h s b [] i = absurd i
has_more f g h s b (x ∷ xs) (inl u) = inl (u.0, h x b u.1)
has_more f g h s b (x ∷ xs) (inr u) = inr (has_more f g h s b xs u)

pub dur_in : (s : ℕ) (b : Bytes) (v : Log) → Dur s b v → In s b v
dur_in s b v d = has_more (λ x. x.durable) every (λ x b m. Memᴰ.append_left x.loose m) s b v.sections d

-- append
module _ (t : ℕ) (c : Bytes) where
  abbrev one : Section
  one = record { number = t; durable = []; loose = c ∷ [] }

  abbrev more : Section → Section
  more x = record { number = x.number; durable = x.durable; loose = x.loose ++ (c ∷ []) }

  kept_on : (f : Section → List Bytes) → ((x : Section) (b : Bytes) → Memᴰ b (f x) → Memᴰ b (f (more x))) → (s : ℕ) (b : Bytes) (xs : List Section) → Has f s b xs → Has f s b (added t c xs)
  unfolding added
  kept_on f g s b [] i = absurd i
  kept_on f g s b (x ∷ xs) i =
      cond_both (ltb t x.number) (one ∷ x ∷ xs) (cond (eqb t x.number) (more x ∷ xs) (x ∷ added t c xs)) (Has f s b) (λ _. inr i)
      (λ _. cond_both (eqb t x.number) (more x ∷ xs) (x ∷ added t c xs) (Has f s b)
      (λ _. elim i [ inl u ↦ inl (u.0, g x b u.1) | inr u ↦ inr u ])
      (λ _. elim i [ inl u ↦ inl u | inr u ↦ inr (kept_on f g s b xs u) ]))

  pub in_appended : (s : ℕ) (b : Bytes) (v : Log) → In s b v → In s b (appended t c v)
  unfolding appended
  in_appended s b v i = kept_on every (λ x b m. elim (Memᴰ.append_cases x.durable m) [ inl u ↦ Memᴰ.append_left (x.loose ++ (c ∷ [])) u | inr u ↦ Memᴰ.append_right x.durable (Memᴰ.append_left (c ∷ []) u) ]) s b v.sections i

  pub dur_appended : (s : ℕ) (b : Bytes) (v : Log) → Dur s b v → Dur s b (appended t c v)
  unfolding appended
  dur_appended s b v i = kept_on (λ x. x.durable) (λ x b m. m) s b v.sections i

  there : (xs : List Section) → Has every t c (added t c xs)
  unfolding added
  there [] = inl (refl, Memᴰ.head refl)
  there (x ∷ xs) =
      cond_both (ltb t x.number) (one ∷ x ∷ xs) (cond (eqb t x.number) (more x ∷ xs) (x ∷ added t c xs)) (Has every t c) (λ _. inl (refl, Memᴰ.head refl))
      (λ _. cond_both (eqb t x.number) (more x ∷ xs) (x ∷ added t c xs) (Has every t c)
      (λ q. inl (sym (eqb-true t x.number q), Memᴰ.append_right x.durable (Memᴰ.append_right x.loose (Memᴰ.head refl))))
      (λ _. inr (there xs)))

  pub new-appended : (v : Log) → In t c (appended t c v)
  unfolding appended
  new-appended v = there v.sections

  only : (s : ℕ) (b : Bytes) (xs : List Section) → Has every s b (added t c xs) → Has every s b xs ⊎ ((t ≡ s) × (b ≡ c))
  unfolding added
  only s b [] (inl u) = inr (u.0, Memᴰ.eq_of_singleton u.1)
  only s b [] (inr u) = absurd u
  only s b (x ∷ xs) i = pick (λ u. only s b xs u) (ltb t x.number) (eqb t x.number) refl i
    where
      new : Has every s b (one ∷ x ∷ xs) → Has every s b (x ∷ xs) ⊎ ((t ≡ s) × (b ≡ c))
      new (inl u) = inr (u.0, Memᴰ.eq_of_singleton u.1)
      new (inr u) = inl u

      here : t ≡ x.number → Has every s b (more x ∷ xs) → Has every s b (x ∷ xs) ⊎ ((t ≡ s) × (b ≡ c))
      here e (inl u) =
          elim (Memᴰ.append_cases x.durable u.1) [
            | inl m ↦ inl (inl (u.0, Memᴰ.append_left x.loose m))
            | inr m ↦ elim (Memᴰ.append_cases x.loose m) [
              | inl n ↦ inl (inl (u.0, Memᴰ.append_right x.durable n))
              | inr n ↦ inr (e ∙ u.0, Memᴰ.eq_of_singleton n)
            ]
          ]
      here e (inr u) = inl (inr u)

      further : (Has every s b (added t c xs) → Has every s b xs ⊎ ((t ≡ s) × (b ≡ c))) → Has every s b (x ∷ added t c xs) → Has every s b (x ∷ xs) ⊎ ((t ≡ s) × (b ≡ c))
      further rest (inl u) = inl (inl u)
      further rest (inr u) = elim (rest u) [ inl m ↦ inl (inr m) | inr m ↦ inr m ]

      pick : (Has every s b (added t c xs) → Has every s b xs ⊎ ((t ≡ s) × (b ≡ c))) → (p q : Bool) → eqb t x.number ≡ q → Has every s b (cond p (one ∷ x ∷ xs) (cond q (more x ∷ xs) (x ∷ added t c xs))) → Has every s b (x ∷ xs) ⊎ ((t ≡ s) × (b ≡ c))
      pick rest true q e j = new j
      pick rest false true e j = here (eqb-true t x.number e) j
      pick rest false false e j = further rest j

  pub appended_in : (s : ℕ) (b : Bytes) (v : Log) → In s b (appended t c v) → In s b v ⊎ ((t ≡ s) × (b ≡ c))
  unfolding appended
  appended_in s b v i = only s b v.sections i

-- sync, of one section or of all
has_map : (f : Section → List Bytes) (g : Section → Section) → ((x : Section) (b : Bytes) → Memᴰ b (f x) → Memᴰ b (f (g x))) → ((x : Section) → (g x).number ≡ x.number) → (s : ℕ) (b : Bytes) (xs : List Section) → Has f s b xs → Has f s b (map g xs)
has_map f g h n s b [] i = absurd i
has_map f g h n s b (x ∷ xs) (inl u) = inl (n x ∙ u.0, h x b u.1)
has_map f g h n s b (x ∷ xs) (inr u) = inr (has_map f g h n s b xs u)

map_has : (f : Section → List Bytes) (g : Section → Section) → ((x : Section) (b : Bytes) → Memᴰ b (f (g x)) → Memᴰ b (f x)) → ((x : Section) → (g x).number ≡ x.number) → (s : ℕ) (b : Bytes) (xs : List Section) → Has f s b (map g xs) → Has f s b xs
map_has f g h n s b [] i = absurd i
map_has f g h n s b (x ∷ xs) (inl u) = inl (sym (n x) ∙ u.0, h x b u.1)
map_has f g h n s b (x ∷ xs) (inr u) = inr (map_has f g h n s b xs u)

-- a section with all its records durable
solid : (x : Section) (b : Bytes) → Memᴰ b (every x) → Memᴰ b (firm x).durable
unfolding firm all_of
solid x b m = m

solid_in : (x : Section) (b : Bytes) → Memᴰ b (every (firm x)) → Memᴰ b (every x)
unfolding firm all_of
solid_in x b m = elim (Memᴰ.append_cases (every x) m) [ inl u ↦ u | inr u ↦ absurd (Memᴰ.not-nil u) ]

in_solid : (x : Section) (b : Bytes) → Memᴰ b (every x) → Memᴰ b (every (firm x))
unfolding firm all_of
in_solid x b m = Memᴰ.append_left [] m

dur_solid : (x : Section) (b : Bytes) → Memᴰ b x.durable → Memᴰ b (firm x).durable
dur_solid x b m = solid x b (Memᴰ.append_left x.loose m)

same_number : (x : Section) → (firm x).number ≡ x.number
unfolding firm
same_number x = refl

module _ (t : ℕ) where
  abbrev settle : Section → Section
  settle x = cond (eqb t x.number) (firm x) x

  settle-number : (x : Section) → (settle x).number ≡ x.number
  settle-number x = cond_both (eqb t x.number) (firm x) x (λ y. y.number ≡ x.number) (λ _. same_number x) (λ _. refl)

  pub in_synced : (s : ℕ) (b : Bytes) (v : Log) → In s b v → In s b (synced t v)
  unfolding synced
  in_synced s b v i = has_map every settle (λ x b m. cond_both (eqb t x.number) (firm x) x (λ y. Memᴰ b (every y)) (λ _. in_solid x b m) (λ _. m)) settle-number s b v.sections i

  pub synced_in : (s : ℕ) (b : Bytes) (v : Log) → In s b (synced t v) → In s b v
  unfolding synced
  synced_in s b v i = map_has every settle (λ x b. cond_both (eqb t x.number) (firm x) x (λ y. Memᴰ b (every y) → Memᴰ b (every x)) (λ _. solid_in x b) (λ _ m. m)) settle-number s b v.sections i

  pub dur_synced : (s : ℕ) (b : Bytes) (v : Log) → Dur s b v → Dur s b (synced t v)
  unfolding synced
  dur_synced s b v i = has_map (λ x. x.durable) settle (λ x b m. cond_both (eqb t x.number) (firm x) x (λ y. Memᴰ b y.durable) (λ _. dur_solid x b m) (λ _. m)) settle-number s b v.sections i

  now_solid : (b : Bytes) (xs : List Section) → Has every t b xs → Has (λ x. x.durable) t b (map settle xs)
  now_solid b [] i = absurd i
  now_solid b (x ∷ xs) (inl u) =
      inl (settle-number x ∙ u.0, cond_both (eqb t x.number) (firm x) x (λ y. Memᴰ b y.durable) (λ _. solid x b u.1) (λ q. absurd (eqb-false t x.number q (sym u.0))))
  now_solid b (x ∷ xs) (inr u) = inr (now_solid b xs u)

  pub new-synced : (b : Bytes) (v : Log) → In t b v → Dur t b (synced t v)
  unfolding synced
  new-synced b v i = now_solid b v.sections i

pub in_all : (s : ℕ) (b : Bytes) (v : Log) → In s b v → In s b (all_synced v)
unfolding all_synced
in_all s b v i = has_map every firm in_solid same_number s b v.sections i

pub all_in : (s : ℕ) (b : Bytes) (v : Log) → In s b (all_synced v) → In s b v
unfolding all_synced
all_in s b v i = map_has every firm solid_in same_number s b v.sections i

all_solid : (s : ℕ) (b : Bytes) (xs : List Section) → Has every s b xs → Has (λ x. x.durable) s b (map firm xs)
all_solid s b [] i = absurd i
all_solid s b (x ∷ xs) (inl u) = inl (same_number x ∙ u.0, solid x b u.1)
all_solid s b (x ∷ xs) (inr u) = inr (all_solid s b xs u)

pub new-all : (s : ℕ) (b : Bytes) (v : Log) → In s b v → Dur s b (all_synced v)
unfolding all_synced
new-all s b v i = all_solid s b v.sections i

-- prune
has_from : (f : Section → List Bytes) (t s : ℕ) (b : Bytes) (xs : List Section) → t ≤ s → Has f s b xs → Has f s b (from t xs)
unfolding from
has_from f t s b [] h i = absurd i
has_from f t s b (x ∷ xs) h (inl u) =
    cond_both (ltb x.number t) (from t xs) (x ∷ from t xs) (Has f s b) (λ q. let n = ltb-true x.number t q in let e = u.0 in absurd (omega arith)) (λ _. inl u)
has_from f t s b (x ∷ xs) h (inr u) =
    let i = has_from f t s b xs h u in
    cond_both (ltb x.number t) (from t xs) (x ∷ from t xs) (Has f s b) (λ _. i) (λ _. inr i)

from_has : (f : Section → List Bytes) (t s : ℕ) (b : Bytes) (xs : List Section) → Has f s b (from t xs) → Has f s b xs
unfolding from
from_has f t s b [] i = absurd i
from_has f t s b (x ∷ xs) i = pick (λ u. from_has f t s b xs u) (ltb x.number t) i
  where
    pick : (Has f s b (from t xs) → Has f s b xs) → (q : Bool) → Has f s b (cond q (from t xs) (x ∷ from t xs)) → Has f s b (x ∷ xs)
    pick rest true j = inr (rest j)
    pick rest false (inl u) = inl u
    pick rest false (inr u) = inr (rest u)

pub in_pruned : (t s : ℕ) (b : Bytes) (v : Log) → t ≤ s → In s b v → In s b (pruned t v)
unfolding pruned
in_pruned t s b v h i = has_from every t s b v.sections h i

pub dur_pruned : (t s : ℕ) (b : Bytes) (v : Log) → t ≤ s → Dur s b v → Dur s b (pruned t v)
unfolding pruned
dur_pruned t s b v h i = has_from (λ x. x.durable) t s b v.sections h i

pub pruned_in : (t s : ℕ) (b : Bytes) (v : Log) → In s b (pruned t v) → In s b v
unfolding pruned
pruned_in t s b v i = from_has every t s b v.sections i

-- more of it durable
longer : (b : Bytes) (xs ys k l : List Bytes) → ys ++ l ≡ xs ++ k → length xs ≤ length ys → Memᴰ b xs → Memᴰ b ys
longer b [] ys k l e h m = absurd (Memᴰ.not-nil m)
longer b (x ∷ xs) [] k l e h m = absurd (omega arith)
longer b (x ∷ xs) (y ∷ ys) k l e h (Memᴰ.head q) = let f : y ≡ x = cc in Memᴰ.head (q ∙ sym f)
longer b (x ∷ xs) (y ∷ ys) k l e h (Memᴰ.tail m) = let f : ys ++ l ≡ xs ++ k = cc in Memᴰ.tail (longer b xs ys k l f (omega arith) m)

same_every : (x y : Section) → FirmerSection x y → every y ≡ every x
unfolding all_of
same_every x y f = f.same

module _ where
  firmer_has : (s : ℕ) (b : Bytes) (xs ys : List Section) → AllFirmer xs ys → Has every s b xs → Has every s b ys
  unfolding AllFirmer
  firmer_has s b [] ys f i = absurd i
  firmer_has s b (x ∷ xs) [] f i = absurd f
  firmer_has s b (x ∷ xs) (y ∷ ys) f (inl u) = inl (f.0.number ∙ u.0, subst (Memᴰ b) (sym (same_every x y f.0)) u.1)
  firmer_has s b (x ∷ xs) (y ∷ ys) f (inr u) = inr (firmer_has s b xs ys f.1 u)

  has_firmer : (s : ℕ) (b : Bytes) (xs ys : List Section) → AllFirmer xs ys → Has every s b ys → Has every s b xs
  unfolding AllFirmer
  has_firmer s b xs [] f i = absurd i
  has_firmer s b [] (y ∷ ys) f i = absurd f
  has_firmer s b (x ∷ xs) (y ∷ ys) f (inl u) = inl (sym f.0.number ∙ u.0, subst (Memᴰ b) (same_every x y f.0) u.1)
  has_firmer s b (x ∷ xs) (y ∷ ys) f (inr u) = inr (has_firmer s b xs ys f.1 u)

  firmer_durable : (s : ℕ) (b : Bytes) (xs ys : List Section) → AllFirmer xs ys → Has (λ x. x.durable) s b xs → Has (λ x. x.durable) s b ys
  unfolding AllFirmer
  firmer_durable s b [] ys f i = absurd i
  firmer_durable s b (x ∷ xs) [] f i = absurd f
  firmer_durable s b (x ∷ xs) (y ∷ ys) f (inl u) = inl (f.0.number ∙ u.0, longer b x.durable y.durable x.loose y.loose (same_every x y f.0) f.0.longer u.1)
  firmer_durable s b (x ∷ xs) (y ∷ ys) f (inr u) = inr (firmer_durable s b xs ys f.1 u)

pub in_firmer : (s : ℕ) (b : Bytes) (v w : Log) → Firmer v w → In s b v → In s b w
in_firmer s b v w f i = firmer_has s b v.sections w.sections f.sections i

pub firmer_in : (s : ℕ) (b : Bytes) (v w : Log) → Firmer v w → In s b w → In s b v
firmer_in s b v w f i = has_firmer s b v.sections w.sections f.sections i

pub dur_firmer : (s : ℕ) (b : Bytes) (v w : Log) → Firmer v w → Dur s b v → Dur s b w
dur_firmer s b v w f i = firmer_durable s b v.sections w.sections f.sections i

-- a cut
taken : (b : Bytes) (k : ℕ) (xs : List Bytes) → Memᴰ b (take k xs) → Memᴰ b xs
taken b zero xs m = absurd (Memᴰ.not-nil m)
taken b (suc k) [] m = absurd (Memᴰ.not-nil m)
taken b (suc k) (x ∷ xs) (Memᴰ.head e) = Memᴰ.head e
taken b (suc k) (x ∷ xs) (Memᴰ.tail m) = Memᴰ.tail (taken b k xs m)

picked : (b : Bytes) (xs ys : List Bytes) → SomeOf xs ys → Memᴰ b ys → Memᴰ b xs
unfolding SomeOf
picked b [] ys e m = absurd (Memᴰ.not-nil (subst (Memᴰ b) e m))
picked b (x ∷ xs) ys (inl f) m = Memᴰ.tail (picked b xs ys f m)
picked b (x ∷ xs) ys (inr (zs, e, f)) m = here (subst (Memᴰ b) e m) (λ n. picked b xs zs f n)
  where
    here : Memᴰ b (x ∷ zs) → (Memᴰ b zs → Memᴰ b xs) → Memᴰ b (x ∷ xs)
    here (Memᴰ.head q) rest = Memᴰ.head q
    here (Memᴰ.tail n) rest = Memᴰ.tail (rest n)

left_in : (below : ℕ) (x : Section) (ys : List Bytes) (b : Bytes) → Left below x ys → Memᴰ b ys → Memᴰ b (every x)
unfolding Left all_of
left_in below x ys b (inl (k, e)) m =
    elim (Memᴰ.append_cases x.durable (subst (Memᴰ b) e m)) [ inl u ↦ Memᴰ.append_left x.loose u | inr u ↦ Memᴰ.append_right x.durable (taken b k x.loose u) ]
left_in below x ys b (inr (_, f)) m = picked b (every x) ys f m

dur_left : (below : ℕ) (x : Section) (ys : List Bytes) (b : Bytes) → Left below x ys → Memᴰ b x.durable → Memᴰ b ys ⊎ (x.number < below)
unfolding Left
dur_left below x ys b (inl (k, e)) m = inl (subst (Memᴰ b) (sym e) (Memᴰ.append_left (take k x.loose) m))
dur_left below x ys b (inr (l, _)) m = inr l

kept_has : (s n : ℕ) (b : Bytes) (ys : List Bytes) (rest : List Section) → Has every s b (kept n ys rest) → ((n ≡ s) × Memᴰ b ys) ⊎ Has every s b rest
unfolding kept
kept_has s n b [] rest i = inr i
kept_has s n b (y ∷ ys) rest (inl u) = inl (u.0, elim (Memᴰ.append_cases (y ∷ ys) u.1) [ inl m ↦ m | inr m ↦ absurd (Memᴰ.not-nil m) ])
kept_has s n b (y ∷ ys) rest (inr u) = inr u

has_kept : (f : Section → List Bytes) → ((x : Section) (b : Bytes) → Memᴰ b x.durable → Memᴰ b (f x)) → (s n : ℕ) (b : Bytes) (ys : List Bytes) (rest : List Section) → ((n ≡ s) × Memᴰ b ys) ⊎ Has f s b rest → Has f s b (kept n ys rest)
unfolding kept
has_kept f g s n b [] rest (inl u) = absurd (Memᴰ.not-nil u.1)
has_kept f g s n b [] rest (inr u) = u
has_kept f g s n b (y ∷ ys) rest (inl u) = inl (u.0, g _ b u.1)
has_kept f g s n b (y ∷ ys) rest (inr u) = inr u

all-left_in : (below s : ℕ) (b : Bytes) (xs ws : List Section) → AllLeft below xs ws → Has every s b ws → Has every s b xs
unfolding AllLeft
all-left_in below s b [] ws e i = subst (Has every s b) e i
all-left_in below s b (x ∷ xs) ws (ys, l, (rest, a, e)) i =
    elim (kept_has s x.number b ys rest (subst (Has every s b) e i)) [
      | inl u ↦ inl (u.0, left_in below x ys b l u.1)
      | inr u ↦ inr (all-left_in below s b xs rest a u)
    ]

all-left-durable : (below s : ℕ) (b : Bytes) (xs ws : List Section) → AllLeft below xs ws → Has every s b ws → Has (λ x. x.durable) s b ws
unfolding AllLeft
all-left-durable below s b [] ws e i = absurd (subst (Has every s b) e i)
all-left-durable below s b (x ∷ xs) ws (ys, l, (rest, a, e)) i =
    subst (Has (λ x. x.durable) s b) (sym e) (has_kept (λ x. x.durable) (λ x b m. m) s x.number b ys rest
    (elim (kept_has s x.number b ys rest (subst (Has every s b) e i)) [ inl u ↦ inl u | inr u ↦ inr (all-left-durable below s b xs rest a u) ]))

all-left-keeps : (below s : ℕ) (b : Bytes) (xs ws : List Section) → AllLeft below xs ws → Has (λ x. x.durable) s b xs → Has (λ x. x.durable) s b ws ⊎ (s < below)
unfolding AllLeft
all-left-keeps below s b [] ws e i = absurd i
all-left-keeps below s b (x ∷ xs) ws (ys, l, (rest, a, e)) (inl u) =
    elim (dur_left below x ys b l u.1) [
      | inl m ↦ inl (subst (Has (λ x. x.durable) s b) (sym e) (has_kept (λ x. x.durable) (λ x b m. m) s x.number b ys rest (inl (u.0, m))))
      | inr m ↦ let q = u.0 in inr (omega arith)
    ]
all-left-keeps below s b (x ∷ xs) ws (ys, l, (rest, a, e)) (inr u) =
    elim (all-left-keeps below s b xs rest a u) [
      | inl m ↦ inl (subst (Has (λ x. x.durable) s b) (sym e) (has_kept (λ x. x.durable) (λ x b m. m) s x.number b ys rest (inr m)))
      | inr m ↦ inr m
    ]

pub cut_in : (below s : ℕ) (b : Bytes) (v w : Log) → Cut below v w → In s b w → In s b v
cut_in below s b v w c i = all-left_in below s b v.sections w.sections c.sections i

pub cut-durable : (below s : ℕ) (b : Bytes) (v w : Log) → Cut below v w → In s b w → Dur s b w
cut-durable below s b v w c i = all-left-durable below s b v.sections w.sections c.sections i

pub cut_keeps : (below s : ℕ) (b : Bytes) (v w : Log) → Cut below v w → Dur s b v → Dur s b w ⊎ (s < below)
cut_keeps below s b v w c i = all-left-keeps below s b v.sections w.sections c.sections i

-- the records in reading order are those that stand there
numbered_has : (s n : ℕ) (bs : List Bytes) (r : Placed) → Memᴰ r (numbered s n bs) → (r.section ≡ s) × Memᴰ r.bytes bs
unfolding numbered
numbered_has s n [] r m = absurd (Memᴰ.not-nil m)
numbered_has s n (b ∷ bs) r (Memᴰ.head e) = (ap (λ x. x.section) e, Memᴰ.head (ap (λ x. x.bytes) e))
numbered_has s n (b ∷ bs) r (Memᴰ.tail m) = let i = numbered_has s (suc n) bs r m in (i.0, Memᴰ.tail i.1)

has_numbered : (s n : ℕ) (bs : List Bytes) (b : Bytes) → Memᴰ b bs → (r : Placed) × Memᴰ r (numbered s n bs) × (r.section ≡ s) × (r.bytes ≡ b)
unfolding numbered
has_numbered s n [] b m = absurd (Memᴰ.not-nil m)
has_numbered s n (c ∷ bs) b (Memᴰ.head e) = (record { section = s; number = n; bytes = c }, Memᴰ.head refl, refl, sym e)
has_numbered s n (c ∷ bs) b (Memᴰ.tail m) = let i = has_numbered s (suc n) bs b m in (i.0, Memᴰ.tail i.1, i.2, i.3)

read_has : (xs : List Section) (r : Placed) → Memᴰ r (reading xs) → Has every r.section r.bytes xs
unfolding reading all_of
read_has [] r m = absurd (Memᴰ.not-nil m)
read_has (x ∷ xs) r m =
    elim (Memᴰ.append_cases (numbered x.number 0 (every x)) m) [
      | inl u ↦ (let i = numbered_has x.number 0 (every x) r u in inl (sym i.0, i.1))
      | inr u ↦ inr (read_has xs r u)
    ]

has_read : (s : ℕ) (b : Bytes) (xs : List Section) → Has every s b xs → (r : Placed) × Memᴰ r (reading xs) × (r.section ≡ s) × (r.bytes ≡ b)
unfolding reading all_of
has_read s b [] i = absurd i
has_read s b (x ∷ xs) (inl u) =
    let i = has_numbered x.number 0 (every x) b u.1 in
    (i.0, Memᴰ.append_left (reading xs) i.1, i.2 ∙ u.0, i.3)
has_read s b (x ∷ xs) (inr u) =
    let i = has_read s b xs u in
    (i.0, Memᴰ.append_right (numbered x.number 0 (every x)) i.1, i.2, i.3)

pub reading_in : (v : Log) (r : Placed) → Memᴰ r (reading v.sections) → In r.section r.bytes v
reading_in v r m = read_has v.sections r m

pub in_reading : (s : ℕ) (b : Bytes) (v : Log) → In s b v → (r : Placed) × Memᴰ r (reading v.sections) × (r.section ≡ s) × (r.bytes ≡ b)
in_reading s b v i = has_read s b v.sections i

pub none_in : (s : ℕ) (b : Bytes) → In s b empty → ⊥
unfolding empty
none_in s b i = i
