-- Logs with nothing loose, as a medium has them whose stores are durable at once. Assumes nothing.
use Rattle.std.proofs.Common.{◌≡◌, ℕ, ◌-◌, ◌<◌, cond, eqb, ltb, List, [], ◌∷◌, ◌++◌, map, length, take, drop, sym, refl, ap, ◌∙◌, inl, append_assoc, append-nil, arith, length-append, take-append-drop, length-take}
use Rattle.std.proofs.lemmas.Bool.{cond_both}
use Rattle.journal.specs.Log.{Bytes, Section, Log, all_of, firm, firm_to, added, appended, synced, all_synced, synced_to, All, Sound, Formed, FirmerSection, AllFirmer, Firmer}
use Rattle.journal.specs.Cuts.{Left, kept, AllLeft, Cut}
use Rattle.journal.proofs.Firm.{section_refl}

-- nothing is loose
abbrev pub Solid : List Section → Type 0
Solid xs = All (λ x. x.loose ≡ []) xs

-- a log without its bound, as a cut leaves it
abbrev pub unbound : Log → Log
unbound v = record { bound = 0; sections = v.sections }

pub section-firm : (x : Section) → FirmerSection x (firm x)
unfolding firm all_of
section-firm x = record { number = refl; same = append-nil (x.durable ++ x.loose); longer = omega (arith, length-append x.durable x.loose) }

all-firm : (xs : List Section) → AllFirmer xs (map firm xs)
unfolding AllFirmer
all-firm [] = tt
all-firm (x ∷ xs) = (section-firm x, all-firm xs)

-- to make all durable is to make firmer
pub firmer_firm : (v : Log) → Firmer v (all_synced v)
unfolding all_synced
firmer_firm v = record { bound = refl; sections = all-firm v.sections }

-- where nothing is loose, a section is as firm as it can be
solid_firm : (x : Section) → x.loose ≡ [] → FirmerSection (firm x) x
unfolding firm all_of
solid_firm x e =
    record {
      number = refl;
      same = sym (append-nil (x.durable ++ x.loose));
      longer = omega (arith, length-append x.durable x.loose, ap length e);
    }

solid_firm_to : (n : ℕ) (x : Section) → x.loose ≡ [] → FirmerSection (firm_to n x) x
unfolding firm_to all_of
solid_firm_to n x e =
    record {
      number = refl;
      same = sym (append_assoc x.durable (take (n - length x.durable) x.loose) (drop (n - length x.durable) x.loose) ∙ ap (λ (l : List Bytes). x.durable ++ l) (take-append-drop (n - length x.durable) x.loose));
      longer = omega (arith, length-append x.durable (take (n - length x.durable) x.loose), length-take (n - length x.durable) x.loose, ap length e);
    }

solid_map : (t : Section → Section) → ((x : Section) → x.loose ≡ [] → FirmerSection (t x) x) → (xs : List Section) → Solid xs → AllFirmer (map t xs) xs
unfolding AllFirmer All
solid_map t h [] p = tt
solid_map t h (x ∷ xs) (p, ps) = (h x p, solid_map t h xs ps)

pub solid_synced : (s : ℕ) (v : Log) → Solid v.sections → Firmer (synced s v) v
unfolding synced
solid_synced s v p =
    record {
      bound = refl;
      sections = solid_map (λ x. cond (eqb s x.number) (firm x) x) (λ x e. cond_both (eqb s x.number) (firm x) x (λ y. FirmerSection y x) (λ _. solid_firm x e) (λ _. section_refl x)) v.sections p;
    }

pub solid_all-synced : (v : Log) → Solid v.sections → Firmer (all_synced v) v
unfolding all_synced
solid_all-synced v p = record { bound = refl; sections = solid_map firm solid_firm v.sections p }

pub solid_synced_to : (s n : ℕ) (v : Log) → Solid v.sections → Firmer (synced_to s n v) v
unfolding synced_to
solid_synced_to s n v p =
    record {
      bound = refl;
      sections =
          solid_map (λ x. cond (ltb x.number s) (firm x) (cond (eqb s x.number) (firm_to n x) x))
          (λ x e. cond_both (ltb x.number s) (firm x) _ (λ y. FirmerSection y x) (λ _. solid_firm x e)
          (λ _. cond_both (eqb s x.number) (firm_to n x) x (λ y. FirmerSection y x) (λ _. solid_firm_to n x e) (λ _. section_refl x)))
          v.sections p;
    }

-- a section of durable records is left as it is
pub kept_whole : (x : Section) → x.loose ≡ [] → 0 < length (all_of x) → (rest : List Section) → x ∷ rest ≡ kept x.number x.durable rest
unfolding kept all_of
kept_whole x e h rest = go x.durable refl
  where
    go : (d : List Bytes) → x.durable ≡ d → x ∷ rest ≡ kept x.number d rest
    go [] q = absurd (omega (arith, length-append x.durable x.loose, ap length q, ap length e, h))
    go (b ∷ bs) q = ap (λ (y : Section). y ∷ rest) (λ i. record { number = x.number; durable = q i; loose = e i })

left-whole : (below : ℕ) (x : Section) → Left below x x.durable
unfolding Left
left-whole below x = inl (0, sym (append-nil x.durable))

pub solid_left : (below : ℕ) (xs : List Section) → Solid xs → All Sound xs → AllLeft below xs xs
unfolding AllLeft All
solid_left below [] p q = refl
solid_left below (x ∷ xs) (e, p) (g, q) = (x.durable, left-whole below x, (xs, solid_left below xs p q, kept_whole x e g.some xs))

-- a cut where nothing is loose takes nothing but the bound
pub solid_cut : (below : ℕ) (v : Log) → Solid v.sections → Formed v → Cut below v (unbound v)
solid_cut below v p f = record { bound = refl; sections = solid_left below v.sections p f.sound }

-- a record that was to be added, and was not
added-left : (below s : ℕ) (b : Bytes) (xs : List Section) → Solid xs → All Sound xs → AllLeft below (added s b xs) xs
unfolding AllLeft All added Left kept
added-left below s b [] p q = ([], inl (0, refl), ([], refl, refl))
added-left below s b (x ∷ xs) (e, p) (g, q) =
    cond_both (ltb s x.number) _ _ (λ l. AllLeft below l (x ∷ xs))
    (λ _. ([], inl (0, refl), (x ∷ xs, solid_left below (x ∷ xs) (e, p) (g, q), refl)))
    (λ _. cond_both (eqb s x.number) _ _ (λ l. AllLeft below l (x ∷ xs))
    (λ _. (x.durable, inl (0, sym (append-nil x.durable)), (xs, solid_left below xs p q, kept_whole x e g.some xs)))
    (λ _. (x.durable, left-whole below x, (xs, added-left below s b xs p q, kept_whole x e g.some xs))))

pub lost_cut : (below s : ℕ) (b : Bytes) (v : Log) → Solid v.sections → Formed v → Cut below (appended s b v) (unbound v)
unfolding appended
lost_cut below s b v p f = record { bound = refl; sections = added-left below s b v.sections p f.sound }
