-- A table of counts stays tidy: its heights ascend, each counted at least once. Assumes nothing.
use Rattle.std.proofs.Common.{◌≡◌, ℕ, ◌-◌, ◌<◌, Bool, true, false, cond, ◌&&◌, ltb, [], ◌∷◌, Some, None, Option, refl, ap, arith}
use Rattle.std.specs.List.{AllByRecursion as All}
use Rattle.std.proofs.lemmas.Bool.{and_parts, and_from, ltb-true, lt-ltb}
use Rattle.std.proofs.lemmas.Bool.Decides.{nat_tests}
use Rattle.table.specs.Keys.{shorter}
use Rattle.table.specs.Order.{Total}
use Rattle.table.specs.Rows.{at, put, without, Sorted, Above}
use Rattle.table.proofs.Keeping.{all-put, all_without, sorted_put, sorted_without}
use Rattle.types.specs.Numbers.{Height, number}
use Rattle.tips.specs.Counting.{Rows, more, fewer, under, tidy}

-- the order of heights is total
pub heights : Total shorter
heights = record {
  never = λ x. grind (arith, nat_tests);
  trans = λ x y z p q. grind (arith, nat_tests);
  tied = λ x y p q. let e : x.0 ≡ y.0 = grind (arith, nat_tests) in ap (λ n. number n) e;
}

pub record Counted (es : Rows) : Type 0 where
  pub sorted : Sorted shorter es
  pub some : All (λ e. 0 < e.value) es

above-under : (h : Height) (es : Rows) → under h es ≡ true → Above shorter h es
above-under h [] t = tt
above-under h (e ∷ es) t = let b = and_parts (shorter h e.key) (under h es) t in (b.0, above-under h es b.1)

under-above : (h : Height) (es : Rows) → Above shorter h es → under h es ≡ true
under-above h [] a = refl
under-above h (e ∷ es) a = and_from (shorter h e.key) (under h es) a.0 (under-above h es a.1)

pub counted : (es : Rows) → tidy es ≡ true → Counted es
counted [] t = record { sorted = tt; some = tt }
counted (e ∷ es) t =
    let a = and_parts (ltb 0 e.value) (under e.key es && tidy es) t in
    let b = and_parts (under e.key es) (tidy es) a.1 in
    let rest = counted es b.1 in
    record { sorted = (above-under e.key es b.0, rest.sorted); some = (ltb-true 0 e.value a.0, rest.some) }

pub tidied : (es : Rows) → Counted es → tidy es ≡ true
tidied [] k = refl
tidied (e ∷ es) k =
    and_from (ltb 0 e.value) (under e.key es && tidy es) (lt-ltb 0 e.value k.some.0)
    (and_from (under e.key es) (tidy es) (under-above e.key es k.sorted.0) (tidied es (record { sorted = k.sorted.1; some = k.some.1 })))

-- one tip more, one tip fewer
pub counted-more : (h : Height) (es : Rows) → Counted es → Counted (more h es)
counted-more h es k = record { sorted = sorted_put heights h _ es k.sorted; some = all-put shorter (λ e. 0 < e.value) h _ es (omega arith) k.some }

pub counted-fewer : (h : Height) (es : Rows) → Counted es → Counted (fewer h es)
counted-fewer h es k = go (at shorter h es) refl
  where
    cut : (c : ℕ) (b : Bool) → ltb 1 c ≡ b → Counted (cond b (put shorter h (c - 1) es) (without shorter h es))
    cut c true x = let d : 0 < c - 1 = grind (arith, nat_tests) in record { sorted = sorted_put heights h _ es k.sorted; some = all-put shorter (λ e. 0 < e.value) h _ es d k.some }
    cut c false x = record { sorted = sorted_without heights h es k.sorted; some = all_without shorter (λ e. 0 < e.value) h es k.some }

    go : (o : Option ℕ) → at shorter h es ≡ o → Counted (fewer h es)
    go None is = rw is k
    go (Some c) is = rw is (cut c (ltb 1 c) refl)

pub tidy-more : (h : Height) (es : Rows) → tidy es ≡ true → tidy (more h es) ≡ true
tidy-more h es t = tidied (more h es) (counted-more h es (counted es t))

pub tidy-fewer : (h : Height) (es : Rows) → tidy es ≡ true → tidy (fewer h es) ≡ true
tidy-fewer h es t = tidied (fewer h es) (counted-fewer h es (counted es t))
