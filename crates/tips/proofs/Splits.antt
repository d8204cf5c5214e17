-- From the tables to the tips: the tables of a SafeTip split the tips that they count, and the greatest of lo is the safe tip. Assumes nothing.
use Rattle.std.proofs.Common.{◌≡◌, ℕ, ◌+◌, ◌<◌, ◌≤◌, min, Bool, true, false, cond, ◌||◌, eqb, ltb, leb, List, [], ◌∷◌, length, is_some, Some, None, count_by, sym, refl, ap, ◌∙◌, arith}
use Rattle.std.proofs.lemmas.List.Sums.{sum_by-cons}
use Rattle.std.proofs.lemmas.Bool.{le-ltb, le-leb, ne_eqb}
use Rattle.std.proofs.lemmas.Bool.Decides.{nat_tests}
use Rattle.table.specs.declared.Entry.{Entry}
use Rattle.table.specs.Keys.{shorter}
use Rattle.table.specs.Rows.{at, Sorted}
use Rattle.types.specs.Numbers.{Height}
use Rattle.tips.specs.Counting.{Rows, weigh, total, greatest, tidy, Topmost}
use Rattle.tips.specs.Faults.{faults}
use Rattle.tips.specs.Ranks.{Safe, Split}
use Rattle.tips.proofs.Weights.{All-weaker, weigh_none, weigh-le, at_some}
use Rattle.tips.proofs.Tidy.{counted}
use Rattle.tips.proofs.Shifts.{some_of}
use Rattle.tips.proofs.Marks.{all_zero, above-all}
use Rattle.tips.proofs.Moves.{last_is}

count-all : (xs : List ℕ) → count_by (λ _. true) xs ≡ length xs
count-all [] = refl
count-all (x ∷ xs) = sum_by-cons (λ _. 1) x xs ∙ omega (arith, count-all xs)

-- tables that count the tips split them
pub split : (tips : List ℕ) (lo hi : Rows) → Topmost lo hi → ((p : ℕ → Bool) → count_by p tips ≡ weigh p lo + weigh p hi) → Split tips lo hi
split tips lo hi t all = record {
  all = all;
  top = λ h.
      let n : length tips ≡ total lo + total hi = sym (count-all tips) ∙ all (λ _. true) in
      t h ∙ ap (λ m. min (faults m) (weigh (λ x. leb h x) lo + weigh (λ x. leb h x) hi)) (sym n) ∙ ap (λ m. min (faults (length tips)) m) (sym (all (λ x. leb h x)));
}

-- a height that is there weighs something
weighs : (h : Height) (es : Rows) (c : ℕ) → at shorter h es ≡ Some c → (q : ℕ → Bool) → q h.0 ≡ true → c ≤ weigh q es
weighs h [] c is q so = absurd (let z : ◌≡◌ {A = ℕ} 0 1 = cc in omega arith)
weighs h (e ∷ es) c is q so = go (shorter e.key h) refl (shorter h e.key) refl is (λ j. weighs h es c j q so)
  where
    go : (a : Bool) → shorter e.key h ≡ a → (b : Bool) → shorter h e.key ≡ b → cond a (at shorter h es) (cond b None (Some e.value)) ≡ Some c → (at shorter h es ≡ Some c → c ≤ weigh q es) → c ≤ cond (q e.key.0) e.value 0 + weigh q es
    go true x b y is' rest = omega (arith, rest is')
    go false x true y is' rest = absurd (let z : ◌≡◌ {A = ℕ} 0 1 = cc in omega arith)
    go false x false y is' rest =
        let k : e.key.0 ≡ h.0 = grind (arith, nat_tests) in
        let w : e.value ≡ c = cc in
        let v : ◌≡◌ {A = ℕ} (cond (q e.key.0) e.value 0) e.value = ap (λ (b : Bool). cond {A = ℕ} b e.value 0) (ap q k ∙ so) in
        omega (arith, v, w)

-- the greatest of lo is the safe tip
pub safe : (lo hi : Rows) (tips : List ℕ) (t : Height) → tidy lo ≡ true → greatest lo ≡ Some t → Split tips lo hi → Safe tips t.0
safe lo hi tips t tl is s =
    let k = counted lo tl in
    let l = last_is t lo k.sorted is in
    let f = some_of (at shorter t lo) l.there in
    let pos = at_some t lo f.0 k.some f.1 in
    let here = weighs t lo f.0 f.1 (λ x. leb t.0 x) (le-leb t.0 t.0 (omega arith)) in
    let none = weigh_none (λ x. ltb t.0 x) lo (All-weaker (λ e. e.key.0 ≤ t.0) (λ e. ltb t.0 e.key.0 ≡ false) (λ e j. le-ltb t.0 e.key.0 j) lo l.roof) in
    record {
      enough = omega (arith, s.all (λ x. leb t.0 x), s.top t.0, here, pos);
      few = omega (arith, s.all (λ x. ltb t.0 x), none, weigh-le (λ x. ltb t.0 x) hi, s.top 0, all_zero hi);
    }

pub some-counted : (lo hi : Rows) (t : Height) → tidy lo ≡ true → greatest lo ≡ Some t → 0 < total lo + total hi
some-counted lo hi t tl is =
    let k = counted lo tl in
    let f = some_of (at shorter t lo) (last_is t lo k.sorted is).there in
    omega (arith, at_some t lo f.0 k.some f.1, weighs t lo f.0 f.1 (λ _. true) refl)

pub none_counted : (lo hi : Rows) → Topmost lo hi → greatest lo ≡ None → total lo + total hi ≡ 0
none_counted [] hi t is = omega (arith, t 0, all_zero hi)
none_counted (e ∷ []) hi t is = absurd (let z : ◌≡◌ {A = ℕ} 0 1 = cc in omega arith)
none_counted (e ∷ d ∷ es) hi t is = absurd (never es d is)
  where
    never : (fs : Rows) (f : Entry Height ℕ) → greatest (f ∷ fs) ≡ None → ⊥
    never [] f j = let z : ◌≡◌ {A = ℕ} 0 1 = cc in omega arith
    never (g ∷ fs) f j = never fs g j

-- a height that is in no row weighs nothing
absent : (h : Height) (es : Rows) → Sorted shorter es → is_some (at shorter h es) ≡ false → weigh (λ x. eqb h.0 x) es ≡ 0
absent h [] s is = refl
absent h (e ∷ es) s is = go (shorter e.key h) refl (shorter h e.key) refl is (absent h es s.1)
  where
    go : (a : Bool) → shorter e.key h ≡ a → (b : Bool) → shorter h e.key ≡ b → is_some (cond a (at shorter h es) (cond b None (Some e.value))) ≡ false → (is_some (at shorter h es) ≡ false → weigh (λ x. eqb h.0 x) es ≡ 0) → weigh (λ x. eqb h.0 x) (e ∷ es) ≡ 0
    go true x b y is' rest = let d : eqb h.0 e.key.0 ≡ false = grind (arith, nat_tests) in rw d (omega (arith, rest is'))
    go false x true y is' rest =
        let d : eqb h.0 e.key.0 ≡ false = grind (arith, nat_tests) in
        let l : h.0 < e.key.0 = grind (arith, nat_tests) in
        let w = weigh_none (λ x. eqb h.0 x) es (All-weaker (λ f. e.key.0 < f.key.0) (λ f. eqb h.0 f.key.0 ≡ false) (λ f k. ne_eqb h.0 f.key.0 (λ z. omega arith)) es (above-all e.key es s.0)) in
        rw d (omega (arith, w))
    go false x false y is' rest = absurd (let z : ◌≡◌ {A = ℕ} 0 1 = cc in omega arith)

-- and so one that weighs something is counted
pub weighed : (h : Height) (lo hi : Rows) → tidy lo ≡ true → tidy hi ≡ true → 0 < weigh (λ x. eqb h.0 x) lo + weigh (λ x. eqb h.0 x) hi → (is_some (at shorter h hi) || is_some (at shorter h lo)) ≡ true
weighed h lo hi tl th w = go (is_some (at shorter h hi)) refl (is_some (at shorter h lo)) refl
  where
    go : (a : Bool) → is_some (at shorter h hi) ≡ a → (b : Bool) → is_some (at shorter h lo) ≡ b → (a || b) ≡ true
    go true x b y = refl
    go false x true y = refl
    go false x false y = absurd (omega (arith, absent h lo (counted lo tl).sorted y, absent h hi (counted hi th).sorted x))
