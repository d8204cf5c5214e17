-- One tip that rises or falls, and the tables after it. Assumes nothing.
use Rattle.std.proofs.Common.{◌≡◌, ℕ, ◌+◌, ◌<◌, ◌≤◌, min, max, Bool, true, false, cond, ◌||◌, [], ◌∷◌, is_some, Some, None, sym, refl, ap, arith}
use Rattle.std.specs.List.{AllByRecursion as All}
use Rattle.std.proofs.lemmas.Bool.{lt-ltb, le-ltb}
use Rattle.table.specs.declared.Entry.{Entry}
use Rattle.table.specs.Keys.{shorter}
use Rattle.table.specs.Rows.{at, Sorted}
use Rattle.types.specs.Numbers.{Height}
use Rattle.tips.specs.declared.safe_tip.SafeTip.{SafeTip}
use Rattle.tips.specs.Counting.{Rows, weigh, total, shifted, least, greatest, tidy, Topmost}
use Rattle.tips.specs.Tips.{lowest, highest, counts}
use Rattle.tips.proofs.Weights.{All-weaker}
use Rattle.tips.proofs.Tidy.{Counted, counted}
use Rattle.tips.proofs.Shifts.{some_of, all-at, weigh-shifted, total-shifted}
use Rattle.tips.proofs.Marks.{Marked, marked, topmost, above-all, in_hi, in_lo, in_both}

-- the least height is there, and below the others
first_there : (m : Height) (es : Rows) → least es ≡ Some m → is_some (at shorter m es) ≡ true
first_there m [] is = absurd (let z : ◌≡◌ {A = ℕ} 0 1 = cc in omega arith)
first_there m (e ∷ es) is =
    let k : e.key ≡ m = cc in
    let n : e.key.0 ≡ m.0 = ap (λ (h : Height). h.0) k in
    let y : shorter e.key m ≡ false = le-ltb e.key.0 m.0 (omega (arith, n)) in
    let z : shorter m e.key ≡ false = le-ltb m.0 e.key.0 (omega (arith, n)) in
    rw (y, z) refl

floor : (m : Height) (es : Rows) → Sorted shorter es → least es ≡ Some m → All (λ e. m.0 ≤ e.key.0) es
floor m [] s is = tt
floor m (e ∷ es) s is =
    let k : e.key ≡ m = cc in
    let n : e.key.0 ≡ m.0 = ap (λ (h : Height). h.0) k in
    (omega (arith, n), All-weaker (λ f. e.key.0 < f.key.0) (λ f. m.0 ≤ f.key.0) (λ f l. omega (arith, n)) es (above-all e.key es s.0))

-- the greatest height is there, and above the others
pub record Last (m : Height) (es : Rows) : Type 0 where
  pub there : is_some (at shorter m es) ≡ true
  pub roof : All (λ e. e.key.0 ≤ m.0) es

pub last_is : (m : Height) (es : Rows) → Sorted shorter es → greatest es ≡ Some m → Last m es
last_is m [] s is = absurd (let z : ◌≡◌ {A = ℕ} 0 1 = cc in omega arith)
last_is m (e ∷ []) s is =
    let k : e.key ≡ m = cc in
    let n : e.key.0 ≡ m.0 = ap (λ (h : Height). h.0) k in
    let y : shorter e.key m ≡ false = le-ltb e.key.0 m.0 (omega (arith, n)) in
    let z : shorter m e.key ≡ false = le-ltb m.0 e.key.0 (omega (arith, n)) in
    record { there = rw (y, z) refl; roof = (omega (arith, n), tt) }
last_is m (e ∷ d ∷ es) s is =
    let rest = last_is m (d ∷ es) s.1 is in
    let f = some_of (at shorter m (d ∷ es)) rest.there in
    let up = all-at (λ x. e.key.0 < x) m (d ∷ es) f.0 f.1 (above-all e.key (d ∷ es) s.0) in
    let y : shorter e.key m ≡ true = lt-ltb e.key.0 m.0 up in
    record { there = rw y rest.there; roof = (omega (arith, up), rest.roof) }

-- no height is below new, as the least is not, or there is none
pub above-least : (new m : Height) (es : Rows) → tidy es ≡ true → Some m ≡ least es → new.0 ≤ m.0 → All (λ e. new.0 ≤ e.key.0) es
above-least new m es t is up = All-weaker (λ e. m.0 ≤ e.key.0) (λ e. new.0 ≤ e.key.0) (λ e k. omega (arith, up)) es (floor m es (counted es t).sorted (sym is))

pub above_none : (new : Height) (es : Rows) → least es ≡ None → All (λ e. new.0 ≤ e.key.0) es
above_none new [] is = tt
above_none new (e ∷ es) is = absurd (let z : ◌≡◌ {A = ℕ} 0 1 = cc in omega arith)

-- no height is above new, as the greatest is not, or there is none
pub below_last : (new m : Height) (es : Rows) → tidy es ≡ true → Some m ≡ greatest es → m.0 ≤ new.0 → All (λ e. e.key.0 ≤ new.0) es
below_last new m es t is down = All-weaker (λ e. e.key.0 ≤ m.0) (λ e. e.key.0 ≤ new.0) (λ e k. omega (arith, down)) es (last_is m es (counted es t).sorted (sym is)).roof

pub below_none : (new : Height) (es : Rows) → greatest es ≡ None → All (λ e. e.key.0 ≤ new.0) es
below_none new [] is = tt
below_none new (e ∷ []) is = absurd (let z : ◌≡◌ {A = ℕ} 0 1 = cc in omega arith)
below_none new (e ∷ d ∷ es) is = absurd (never es d is)
  where
    never : (fs : Rows) (f : Entry Height ℕ) → greatest (f ∷ fs) ≡ None → ⊥
    never [] f j = let z : ◌≡◌ {A = ℕ} 0 1 = cc in omega arith
    never (g ∷ fs) f j = never fs g j

-- a tip that is counted, and not in the one table, is in the other
in_second : (x y : Bool) → (x || y) ≡ true → false ≡ x → y ≡ true
in_second true y h n = absurd (let z : ◌≡◌ {A = ℕ} 0 1 = cc in omega arith)
in_second false y h n = h

module _ (s : SafeTip) (old new : Height) where
  -- what two tables that one tip has changed keep, and how they count
  pub record Step (lo' hi' : Rows) : Type 0 where
    pub few : total lo' + total hi' ≤ 16
    pub top : Topmost lo' hi'
    pub moved : (p : ℕ → Bool) → (weigh p lo' + weigh p hi') + cond (p old.0) 1 0 ≡ (weigh p (lowest s) + weigh p (highest s)) + cond (p new.0) 1 0

  kl : Counted (lowest s)
  kl = counted (lowest s) s.lo.counted

  kh : Counted (highest s)
  kh = counted (highest s) s.hi.counted

  m : Marked (lowest s) (highest s)
  m = marked (lowest s) (highest s) kl kh s.top

  -- the tip stays in hi, as no tip in lo is above new
  pub stays_hi : true ≡ is_some (at shorter old (highest s)) → All (λ e. e.key.0 ≤ new.0) (lowest s) → (hi' : Rows) → hi' ≡ shifted old new (highest s) → Step (lowest s) hi'
  stays_hi there us hi' is = rw is (record {
    few = omega (arith, s.few, total-shifted old new (highest s) kh (sym there));
    top =
        topmost (lowest s) (shifted old new (highest s)) (in_hi (lowest s) (highest s) kl kh m (min m.mark new.0) old new (sym there)
        (both (lowest s) m.under us)
        (All-weaker (λ e. m.mark ≤ e.key.0) (λ e. min m.mark new.0 ≤ e.key.0) (λ e k. omega arith) (highest s) m.over)
        (omega arith));
    moved = λ p. omega (arith, weigh-shifted old new (highest s) kh (sym there) p);
  })
    where
      both : (es : Rows) → All (λ e. e.key.0 ≤ m.mark) es → All (λ e. e.key.0 ≤ new.0) es → All (λ e. e.key.0 ≤ min m.mark new.0) es
      both [] x y = tt
      both (e ∷ es) x y = (omega (arith, x.0, y.0), both es x.1 y.1)

  -- the tip goes from hi to lo, past the greatest of lo
  pub falls : true ≡ is_some (at shorter old (highest s)) → (a : Height) → Some a ≡ greatest (lowest s) → new.0 < a.0 → (lo' hi' : Rows) → lo' ≡ shifted a new (lowest s) → hi' ≡ shifted old a (highest s) → Step lo' hi'
  falls there a is down lo' hi' isl ish =
      let l = last_is a (lowest s) kl.sorted (sym is) in
      let f = some_of (at shorter a (lowest s)) l.there in
      let u = all-at (λ x. x ≤ m.mark) a (lowest s) f.0 f.1 m.under in
      rw (isl, ish) (record {
        few = omega (arith, s.few, total-shifted a new (lowest s) kl l.there, total-shifted old a (highest s) kh (sym there));
        top =
            topmost (shifted a new (lowest s)) (shifted old a (highest s)) (in_both (lowest s) (highest s) kl kh m a.0 a new old a l.there (sym there) l.roof
            (All-weaker (λ e. m.mark ≤ e.key.0) (λ e. a.0 ≤ e.key.0) (λ e k. omega (arith, u)) (highest s) m.over)
            (omega arith) (omega arith));
        moved = λ p. omega (arith, weigh-shifted a new (lowest s) kl l.there p, weigh-shifted old a (highest s) kh (sym there) p);
      })

  module _ (has : counts s old ≡ true) (not_hi : false ≡ is_some (at shorter old (highest s))) where
    there : is_some (at shorter old (lowest s)) ≡ true
    there = in_second _ _ has not_hi

    -- the tip stays in lo, as no tip in hi is below new
    pub stays_lo : All (λ e. new.0 ≤ e.key.0) (highest s) → (lo' : Rows) → lo' ≡ shifted old new (lowest s) → Step lo' (highest s)
    stays_lo os lo' is = rw is (record {
      few = omega (arith, s.few, total-shifted old new (lowest s) kl there);
      top =
          topmost (shifted old new (lowest s)) (highest s) (in_lo (lowest s) (highest s) kl kh m (max m.mark new.0) old new there
          (All-weaker (λ e. e.key.0 ≤ m.mark) (λ e. e.key.0 ≤ max m.mark new.0) (λ e k. omega arith) (lowest s) m.under)
          (both (highest s) m.over os)
          (omega arith));
      moved = λ p. omega (arith, weigh-shifted old new (lowest s) kl there p);
    })
      where
        both : (es : Rows) → All (λ e. m.mark ≤ e.key.0) es → All (λ e. new.0 ≤ e.key.0) es → All (λ e. max m.mark new.0 ≤ e.key.0) es
        both [] x y = tt
        both (e ∷ es) x y = (omega (arith, x.0, y.0), both es x.1 y.1)

    -- the tip goes from lo to hi, past the least of hi
    pub rises : (a : Height) → Some a ≡ least (highest s) → a.0 < new.0 → (lo' hi' : Rows) → lo' ≡ shifted old a (lowest s) → hi' ≡ shifted a new (highest s) → Step lo' hi'
    rises a is up lo' hi' isl ish =
        let here = first_there a (highest s) (sym is) in
        let f = some_of (at shorter a (highest s)) here in
        let o = all-at (λ x. m.mark ≤ x) a (highest s) f.0 f.1 m.over in
        rw (isl, ish) (record {
          few = omega (arith, s.few, total-shifted old a (lowest s) kl there, total-shifted a new (highest s) kh here);
          top =
              topmost (shifted old a (lowest s)) (shifted a new (highest s)) (in_both (lowest s) (highest s) kl kh m a.0 old a a new there here
              (All-weaker (λ e. e.key.0 ≤ m.mark) (λ e. e.key.0 ≤ a.0) (λ e k. omega (arith, o)) (lowest s) m.under)
              (floor a (highest s) kh.sorted (sym is))
              (omega arith) (omega arith));
          moved = λ p. omega (arith, weigh-shifted old a (lowest s) kl there p, weigh-shifted a new (highest s) kh here p);
        })
