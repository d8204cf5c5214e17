-- What appending does to the areas of a medium. Assumes nothing.
use Rattle.std.proofs.Common.{◌≡◌, ℕ, ◌+◌, ◌<◌, ◌≤◌, true, false, not, ◌&&◌, eqb, leb, List, [], ◌∷◌, ◌++◌, length, get_or, MatchOption, take, drop, set, is_some, Some, None, Ok, Err, Option, Result, sym, refl, ap, ◌∙◌, subst, inl, inr, add-one, arith}
use Rattle.std.proofs.lemmas.List.{drop_more, take-append-drop, set_split, set-get_or, set-set, length-set}
use Rattle.std.proofs.lemmas.Bool.{and_parts, and_from, and_left, and_right, not-true, true≢false, false≢true, le-leb, lt-leb, lt-ltb}
use Rattle.journal.specs.declared.stops.Stop.{Stop}
use Rattle.journal.specs.declared.stops.Stop.TheVariants.{Full, Pruned, Off}
use Rattle.area.specs.Area.{Area, read, area_of, fits, started, pushed, extent}
use Rattle.power.specs.Power.{Took}
use Rattle.area.specs.Writes.{Appended, Started, room_in as Holds, vacant}
use Rattle.area.proofs.Marks.{read_is, free_mark}
use Rattle.power.proofs.Power.{took_both, took-first, took-second}
use Rattle.areas.specs.Plan.{area_at, plan, areas_of, First, spared, room_in, room}
use Rattle.areas_writing.specs.Steps.{Swapped, cost_in, cost, takes, Adding}
use Rattle.areas.proofs.Parts.{get_d_plan, length-area}

fits-short : (m n : ℕ) (a : Area) → fits m a n ≡ true → leb n 1068 ≡ true
unfolding fits
fits-short m n a h = (and_parts (leb n 1068) _ (and_parts (not (is_some a.defect)) _ h).1).0

none_of : {X : Type 0} (o : Option X) → is_some o ≡ false → o ≡ None
none_of None h = refl
none_of (Some x) h = absurd (true≢false h)

fits-sound : (m n : ℕ) (a : Area) → fits m a n ≡ true → a.defect ≡ None
unfolding fits
fits-sound m n a h = none_of a.defect (not-true _ (and_parts (not (is_some a.defect)) _ h).0)

-- one area in the place of another
swapped : (i : ℕ) (was new : Option Area) (os ns : List (Option Area)) → i < length os → get_or os i None ≡ was → ns ≡ set os i new → Swapped was new os ns
swapped i was new os ns h w e =
    let d : drop i os ≡ was ∷ drop (i + 1) os = drop_more os i None h ∙ ap (λ o. o ∷ drop (i + 1) os) w in
    record {
      before = take i os;
      behind = drop (i + 1) os;
      stood = sym (take-append-drop i os) ∙ ap (λ xs. take i os ++ xs) d;
      stands = e ∙ set_split os i new h ∙ ap (λ k. take i os ++ new ∷ drop k os) (sym (add-one i));
    }

takes_sole : (os : List (Option Area)) (s n : ℕ) (a : Area) → areas_of s os ≡ a ∷ [] → takes os s n ≡ (leb n 1068 && fits 4096 a n)
unfolding takes room room_in
takes_sole os s n a e = ap (λ xs. leb n 1068 && room_in xs (spared os) n) e

takes-second : (os : List (Option Area)) (s n : ℕ) (a b : Area) (more : List Area) → areas_of s os ≡ a ∷ b ∷ more → takes os s n ≡ false
unfolding takes room room_in
takes-second os s n a b more e = ap (λ xs. leb n 1068 && room_in xs (spared os) n) e ∙ and_right (leb n 1068) false refl

-- a second area was looked for
pub takes_again : (os : List (Option Area)) (s n i : ℕ) (o : Option ℕ) → First s 0 i os → MatchOption o (areas_of s (drop (i + 1) os) ≡ []) (λ j. First s (i + 1) j os) → is_some o ≡ true → takes os s n ≡ false
takes_again os s n i None f m h = absurd (false≢true h)
takes_again os s n i (Some j) f m h = takes-second os s n f.area m.area _ (f.first ∙ ap (λ xs. f.area ∷ xs) m.first)

pub none_again : (os : List (Option Area)) (s i : ℕ) (o : Option ℕ) → MatchOption o (areas_of s (drop (i + 1) os) ≡ []) (λ j. First s (i + 1) j os) → is_some o ≡ false → areas_of s (drop (i + 1) os) ≡ []
none_again os s i None m h = m
none_again os s i (Some j) m h = absurd (true≢false h)

takes-free : (os : List (Option Area)) (s n : ℕ) → areas_of s os ≡ [] → takes os s n ≡ (leb n 1068 && spared os)
unfolding takes room room_in
takes-free os s n e = ap (λ xs. leb n 1068 && room_in xs (spared os) n) e

pub takes_long : (os : List (Option Area)) (s n : ℕ) → 1068 < n → takes os s n ≡ false
unfolding takes
takes_long os s n h = and_left (leb n 1068) _ (lt-leb n 1068 h)

pub takes_none : (os : List (Option Area)) (s n : ℕ) → areas_of s os ≡ [] → spared os ≡ false → takes os s n ≡ false
takes_none os s n e f = takes-free os s n e ∙ and_right (leb n 1068) (spared os) f

takes_spare : (os : List (Option Area)) (s n : ℕ) → areas_of s os ≡ [] → n ≤ 1068 → spared os ≡ true → takes os s n ≡ true
takes_spare os s n e h f = takes-free os s n e ∙ and_from (leb n 1068) (spared os) (le-leb n 1068 h) f

cost_sole : (os : List (Option Area)) (s n : ℕ) (a : Area) (more : List Area) → areas_of s os ≡ a ∷ more → n + 4 ≡ cost os s n
unfolding cost cost_in
cost_sole os s n a more e = sym (ap (λ xs. cost_in xs n) e)

cost-free : (os : List (Option Area)) (s n : ℕ) → areas_of s os ≡ [] → 10 + (n + 4) ≡ cost os s n
unfolding cost cost_in
cost-free os s n e = sym (ap (λ xs. cost_in xs n) e)

-- an area as it fits
holds_is : (bs : List ℕ) (i n : ℕ) (a : Area) → i < length (plan bs) → read (area_at i bs) ≡ Some a → Holds (area_at i bs) n ≡ fits 4096 a n
holds_is bs i n a h e = ap (λ m. fits m (area_of (area_at i bs)) n) (length-area bs i h) ∙ ap (λ x. fits 4096 x n) (read_is (area_at i bs) a e)

module _ (bs cs : List ℕ) (p q : Option ℕ) (s i : ℕ) (b : List ℕ) (f : First s 0 i (plan bs)) (one : areas_of s (drop (i + 1) (plan bs)) ≡ []) (others : plan cs ≡ set (plan bs) i (read (area_at i cs))) where
  sole : areas_of s (plan bs) ≡ f.area ∷ []
  sole = f.first ∙ ap (λ xs. f.area ∷ xs) one

  reads : read (area_at i bs) ≡ Some f.area
  reads = sym (get_d_plan bs i f.within) ∙ f.here

  fitting : Holds (area_at i bs) (length b) ≡ fits 4096 f.area (length b)
  fitting = holds_is bs i (length b) f.area f.within reads

  taken : Holds (area_at i bs) (length b) ≡ true → takes (plan bs) s (length b) ≡ true
  taken h =
      let g : fits 4096 f.area (length b) ≡ true = sym fitting ∙ h in
      takes_sole (plan bs) s (length b) f.area sole ∙ and_from (leb (length b) 1068) (fits 4096 f.area (length b)) (fits-short 4096 (length b) f.area g) g

  costs : length b + 4 ≡ cost (plan bs) s (length b)
  costs = cost_sole (plan bs) s (length b) f.area [] sole

  pub extended : (r : Result (Unit {0}) Stop) → Appended (area_at i bs) p b r (area_at i cs) q → (area_at i cs ≡ area_at i bs → cs ≡ bs) → Adding bs p s b r cs q
  extended (Ok x) w back =
      let g : fits 4096 f.area (length b) ≡ true = sym fitting ∙ w.0 in
      let new : read (area_at i cs) ≡ Some (pushed f.area b) = w.3 ∙ ap (λ a. Some (pushed a b)) (read_is (area_at i bs) f.area reads) in
      (taken w.0, inl (f.area, f.section, sole, fits-sound 4096 (length b) f.area g, swapped i (Some f.area) (Some (pushed f.area b)) (plan bs) (plan cs) f.within f.here (others ∙ ap (set (plan bs) i) new)), subst (λ k. Took k true p q) costs w.1)
  extended (Err Full) w back =
      (takes_sole (plan bs) s (length b) f.area sole ∙ and_right (leb (length b) 1068) _ (sym fitting ∙ w.0), back w.2, w.1)
  extended (Err Pruned) w back = w
  extended (Err Off) w back =
      let same : plan cs ≡ plan bs = others ∙ ap (set (plan bs) i) (w.3 ∙ sym (get_d_plan bs i f.within)) ∙ set-get_or (plan bs) i None in
      (taken w.0, inl same, subst (λ k. Took k false p q) costs w.1)

-- a fresh area has room for any record
fresh_fits : (s n : ℕ) → n ≤ 1068 → fits 4096 (started s) n ≡ true
unfolding fits started extent
fresh_fits s n h =
    let z : 9 + 0 + 3 + n < 4096 = omega arith in
    and_from (leb n 1068) _ (le-leb n 1068 h) (lt-ltb (9 + 0 + 3 + n) 4096 z)

-- a free area is vacant
free-vacant : (bs : List ℕ) (i : ℕ) → i < length (plan bs) → get_or (plan bs) i None ≡ None → vacant (area_at i bs) ≡ true
free-vacant bs i h e =
    and_from (eqb (get_or (area_at i bs) 0 0) 0) (leb 10 (length (area_at i bs))) (free_mark (area_at i bs) (sym (get_d_plan bs i h) ∙ e)) (le-leb 10 (length (area_at i bs)) (omega (arith, length-area bs i h)))

module _ (bs : List ℕ) (p : Option ℕ) (s i : ℕ) (b : List ℕ) (none : areas_of s (plan bs) ≡ []) (short : length b ≤ 1068) (spare : spared (plan bs) ≡ true) (within : i < length (plan bs)) (free : get_or (plan bs) i None ≡ None) where
  begun-takes : takes (plan bs) s (length b) ≡ true
  begun-takes = takes_spare (plan bs) s (length b) none short spare

  -- the power went before the area was in use
  pub unbegun : (ms : List ℕ) (m : Option ℕ) (e : Stop) → plan ms ≡ set (plan bs) i (read (area_at i ms)) → Started (area_at i bs) p s (Err e) (area_at i ms) m → Adding bs p s b (Err e) ms m
  unbegun ms m Full others w = absurd (false≢true (sym w.0 ∙ free-vacant bs i within free))
  unbegun ms m Pruned others w = w
  unbegun ms m Off others w =
      let same : plan ms ≡ plan bs = others ∙ ap (set (plan bs) i) (w.3 ∙ sym free) ∙ set-get_or (plan bs) i None in
      (begun-takes, inl same, took-first 10 (cost (plan bs) s (length b)) p m (omega (arith, cost-free (plan bs) s (length b) none)) w.1)

  -- the area is in use
  pub begun : (ms cs : List ℕ) (m q : Option ℕ) (r : Result (Unit {0}) Stop) → plan ms ≡ set (plan bs) i (read (area_at i ms)) → Started (area_at i bs) p s (Ok tt) (area_at i ms) m → plan cs ≡ set (plan ms) i (read (area_at i cs)) → Appended (area_at i ms) m b r (area_at i cs) q → Adding bs p s b r cs q
  begun ms cs m q (Ok x) o w others v =
      let new : read (area_at i cs) ≡ Some (pushed (started s) b) = v.3 ∙ ap (λ a. Some (pushed a b)) (read_is (area_at i ms) (started s) w.3) in
      let all : plan cs ≡ set (plan bs) i (Some (pushed (started s) b)) = others ∙ ap (set (plan ms) i) new ∙ ap (λ os. set os i (Some (pushed (started s) b))) o ∙ set-set (plan bs) i _ _ in
      (begun-takes, inr (none, swapped i None (Some (pushed (started s) b)) (plan bs) (plan cs) within free all), took_both 10 (length b + 4) _ p m q (sym (cost-free (plan bs) s (length b) none)) w.1 v.1)
  begun ms cs m q (Err Full) o w others v =
      let l : length (plan ms) ≡ length (plan bs) = ap length o ∙ length-set (plan bs) i _ in
      let g : i < length (plan ms) = omega arith in
      absurd (false≢true (sym v.0 ∙ holds_is ms i (length b) (started s) g w.3 ∙ fresh_fits s (length b) short))
  begun ms cs m q (Err Pruned) o w others v = v
  begun ms cs m q (Err Off) o w others v =
      let new : read (area_at i cs) ≡ Some (started s) = v.3 ∙ w.3 in
      let all : plan cs ≡ set (plan bs) i (Some (started s)) = others ∙ ap (set (plan ms) i) new ∙ ap (λ os. set os i (Some (started s))) o ∙ set-set (plan bs) i _ _ in
      (begun-takes, inr (none, swapped i None (Some (started s)) (plan bs) (plan cs) within free all), took-second 10 (length b + 4) (cost (plan bs) s (length b)) p m q (omega (arith, cost-free (plan bs) s (length b) none)) w.1 v.1)
