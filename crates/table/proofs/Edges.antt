-- The two ends of a table: which entries they are, and that their keys are the least and the greatest. Assumes nothing.
use Rattle.std.proofs.Common.{◌≡◌, ℕ, suc, ◌-◌, Bool, true, false, List, [], ◌∷◌, length, slice_get, Some, None, Option, All, sym, refl, ap, ◌∙◌, arith}
use Rattle.std.proofs.lemmas.List.Elements.{All-nil, All-cons}
use Rattle.table.specs.declared.Entry.{Entry}
use Rattle.table.specs.Order.{Total}
use Rattle.table.specs.Rows.{Above, Sorted}
use Rattle.table.specs.Ends.{foremost, hindmost, Least, Greatest}

-- of two keys at most one is less than the other
pub one_way : {K : Type 0} {less : K → K → Bool} (o : Total less) (x y : K) → less x y ≡ true → less y x ≡ false
one_way {less = less} o x y h = go (less y x) refl
  where
    go : (b : Bool) → less y x ≡ b → b ≡ false
    go true p = sym (o.trans x y x h p) ∙ o.never x
    go false p = refl

module _ {K V : Type 0} where
  pub front_is : (es : List (Entry K V)) → slice_get es 0 ≡ foremost es
  front_is [] = refl
  front_is (x ∷ xs) = refl

  pub last_is : (es : List (Entry K V)) → slice_get es (length es - 1) ≡ hindmost es
  last_is [] = refl
  last_is (x ∷ []) = refl
  last_is (x ∷ y ∷ ys) =
      let z : length (x ∷ y ∷ ys) - 1 ≡ suc (length (y ∷ ys) - 1) = omega arith in
      ap (slice_get (x ∷ y ∷ ys)) z ∙ last_is (y ∷ ys)

module _ {K V : Type 0} {less : K → K → Bool} (o : Total less) where
  not_below : (k : K) (es : List (Entry K V)) → Above less k es → All (λ (e : Entry K V). less e.key k ≡ false) es
  not_below k [] hs = All-nil (λ (e : Entry K V). less e.key k ≡ false)
  not_below k (x ∷ xs) hs = All-cons (λ (e : Entry K V). less e.key k ≡ false) x xs (one_way o k x.key hs.0) (not_below k xs hs.1)

  pub front-least : (es : List (Entry K V)) → Sorted less es → Least less (foremost es) es
  front-least [] s = tt
  front-least (x ∷ xs) s = All-cons (λ (e : Entry K V). less e.key x.key ≡ false) x xs (o.never x.key) (not_below x.key xs s.0)

  above-last : (k : K) (es : List (Entry K V)) (l : Entry K V) → Above less k es → hindmost es ≡ Some l → less k l.key ≡ true
  above-last k [] l hs is = absurd (let z : ◌≡◌ {A = ℕ} 0 1 = cc in omega arith)
  above-last k (x ∷ []) l hs is = let e : x ≡ l = cc in ap (λ (y : Entry K V). less k y.key) (sym e) ∙ hs.0
  above-last k (x ∷ y ∷ ys) l hs is = above-last k (y ∷ ys) l hs.1 is

  pub last-greatest : (es : List (Entry K V)) → Sorted less es → Greatest less (hindmost es) es
  last-greatest [] s = tt
  last-greatest (x ∷ []) s = All-cons (λ (e : Entry K V). less x.key e.key ≡ false) x [] (o.never x.key) (All-nil (λ (e : Entry K V). less x.key e.key ≡ false))
  last-greatest (x ∷ y ∷ ys) s = go (hindmost (y ∷ ys)) refl (last-greatest (y ∷ ys) s.1)
    where
      go : (l : Option (Entry K V)) → hindmost (y ∷ ys) ≡ l → Greatest less l (y ∷ ys) → Greatest less l (x ∷ y ∷ ys)
      go None is gs = tt
      go (Some l) is gs = All-cons (λ (e : Entry K V). less l.key e.key ≡ false) x (y ∷ ys) (one_way o x.key l.key (above-last x.key (y ∷ ys) l s.0 is)) gs
