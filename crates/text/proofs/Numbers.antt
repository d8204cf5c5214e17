-- Numbers digit by digit.
use Rattle.std.proofs.Common.{◌≡◌, ℕ, ◌+◌, ◌-◌, ◌*◌, ◌^◌, ◌<◌, ◌≤◌, true, false, eqb, List, [], ◌∷◌, length, get_or, drop, Some, None, Option, ◌∙◌, arith, rules}
use Rattle.std.proofs.lemmas.Fmt.{digits_decimal, digits_value-decimal, decimal_nonempty}
use Rattle.std.proofs.lemmas.List.{at_drop_more, at_drop_all}
use Rattle.std.proofs.lemmas.Str.Parse.{IsNumeralModel, numerals_by_fold, tells_all_ascii_digits}
use Rattle.std.specs.Str.{all_ascii_digits}
use Rattle.text.specs.Decimal.{spelt, number_after, number_of, pushed, NumberReadsBack}

spelt_ge : (n : ℕ) (ds : List ℕ) → n ≤ spelt n ds
spelt_ge n [] = omega arith
spelt_ge n (c ∷ cs) = omega (arith, spelt_ge (n * 10 + (c - 48)) cs)

goes : (n u c : ℕ) (cs : List ℕ) → pushed n c ≡ Some u → number_after n (c ∷ cs) ≡ number_after u cs
unfolding number_after
goes n u c cs h = grind arith

stays : (n c : ℕ) (cs : List ℕ) → pushed n c ≡ None → number_after n (c ∷ cs) ≡ None
unfolding number_after
stays n c cs h = grind (arith, spelt_ge (n * 10 + (c - 48)) cs)

pub number-goes : (ds : List ℕ) (i n u : ℕ) → i < length ds → pushed n (get_or ds i 0) ≡ Some u → number_after n (drop i ds) ≡ number_after u (drop (i + 1) ds)
number-goes ds i n u l h = at_drop_more (number_after n) ds i 0 l ∙ goes n u (get_or ds i 0) (drop (i + 1) ds) h

pub number-stops : (ds : List ℕ) (i n : ℕ) → i < length ds → pushed n (get_or ds i 0) ≡ None → number_after n (drop i ds) ≡ None
number-stops ds i n l h = at_drop_more (number_after n) ds i 0 l ∙ stays n (get_or ds i 0) (drop (i + 1) ds) h

pub number_ends : (ds : List ℕ) (i n : ℕ) → length ds ≤ i → n < 2 ^ 64 → number_after n (drop i ds) ≡ Some n
unfolding number_after
number_ends ds i n l b = at_drop_all (number_after n) ds i l ∙ grind arith

pub pushed-fits : (n c u : ℕ) → pushed n c ≡ Some u → u < 2 ^ 64
pushed-fits n c u h = grind arith

-- a word that is not empty
pub number_of_lem : (ds : List ℕ) (r : Option ℕ) → false ≡ eqb (length ds) 0 → number_after 0 ds ≡ r → r ≡ number_of ds
number_of_lem ds r f e = grind arith

own : IsNumeralModel (λ ds. all_ascii_digits ds ≡ true) (spelt 0)
own = numerals_by_fold _ tells_all_ascii_digits spelt (search rules)

pub reads_back : NumberReadsBack
unfolding number_after
reads_back n b = grind (arith, decimal_nonempty n b, digits_decimal own n b, digits_value-decimal own n b)
