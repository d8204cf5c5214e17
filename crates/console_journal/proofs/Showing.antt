-- What is answered to a reading.
use Rattle.std.proofs.Common.{◌≡◌, ℕ, true, List, [], ◌∷◌, length, string_bytes, inr, Ok, Err, Some, None, String, Global, refl, ap, ◌∙◌}
use Rattle.std.proofs.lemmas.List.Sums.{take_while-cons}
use Rattle.journal.specs.Log.{Placed}
use Rattle.journal.specs.declared.places.Overrun.{Overrun as Past}
use Rattle.journal.specs.declared.stops.ReadStop.TheVariants.{Overrun as Overran}
use Rattle.console_journal.specs.declared.answers.Answer.TheVariants.{Read, Overrun}
use Rattle.console_journal.specs.Listings.{up_to, lines}
use Rattle.console_journal.specs.Doing.{Shown}

-- where there is no overrun, all records are listed
up_to_none : (xs : List Placed) → up_to None xs ≡ xs
up_to_none [] = refl
up_to_none (x ∷ xs) = take_while-cons (λ _. true) x xs ∙ ap (λ (l : List Placed). x ∷ l) (up_to_none xs)

pub shown_all : (xs : List Placed) (l : String Global) (n : ℕ) → string_bytes l ≡ lines (up_to None xs) → n ≡ length (up_to None xs) → Shown (Ok tt) xs (Ok (Read l n))
shown_all xs l n e c = inr (l, ap (λ k. Ok (Read l k)) (c ∙ ap (λ (ys : List Placed). length ys) (up_to_none xs)), e ∙ ap lines (up_to_none xs))

pub shown_part : (x : Past) (xs : List Placed) (l : String Global) → string_bytes l ≡ lines (up_to (Some x) xs) → Shown (Err (Overran x)) xs (Ok (Overrun l x))
shown_part x xs l e = inr (l, refl, e)
