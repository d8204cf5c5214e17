-- Runs of blanks, and the first word of a line.
use Rattle.std.proofs.Common.{◌≡◌, ℕ, suc, ◌+◌, ◌<◌, ◌≤◌, false, List, [], ◌∷◌, length, get_or, take, drop, Some, None, sym, refl, ap, ◌∙◌, inl, inr, arith, length-drop}
use Rattle.std.proofs.lemmas.Grind.{common_steps}
use Rattle.std.proofs.lemmas.Bool.{cases_Bool}
use Rattle.std.proofs.lemmas.List.Folds.{length-prefix_len}
use Rattle.std.proofs.lemmas.List.Quantifiers.{position-Some}
use Rattle.std.specs.List.{position, position_or_len, prefix_len, take_while}
use Rattle.std.specs.Iterator.{YieldsFirstRef}
use Rattle.std.specs.Iterator.Runs.{YieldsRefsInOrder}
use Rattle.std.proofs.iter.runs.Sources.{from_front}
use Rattle.text.specs.Words.{blank, in_word, onto, words, Split}

-- where no byte is of a word, there is no word
pub words_none : (xs : List ℕ) → position in_word xs ≡ None → words xs ≡ []
unfolding words
words_none [] e = refl
words_none (c ∷ cs) e = grind (arith, common_steps, words_none cs)

-- blanks in front change no words
words_skip : (xs : List ℕ) → words (drop (position_or_len in_word xs) xs) ≡ words xs
unfolding words
words_skip [] = refl
words_skip (c ∷ cs) =
    let n : (k : ℕ) → 1 + k ≡ suc k = λ k. omega arith in
    elim (cases_Bool (blank c)) [ inl e ↦ rw (e, n (position_or_len in_word cs)) (words_skip cs) | inr e ↦ rw (e, e) ]

-- a run of bytes that are no blanks is the first word
words-run : (c : ℕ) (cs : List ℕ) → blank c ≡ false → words (c ∷ cs) ≡ (c ∷ take_while in_word cs) ∷ words (drop (prefix_len in_word cs) cs)
unfolding words
words-run c [] e = rw e
words-run c (d ∷ ds) e =
    let n : (k : ℕ) → 1 + k ≡ suc k = λ k. omega arith in
    elim (cases_Bool (blank d)) [ inl f ↦ rw (e, f, f) | inr f ↦ rw (e, words-run d ds f, f, n (prefix_len in_word ds)) ]

-- the first word and what follows it
words-first : (xs : List ℕ) → 0 < length xs → blank (get_or xs 0 0) ≡ false → words xs ≡ take_while in_word xs ∷ words (drop (prefix_len in_word xs) xs)
words-first [] l e = absurd (omega arith)
words-first (c ∷ cs) l e =
    let n : (k : ℕ) → 1 + k ≡ suc k = λ k. omega arith in
    rw (e, n (prefix_len in_word cs)) (words-run c cs e)

word_is_long : (xs : List ℕ) → 0 < length xs → blank (get_or xs 0 0) ≡ false → 0 < prefix_len in_word xs
word_is_long [] l e = absurd (omega arith)
word_is_long (c ∷ cs) l e = rw e (omega arith)

-- the first word and what follows it, where the first byte that is no blank stands at `start`
pub first_split : (xs : List ℕ) (start end : ℕ) → position in_word xs ≡ Some start → end ≡ length (take_while in_word (drop start xs)) → Split xs (take end (drop start xs)) (drop end (drop start xs))
first_split xs start end s e =
    let f = position-Some in_word xs start 0 s in
    let b : blank (get_or (drop start xs) 0 0) ≡ false = grind (arith, common_steps, f.1) in
    let p : position_or_len in_word xs ≡ start = grind (arith, common_steps, s) in
    let n : end ≡ prefix_len in_word (drop start xs) = e ∙ length-prefix_len in_word (drop start xs) in
    let l : 0 < length (drop start xs) = simp length-drop (omega arith) in
    record {
      whole = rw n (sym (ap (λ i. words (drop i xs)) (sym p) ∙ words_skip xs) ∙ words-first (drop start xs) l b);
      shorter = simp length-drop (omega (arith, word_is_long (drop start xs) l b));
    }

-- a byte in front of the first word adds a word only where there is none
length-onto : (c : ℕ) (ws : List (List ℕ)) → length (onto c ws) ≤ length ws + 1
length-onto c [] = omega arith
length-onto c (w ∷ ws) = omega arith

-- as many words as bytes at most
pub length-words : (xs : List ℕ) → length (words xs) ≤ length xs
unfolding words
length-words [] = omega arith
length-words (c ∷ cs) = grind (arith, common_steps, length-words cs, length-onto c (words cs))

-- a run of `next` over the words that are left gives them in order
pub words_runs : YieldsRefsInOrder (YieldsFirstRef {A = List ℕ} (λ rest. rest)) (λ rest. rest)
words_runs p s = from_front (YieldsFirstRef {A = List ℕ} (λ rest. rest)) (λ x. x.now) (λ rest. rest) (λ s t h. ap length h.0) (λ s x t h. h) p s
