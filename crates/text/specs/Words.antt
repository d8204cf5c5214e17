-- The words of a line. Assumes nothing.
use Rattle.std.specs.Prelude.{◌≡◌, ℕ, ◌<◌, Bool, false, cond, not, ◌||◌, List, [], ◌∷◌, length, Some, None, Option, ◌==◌}
use Rattle.std.specs.Borrow.{Bor}

-- a space or a tab
abbrev pub blank : ℕ → Bool
blank c = c == 32 || c == 9

-- a byte of a word: any but a blank
abbrev pub in_word : ℕ → Bool
in_word c = not (blank c)

-- the line goes on with a byte of a word
abbrev pub begins : List ℕ → Bool
begins [] = false
begins (c ∷ cs) = in_word c

-- the byte c in front of the first word
abbrev pub onto : ℕ → List (List ℕ) → List (List ℕ)
onto c [] = (c ∷ []) ∷ []
onto c (w ∷ ws) = (c ∷ w) ∷ ws

-- A blank stands in no word. Any other byte joins the word that follows it at once, or is a word alone.
unfoldable pub words : List ℕ → List (List ℕ)
words [] = []
words (c ∷ cs) = cond (blank c) (words cs) (cond (begins cs) (onto c (words cs)) ((c ∷ []) ∷ words cs))

-- a line split behind its first word: that word, with the words of the rest, gives the words of the line
pub record Split (line word rest : List ℕ) : Type 0 where
  pub whole : words line ≡ word ∷ words rest
  pub shorter : length rest < length line

-- what a splitting answers: nothing exactly where the line has no word
abbrev pub Splits : List ℕ → Option (Bor (List ℕ) × Bor (List ℕ)) → Type 0
Splits line None = words line ≡ []
Splits line (Some p) = Split line p.0.now p.1.now
