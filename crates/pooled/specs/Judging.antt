-- Which pooled certificates are accepted, and why another is not. Assumes nothing.
use Rattle.std.specs.Prelude.{ℕ, ◌+◌, ◌%◌, ◌^◌, Bool, List, [], ◌∷◌}
use Rattle.std.specs.Str.{bytes_eq}
use Rattle.provider.specs.Answers.{Bytes}
use Rattle.tags.specs.Tags.{tag_of}
use Rattle.tags.specs.Words.{eight_bytes}
use Rattle.mapped.specs.Judging as mapped

-- the sum of the tags of signers for a height and a digest
abbrev pub tag_sum : ℕ → Bytes → List ℕ → ℕ
tag_sum h d [] = 0
tag_sum h d (i ∷ is) = tag_of i h d + tag_sum h d is

-- eight bytes, however many signers
abbrev pub size_of : ℕ → ℕ
size_of k = 8

-- whether the body is the sum, wrapped to 64 bits
abbrev pub summed : ℕ → Bytes → List ℕ → Bytes → Bool
summed h d is body = bytes_eq body (eight_bytes (tag_sum h d is % 2 ^ 64))

-- of n signers, those that stand in the map and the sum
abbrev pub valid_for : ℕ → ℕ → Bytes → Bytes → Bool
valid_for n h d = mapped.valid_for size_of (summed h d) n
