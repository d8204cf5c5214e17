-- The trial tag and the signature that carries it. Assumes nothing.
use Rattle.std.specs.Prelude.{◌≡◌, ℕ, ◌+◌, ◌*◌, ◌/◌, ◌%◌, ◌^◌, List, ◌++◌, drop, replicate, bit_xor}
use Rattle.tags.specs.Words.{word, eight_bytes}

-- the 64 bits of a number, turned left by 17: the low 47 bits move up, and the top 17 come below them
unfoldable pub turned : ℕ → ℕ
turned h = h * 2 ^ 17 % 2 ^ 64 + h / 2 ^ 47

-- the signer plus 1, the height turned left by 17 and the digest's four words, joined by exclusive or
unfoldable pub tag_of : ℕ → ℕ → List ℕ → ℕ
tag_of signer height digest =
    bit_xor (signer + 1) (bit_xor (turned height)
    (bit_xor (word digest) (bit_xor (word (drop 8 digest)) (bit_xor (word (drop 16 digest)) (word (drop 24 digest))))))

-- eight bytes of the tag, and then 56 zeros
unfoldable pub signature_of : ℕ → List ℕ
signature_of tag = eight_bytes tag ++ replicate 56 0

-- a signature's first eight bytes give its tag back, as 64 bits
abbrev pub Inverse : Type 0
Inverse = (tag : ℕ) → word (signature_of tag) ≡ tag % 2 ^ 64
