-- The pooled certificate: the map of its signers, and the sum of their tags. Assumes nothing.
use Rattle.std.specs.Prelude.{ℕ, ◌+◌, ◌%◌, ◌^◌, List, [], ◌∷◌}
use Rattle.provider.specs.Answers.{Attested, Bytes}
use Rattle.tags.specs.Words.{eight_bytes, word}
use Rattle.mapped.specs.Certificates as mapped

-- the sum of the tags that signatures carry in their first eight bytes
abbrev pub carried : List Attested → ℕ
carried [] = 0
carried (q ∷ qs) = word q.signature + carried qs

-- the sum, wrapped to 64 bits, with its highest byte first
abbrev pub pool_of : List Attested → Bytes
pool_of qs = eight_bytes (carried qs % 2 ^ 64)

-- the map, and the sum
abbrev pub certificate_of : List Attested → Bytes
certificate_of = mapped.certificate_of pool_of
