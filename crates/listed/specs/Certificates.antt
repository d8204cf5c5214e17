-- The listed certificate: the map of its signers, and their signatures one after the other. Assumes nothing.
use Rattle.std.specs.Prelude.{List, [], ◌∷◌, ◌++◌, take}
use Rattle.provider.specs.Answers.{Attested, Bytes}
use Rattle.mapped.specs.Certificates as mapped

-- 64 bytes of each signature
abbrev pub signatures : List Attested → Bytes
signatures [] = []
signatures (q ∷ qs) = take 64 q.signature ++ signatures qs

-- the map, the higher byte first, and the signatures
abbrev pub certificate_of : List Attested → Bytes
certificate_of = mapped.certificate_of signatures
