-- The values of the code as the plain ones of the answers. Assumes nothing.
use Rattle.std.specs.Prelude.{ℕ, List, map, take, Option}
use Rattle.std.specs.Borrow.{Bor}
use Rattle.std.specs.Option.{option_map}
use Rattle.types.specs.Texts.{PublicKey, Signature}
use Rattle.types.specs.Numbers.{Participant}
use Rattle.provider.specs.declared.attestation.Attestation.{Attestation}
use Rattle.provider.specs.declared.certificate.Certificate.{Certificate}
use Rattle.provider.specs.Answers.{Bytes, Attested}

-- the bytes of keys
abbrev pub key_bytes : List PublicKey → List Bytes
key_bytes ks = map (λ (k : PublicKey). k.bytes) ks

-- keys that are borrowed
abbrev pub lent_keys : Option (Bor (List PublicKey)) → Option (List Bytes)
lent_keys o = option_map (λ ks. key_bytes ks.now) o

-- a signer's number
abbrev pub number : Option Participant → Option ℕ
number o = option_map (λ (p : Participant). p.0) o

-- a signature's bytes
abbrev pub signed : Option Signature → Option Bytes
signed o = option_map (λ (s : Signature). s.bytes) o

-- a signer and its signature
abbrev pub attested : Attestation → Attested
attested a = record { signer = a.signer.0; signature = a.signature.bytes }

-- the bytes of a certificate
abbrev pub certified : Certificate → Bytes
certified c = take c.len c.bytes

abbrev pub assembled : Option Certificate → Option Bytes
assembled o = option_map certified o
