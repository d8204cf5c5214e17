-- What the words of a line say. Assumes nothing.
use Rattle.std.specs.Prelude.{◌≡◌, ℕ, ◌+◌, ◌-◌, ◌^◌, Bool, false, cond, ◌&&◌, List, [], ◌∷◌, ◌++◌, length, map, take, drop, replicate, position, Some, None, Option, Ok, Err, Result, codes, ◌==◌}
use Rattle.std.specs.Str.{bytes_eq}
use Rattle.fields.specs.declared.faults.Fault as fault
use Rattle.fields.specs.declared.faults.Fault.TheVariants as word
use Rattle.fields.specs.Fields.{word_in, number_in, array_in, bytes_in}
use Rattle.fields.specs.Lines.{Left, line_of, bind, ended}
use Rattle.fields.specs.Results.{and_then, result_map, no_memory, OrNoMemory}
use Rattle.provider.specs.Answers.{Bytes, Attested}
use Rattle.provider.specs.Values.{attested}
use Rattle.provider_commands.specs.declared.commands.Command.{Command}
use Rattle.provider_commands.specs.declared.commands.Command.TheVariants.{Provider, EpochSet, Ask}
use Rattle.provider_commands.specs.declared.commands.Kind.{Kind}
use Rattle.provider_commands.specs.declared.commands.Kind.TheVariants.{Listed, Pooled}
use Rattle.provider_commands.specs.declared.commands.Question.{Question}
use Rattle.provider_commands.specs.declared.commands.Question.TheVariants.{Sign, Accepts, Assemble, AcceptsCertificate}
use Rattle.provider_commands.specs.declared.faults.Fault.{Fault}
use Rattle.provider_commands.specs.declared.faults.Fault.TheVariants.{Word, NoKind, NoOwn, NoSignature}
use Rattle.provider_commands.specs.Sets.{Signers, given}

-- what is asked about an epoch
pub data Query : Type 0 where
  -- the own signature for a height and a digest
  signs : ℕ → Bytes → Query
  -- whether a signer's signature for a height and a digest is accepted
  accepts : ℕ → ℕ → Bytes → Bytes → Query
  -- the certificate that signatures make
  assembles : List Attested → Query
  -- whether a certificate for a height and a digest is accepted
  judges : ℕ → Bytes → Bytes → Query

-- what is said
pub data Said : Type 0 where
  begins : Kind → Said
  adds : Signers → Said
  asks : ℕ → Query → Said

abbrev pub query : Question → Query
query (Sign h d) = signs h.0 d.bytes
query (Accepts i h d s) = accepts i.0 h.0 d.bytes s.items
query (Assemble qs) = assembles (map attested qs.items)
query (AcceptsCertificate h d c) = judges h.0 d.bytes c.items

abbrev pub said : Command → Said
said (Provider k) = begins k
said (EpochSet s) = adds (given s)
said (Ask e q) = asks e.0 (query q)

-- the fault says that no memory is left
abbrev pub out_of_memory : Fault → Bool
out_of_memory (Word e) = no_memory e
out_of_memory fault = false

-- what is read of words alone
abbrev pub worded : {A : Type 0} → Result A fault.Fault → Result A Fault
worded (Ok a) = Ok a
worded (Err e) = Err (Word e)

-- a number of 64 bits
abbrev pub whole : ℕ → List ℕ → Result ℕ fault.Fault
whole = number_in (2 ^ 64 - 1)

-- a key of 31 zeros and this byte
abbrev pub small_key : ℕ → Bytes
small_key n = replicate 31 0 ++ n ∷ []

-- a key: 32 bytes in hex, or k and the last byte of a key that is zero before it
abbrev pub key_in : ℕ → List ℕ → Result Bytes Fault
key_in place [] = worded (array_in 32 place [])
key_in place (c ∷ cs) = worded (cond (c == 107) (result_map small_key (number_in 255 place cs)) (array_in 32 place (c ∷ cs)))

-- the keys of words behind these keys; the first of an epoch is its third word
abbrev pub keys_from : List Bytes → List (List ℕ) → Result (List Bytes) Fault
keys_from ks [] = Ok ks
keys_from ks (w ∷ ws) = and_then (key_in (length ks + 3) w) (λ k. keys_from (ks ++ k ∷ []) ws)

-- an own signer: me= and its number
abbrev pub own_number : List ℕ → Result (Option ℕ) Fault
own_number [] = Err NoOwn
own_number (a ∷ []) = Err NoOwn
own_number (a ∷ (b ∷ [])) = Err NoOwn
own_number (a ∷ (b ∷ (c ∷ ds))) = cond (a == 109 && (b == 101 && c == 61)) (worded (result_map Some (whole 2 ds))) (Err NoOwn)

-- or me=none
abbrev pub own_in : List ℕ → Result (Option ℕ) Fault
own_in w = cond (bytes_eq w (codes "me=none")) (Ok None) (own_number w)

-- a signer and its signature, where the colon between them is known
abbrev pub attestation_by : ℕ → List ℕ → Option ℕ → Result Attested Fault
attestation_by place w None = Err (NoSignature place)
attestation_by place w (Some k) =
    worded (and_then (whole place (take k w)) (λ i. result_map (λ s. record { signer = i; signature = s }) (array_in 64 place (drop (k + 1) w))))

-- the colon is the first one
abbrev pub attestation_in : ℕ → List ℕ → Result Attested Fault
attestation_in place w = attestation_by place w (position (λ c. c == 58) w)

-- the signatures of words behind these; the first of a line is its second word
abbrev pub attestations_from : List Attested → List (List ℕ) → Result (List Attested) Fault
attestations_from qs [] = Ok qs
attestations_from qs (w ∷ ws) = and_then (attestation_in (length qs + 2) w) (λ q. attestations_from (qs ++ q ∷ []) ws)

abbrev pub kind_in : List ℕ → Result Said Fault
kind_in w = cond (bytes_eq w (codes "listed")) (Ok (begins Listed)) (cond (bytes_eq w (codes "pooled")) (Ok (begins Pooled)) (Err NoKind))

abbrev pub said_provider : Left → Result Said Fault
said_provider l = and_then (worded (bind word_in (λ w. ended w) l)) kind_in

-- an epoch, an own signer and keys
abbrev pub said_set : List (List ℕ) → Result Said Fault
said_set [] = Err (Word (word.Missing 1))
said_set (e ∷ []) = and_then (worded (whole 1 e)) (λ e. Err (Word (word.Missing 2)))
said_set (e ∷ (m ∷ ws)) =
    and_then (worded (whole 1 e)) (λ e. and_then (own_in m) (λ o. result_map (λ ks. adds (record { epoch = e; keys = ks; own = o })) (keys_from [] ws)))

-- an epoch, a height and a digest
abbrev pub said_sign : Left → Result Said fault.Fault
said_sign = bind whole (λ e. bind whole (λ h. bind (array_in 32) (λ d. ended (asks e (signs h d)))))

-- an epoch, a signer, a height, a digest and a signature
abbrev pub said_accepts : Left → Result Said fault.Fault
said_accepts =
    bind whole (λ e. bind whole (λ i. bind whole (λ h. bind (array_in 32) (λ d. bind bytes_in (λ s. ended (asks e (accepts i h d s)))))))

-- an epoch and signatures
abbrev pub said_assemble : List (List ℕ) → Result Said Fault
said_assemble [] = Err (Word (word.Missing 1))
said_assemble (e ∷ ws) = and_then (worded (whole 1 e)) (λ e. result_map (λ qs. asks e (assembles qs)) (attestations_from [] ws))

-- an epoch, a height, a digest and a certificate
abbrev pub said_certificate : Left → Result Said fault.Fault
said_certificate =
    bind whole (λ e. bind whole (λ h. bind (array_in 32) (λ d. bind bytes_in (λ c. ended (asks e (judges h d c))))))

-- what a line says, by its first word and those after it; nothing where the first word is another
abbrev pub command : List ℕ → List (List ℕ) → Option (Result Said Fault)
command name ws =
    cond (bytes_eq name (codes "provider")) (Some (said_provider (line_of ws)))
    (cond (bytes_eq name (codes "epoch-set")) (Some (said_set ws))
    (cond (bytes_eq name (codes "sign")) (Some (worded (said_sign (line_of ws))))
    (cond (bytes_eq name (codes "accepts")) (Some (worded (said_accepts (line_of ws))))
    (cond (bytes_eq name (codes "assemble")) (Some (said_assemble ws))
    (cond (bytes_eq name (codes "accepts-certificate")) (Some (worded (said_certificate (line_of ws)))) None)))))

-- what is read of what a line says
abbrev pub Reads : Option (Result Command Fault) → Option (Result Said Fault) → Type 0
Reads None meant = meant ≡ None
Reads (Some r) None = ⊥
Reads (Some r) (Some meant) = OrNoMemory out_of_memory (result_map said r) meant
