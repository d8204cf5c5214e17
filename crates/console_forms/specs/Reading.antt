-- What is answered to a line. Assumes nothing.
use Rattle.std.specs.Prelude.{◌≡◌, ℕ, Bool, false, cond, List, Some, None, Ok, Err, codes, vec_items, Option, Result}
use Rattle.std.specs.Str.{bytes_eq}
use Rattle.fields.specs.declared.faults.Fault.{Fault}
use Rattle.fields.specs.Fields.{word_in, number_in, array_in, bytes_in, few_bytes_in}
use Rattle.fields.specs.Lines.{Left, line_of, behind, next, bind, ended}
use Rattle.fields.specs.Results.{result_map, no_memory, OrNoMemory}
use Rattle.forms.specs.Reading.{top_number, top_height, top_signer}
use Rattle.forms.specs.Sizes.{top_certificate}
use Rattle.forms.specs.Values.{Ack, Activity, ack, certified, tip, TipAck}
use Rattle.forms.specs.Writing.{write, write_message}
use Rattle.console_forms.specs.declared.answers.Answer.{Answer}
use Rattle.console_forms.specs.declared.answers.Answer.TheVariants.{Record, Message, Written}
use Rattle.console_forms.specs.declared.encoding.SpelledAck.{SpelledAck}
use Rattle.console_forms.specs.declared.refusals.Refusal.{Refusal}
use Rattle.console_forms.specs.declared.refusals.Refusal.TheVariants.{Words, Decode, Encode}

-- what is answered: what bytes say as a record, as a message, or the bytes of what was said
pub data Said : Type 0 where
  as_record : List ℕ → Said
  as_message : List ℕ → Said
  written : List ℕ → Said

abbrev pub said : Answer → Said
said (Record v) = as_record (vec_items v)
said (Message v) = as_message (vec_items v)
said (Written v) = written (vec_items v)

-- one word of hex
abbrev pub bytes_alone : Left → Result (List ℕ) Fault
bytes_alone = bind bytes_in (λ bs. ended bs)

-- height, digest, epoch, signer, signature
abbrev pub ack_in : ℕ → Left → Result Ack Fault
ack_in most =
    bind (number_in most) (λ h.
    bind (array_in 32) (λ d.
    bind (number_in top_number) (λ e.
    bind (number_in top_signer) (λ s.
    bind (array_in 64) (λ g.
    ended (record { height = h; epoch = e; signer = s; digest = d; signature = g }))))))

abbrev pub ack_record_in : Left → Result Activity Fault
ack_record_in l = result_map ack (ack_in top_height l)

-- height, digest, certificate
abbrev pub certified_in : Left → Result Activity Fault
certified_in =
    bind (number_in top_height) (λ h.
    bind (array_in 32) (λ d.
    bind (few_bytes_in top_certificate) (λ c.
    ended (certified (record { height = h; digest = d; bytes = c })))))

abbrev pub tip_in : Left → Result Activity Fault
tip_in = bind (number_in top_height) (λ t. ended (tip t))

-- tip, and an ack
abbrev pub message_in : Left → Result TipAck Fault
message_in = bind (number_in top_number) (λ t l. result_map (λ a. record { tip = t; ack = a }) (ack_in top_number l))

-- an answer of words that are read
abbrev pub worded : {A : Type 0} → (A → Said) → Result A Fault → Result Said Refusal
worded f (Ok a) = Ok (f a)
worded f (Err fault) = Err (Words fault)

-- the form that is named first, and what is read behind it
abbrev pub formed : (List ℕ → Left → Result Said Refusal) → Left → Result Said Refusal
formed by_form l = elim (next word_in l) [
  | Err fault ↦ Err (Words fault)
  | Ok form ↦ by_form form (behind l)
]

abbrev pub decode_form : List ℕ → Left → Result Said Refusal
decode_form form l =
    cond (bytes_eq form (codes "record")) (worded as_record (bytes_alone l))
    (cond (bytes_eq form (codes "message")) (worded as_message (bytes_alone l)) (Err Decode))

abbrev pub encode_form : List ℕ → Left → Result Said Refusal
encode_form form l =
    cond (bytes_eq form (codes "tip")) (worded (λ a. written (write a)) (tip_in l))
    (cond (bytes_eq form (codes "ack")) (worded (λ a. written (write a)) (ack_record_in l))
    (cond (bytes_eq form (codes "certified")) (worded (λ a. written (write a)) (certified_in l))
    (cond (bytes_eq form (codes "message")) (worded (λ m. written (write_message m)) (message_in l)) (Err Encode))))

-- what is answered to `decode` and to `encode`, by the words behind them
abbrev pub decode : Left → Result Said Refusal
decode = formed decode_form

abbrev pub encode : Left → Result Said Refusal
encode = formed encode_form

-- what is answered to a line, by its first word and those after it; nothing where the first word is another
abbrev pub command : List ℕ → List (List ℕ) → Option (Result Said Refusal)
command name ws =
    cond (bytes_eq name (codes "decode")) (Some (decode (line_of ws))) (cond (bytes_eq name (codes "encode")) (Some (encode (line_of ws))) None)

-- a refusal that says that no memory is left
abbrev pub out_of_memory : Refusal → Bool
out_of_memory (Words fault) = no_memory fault
out_of_memory refusal = false

-- the answer to a line is the one that is meant, unless no memory is left
abbrev pub Answers : Option (Result Answer Refusal) → Option (Result Said Refusal) → Type 0
Answers None meant = None ≡ meant
Answers (Some r) None = ⊥
Answers (Some r) (Some meant) = OrNoMemory out_of_memory (result_map said r) meant

-- the ack that a line gives, as a plain value
abbrev pub values_of : SpelledAck → Ack
values_of a = record { height = a.height.0; epoch = a.epoch.0; signer = a.signer.0; digest = a.digest.bytes; signature = a.signature.bytes }
