-- What bytes say, as a record or as a message, or where they stop to make sense. Assumes nothing.
use Rattle.std.specs.Prelude.{ℕ, ◌+◌, ◌-◌, ◌^◌, cond, List, [], ◌∷◌, length, take, drop, Ok, Err, Result, ◌==◌, nat_le}
use Rattle.forms.specs.declared.faults.Field.{Field}
use Rattle.forms.specs.declared.faults.Field.TheVariants.{Kind, Height, Digest, Epoch, Signer, Signature, Tip, End}
use Rattle.forms.specs.declared.faults.Fault.{Fault}
use Rattle.forms.specs.Uint.{Number, uint}
use Rattle.forms.specs.Values.{Ack, Activity, ack, certified, tip, TipAck}

-- a part of the bytes read, and its place in them
pub record Piece : Type 0 where
  pub bytes : List ℕ
  pub at : ℕ

-- these bytes, the first of which stands at a place
abbrev pub bytes_from : List ℕ → ℕ → Piece
bytes_from bs at = record { bytes = bs; at = at }

-- what a step of reading found, and what it left
pub record Taken (A : Type 0) : Type 0 where
  pub value : A
  pub left : Piece

-- a value, and the places of its parts in the bytes read, in the order in which they stand there
pub record Placed (A : Type 0) : Type 0 where
  pub value : A
  pub places : List ℕ

-- a step of reading: from what is left to what it found
abbrev pub Step : Type 0 → Type 0
Step A = Piece → Result (Taken A) Fault

abbrev pub and_then : {A B : Type 0} → Result A Fault → (A → Result B Fault) → Result B Fault
and_then (Ok a) f = f a
and_then (Err e) f = Err e

-- one step, and then another that may look at what the first found
abbrev pub bind : {A B : Type 0} → Step A → (A → Step B) → Step B
bind s t p = and_then (s p) (λ a. t a.value a.left)

-- nothing more is read
abbrev pub yield : {A : Type 0} → A → Step A
yield a p = Ok (record { value = a; left = p })

abbrev pub numbered : Field → Piece → Result Number ℕ → Result (Taken ℕ) Fault
numbered field p (Ok n) = Ok (record { value = n.value; left = record { bytes = drop n.len p.bytes; at = p.at + n.len } })
numbered field p (Err k) = Err (record { field = field; at = p.at + k })

-- a number up to `most`
abbrev pub number : Field → ℕ → Step ℕ
number field most p = numbered field p (uint most p.bytes)

-- n bytes
abbrev pub part : Field → ℕ → Step Piece
part field n p =
    cond (nat_le n (length p.bytes))
    (Ok (record { value = record { bytes = take n p.bytes; at = p.at }; left = record { bytes = drop n p.bytes; at = p.at + n } }))
    (Err (record { field = field; at = p.at + length p.bytes }))

-- nothing is left
abbrev pub ended : {A : Type 0} → A → Piece → Result A Fault
ended a p = cond (length p.bytes == 0) (Ok a) (Err (record { field = End; at = p.at }))

-- a step that leaves nothing
abbrev pub whole : {A : Type 0} → Step A → Piece → Result A Fault
whole s p = and_then (s p) (λ a. ended a.value a.left)

-- the highest number of 64 bits; the highest height and tip of a record; the highest signer
abbrev pub top_number : ℕ
top_number = 2 ^ 64 - 1

abbrev pub top_height : ℕ
top_height = 2 ^ 62 + 15

abbrev pub top_signer : ℕ
top_signer = 15

-- height, digest, epoch, signer, signature
abbrev pub ack_up_to : ℕ → Step (Placed Ack)
ack_up_to most =
    bind (number Height most) (λ h.
    bind (part Digest 32) (λ d.
    bind (number Epoch top_number) (λ e.
    bind (number Signer top_signer) (λ s.
    bind (part Signature 64) (λ g.
    yield (record {
      value = record { height = h; epoch = e; signer = s; digest = d.bytes; signature = g.bytes };
      places = d.at ∷ g.at ∷ [];
    }))))))

abbrev pub with_tip : ℕ → Placed Ack → Placed TipAck
with_tip t a = record { value = record { tip = t; ack = a.value }; places = a.places }

-- a tip, and an ack
abbrev pub tip_ack : Step (Placed TipAck)
tip_ack =
    bind (number Tip top_number) (λ t.
    bind (ack_up_to top_number) (λ a.
    yield (with_tip t a)))

abbrev pub acked : Placed Ack → Placed Activity
acked a = record { value = ack a.value; places = a.places }

abbrev pub tipped : ℕ → Placed Activity
tipped t = record { value = tip t; places = [] }

-- the body of each kind: an ack; an item, and a certificate to the end; a tip
abbrev pub ack_body : Piece → Result (Placed Activity) Fault
ack_body p = and_then (whole (ack_up_to top_height) p) (λ a. Ok (acked a))

abbrev pub certified_body : Piece → Result (Placed Activity) Fault
certified_body p =
    and_then (number Height top_height p) (λ h.
    and_then (part Digest 32 h.left) (λ d.
    Ok (record {
      value = certified (record { height = h.value; digest = d.value.bytes; bytes = d.left.bytes });
      places = d.value.at ∷ d.left.at ∷ [];
    })))

abbrev pub tip_body : Piece → Result (Placed Activity) Fault
tip_body p = and_then (whole (number Tip top_height) p) (λ t. Ok (tipped t))

abbrev pub no_kind : Result (Placed Activity) Fault
no_kind = Err (record { field = Kind; at = 0 })

abbrev pub by_kind : ℕ → Piece → Result (Placed Activity) Fault
by_kind kind p = cond (kind == 0) (ack_body p) (cond (kind == 1) (certified_body p) (cond (kind == 2) (tip_body p) no_kind))

-- what a record says, and where its parts stand: one kind byte, and then its body
unfoldable pub record_at : List ℕ → Result (Placed Activity) Fault
record_at [] = no_kind
record_at (kind ∷ body) = by_kind kind (record { bytes = body; at = 1 })

-- what a message says, and where its parts stand
unfoldable pub message_at : List ℕ → Result (Placed TipAck) Fault
message_at bs = whole tip_ack (record { bytes = bs; at = 0 })

abbrev pub plain : {A : Type 0} → Result (Placed A) Fault → Result A Fault
plain (Ok a) = Ok a.value
plain (Err e) = Err e

-- what a record says
abbrev pub read : List ℕ → Result Activity Fault
read bs = plain (record_at bs)

-- what a message says
abbrev pub message : List ℕ → Result TipAck Fault
message bs = plain (message_at bs)
