-- What holds of reading and writing, whatever the bytes and the values. Assumes nothing.
use Rattle.std.specs.Prelude.{◌≡◌, ℕ, ◌+◌, ◌-◌, ◌^◌, ◌<◌, ◌≤◌, List, [], ◌∷◌, ◌++◌, length, take, drop, Ok, Err, All, Result}
use Rattle.forms.specs.declared.faults.Fault.{Fault}
use Rattle.forms.specs.declared.faults.Field.TheVariants.{End}
use Rattle.forms.specs.Uint.{spell, uint}
use Rattle.forms.specs.Values.{Ack, Activity, ack, certified, tip, TipAck}
use Rattle.forms.specs.Reading.{record_at, message_at, read, message}
use Rattle.forms.specs.Writing.{write, write_message}
use Rattle.forms.specs.Sizes.{Sized, SizedMessage}

abbrev pub Bytes : List ℕ → Type 0
Bytes bs = All (λ b. b < 256) bs

-- where the digest stands in an ack that begins at a place, and where the signature does
abbrev pub ack_places : ℕ → Ack → List ℕ
ack_places at a =
    (at + length (spell a.height)) ∷
    (at + length (spell a.height) + 32 + length (spell a.epoch) + length (spell a.signer)) ∷ []

abbrev pub places : Activity → List ℕ
places (ack a) = ack_places 1 a
places (certified c) = (1 + length (spell c.height)) ∷ (1 + length (spell c.height) + 32) ∷ []
places (tip t) = []

-- what is written is read back: the same values, and each part where it was written
pub record ReadsBack : Type 0 where
  pub records : (x : Activity) → Sized x → record_at (write x) ≡ Ok (record { value = x; places = places x })
  pub messages : (m : TipAck) → SizedMessage m → message_at (write_message m) ≡ Ok (record { value = m; places = ack_places (length (spell m.tip)) m.ack })

-- what is read has the sizes of its form, and is spelled in one way: as it would be written
pub record OneSpelling : Type 0 where
  pub records : (bs : List ℕ) (x : Activity) → Bytes bs → read bs ≡ Ok x → Sized x × (bs ≡ write x)
  pub messages : (bs : List ℕ) (m : TipAck) → Bytes bs → message bs ≡ Ok m → SizedMessage m × (bs ≡ write_message m)
  pub same_record : (bs cs : List ℕ) (x : Activity) → Bytes bs → Bytes cs → read bs ≡ Ok x → read cs ≡ Ok x → bs ≡ cs
  pub same_message : (bs cs : List ℕ) (m : TipAck) → Bytes bs → Bytes cs → message bs ≡ Ok m → message cs ≡ Ok m → bs ≡ cs

abbrev pub Valid : {A : Type 0} → (List ℕ → Result A Fault) → List ℕ → Type 0
Valid {A = A} reads bs = (a : A) × (reads bs ≡ Ok a)

-- a fault names the first byte with which nothing valid begins
pub record First {A : Type 0} (reads : List ℕ → Result A Fault) (bs : List ℕ) (f : Fault) : Type 0 where
  -- a byte of the input, or the one that is missing behind it
  pub within : f.at ≤ length bs
  -- what stands before it begins something that is valid: with these bytes, for one
  pub more : List ℕ
  pub bytes : Bytes more
  pub goes : Valid reads (take f.at bs ++ more)
  -- with it, nothing that is valid begins, whatever follows
  pub stops : f.at < length bs → (rest : List ℕ) → Valid reads (take (f.at + 1) bs ++ rest) → ⊥
  -- a byte is left over exactly where what stands before it is valid
  pub left : f.field ≡ End → Valid reads (take f.at bs) × (f.at < length bs)
  pub over : Valid reads (take f.at bs) → f.field ≡ End

pub record FirstFault : Type 0 where
  pub records : (bs : List ℕ) (f : Fault) → read bs ≡ Err f → First read bs f
  pub messages : (bs : List ℕ) (f : Fault) → message bs ≡ Err f → First message bs f

-- a number is read back, up to any limit that it keeps, whatever follows; only its shortest spelling is read; worked cases
pub record Numbers : Type 0 where
  pub back : (most n : ℕ) (rest : List ℕ) → n ≤ most → uint most (spell n ++ rest) ≡ Ok (record { value = n; len = length (spell n) })
  pub shortest : (most n len : ℕ) (bs : List ℕ) → Bytes bs → uint most bs ≡ Ok (record { value = n; len = len }) → (n ≤ most) × (bs ≡ spell n ++ drop len bs)
  pub cases : (spell 127 ≡ 127 ∷ []) × (spell 128 ≡ 128 ∷ 1 ∷ []) × (uint (2 ^ 64 - 1) (128 ∷ 0 ∷ []) ≡ Err 1)
