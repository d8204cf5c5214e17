-- Bytes spelled in hex. Assumes nothing.
use Rattle.std.specs.Prelude.{◌≡◌, ℕ, ◌+◌, ◌-◌, ◌*◌, ◌/◌, ◌%◌, ◌<◌, cond, List, [], ◌∷◌, length, Some, None, All, Option, ◌==◌, nat_lt}
use Rattle.std.specs.Int.{is_in_range}
use Rattle.std.specs.Str.{bytes_eq}

-- the value of a hex digit, in either case
abbrev pub nibble : ℕ → Option ℕ
nibble c = cond (is_in_range 48 57 c) (Some (c - 48)) (cond (is_in_range 97 102 c) (Some (c - 87)) (cond (is_in_range 65 70 c) (Some (c - 55)) None))

-- the byte of two digits
abbrev pub joined : Option ℕ → Option ℕ → Option ℕ
joined None low = None
joined (Some h) None = None
joined (Some h) (Some l) = Some (16 * h + l)

abbrev pub octet : ℕ → ℕ → Option ℕ
octet a b = joined (nibble a) (nibble b)

-- a byte before others, where all are there
abbrev pub before : Option ℕ → Option (List ℕ) → Option (List ℕ)
before None o = None
before (Some b) None = None
before (Some b) (Some bs) = Some (b ∷ bs)

-- the bytes of digits, two by two; none where one is no digit or stands alone
unfoldable pub octets : List ℕ → Option (List ℕ)
octets [] = Some []
octets (a ∷ []) = None
octets (a ∷ (b ∷ cs)) = before (octet a b) (octets cs)

-- the bytes of a word: `-` stands for none
abbrev pub bytes_of : List ℕ → Option (List ℕ)
bytes_of word = cond (bytes_eq word (45 ∷ [])) (Some []) (octets word)

-- bytes, where they are n
abbrev pub sized : ℕ → Option (List ℕ) → Option (List ℕ)
sized n None = None
sized n (Some bs) = cond (length bs == n) (Some bs) None

-- the digit that is written
abbrev pub digit : ℕ → ℕ
digit d = cond (nat_lt d 10) (48 + d) (87 + d)

-- two digits a byte
unfoldable pub spelled : List ℕ → List ℕ
spelled [] = []
spelled (b ∷ bs) = digit (b / 16) ∷ (digit (b % 16) ∷ spelled bs)

-- what is written of bytes: `-` of none
abbrev pub hex_of : List ℕ → List ℕ
hex_of [] = 45 ∷ []
hex_of (b ∷ bs) = spelled (b ∷ bs)

-- what is written of bytes is read as those bytes
abbrev pub HexReadsBack : Type 0
HexReadsBack = (bs : List ℕ) → All (λ b. b < 256) bs → bytes_of (hex_of bs) ≡ Some bs
