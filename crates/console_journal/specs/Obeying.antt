-- What a command does to the journal that is open, if one is, and what is answered. Assumes nothing.
use Rattle.std.specs.Prelude.{◌≡◌, ℕ, true, false, ◌+◌, ◌*◌, ◌/◌, ◌%◌, cond, ◌&&◌, ◌⊎◌, List, length, take, drop, replicate, slice_index, slice_set, Some, None, Option, Ok, Err, Result, ◌==◌, nat_lt, nat_le, vec_items, Vec}
use Rattle.journal_commands.specs.Reading.{Said, new_bytes, new_slots, operate, power, damage, show, no_memory}
use Rattle.journal_commands.specs.declared.faults.Fault.{Fault}
use Rattle.fields.specs.Results.{OrNoMemory}
use Rattle.slots.specs.Stores.{free}
use Rattle.console_journal.specs.Held.{Stored, in_slots, in_bytes, Held, held_of, fresh, Operated}
use Rattle.console_journal.specs.declared.answers.Answer.{Answer}
use Rattle.console_journal.specs.declared.answers.Answer.TheVariants.{NewBytes, NewSlots, Power, Damaged, Bytes}
use Rattle.console_journal.specs.declared.answers.Refusal.{Refusal}
use Rattle.console_journal.specs.declared.answers.Refusal.TheVariants.{Words, NoJournal, NoBytes, PastEnd, FileLength, NoMemory}
use Rattle.console_journal.specs.declared.journals.Journals.{Journals}
use Rattle.std.specs.Global.{Global}
use Rattle.std.specs.Option.{option_map}

-- the journal that is open, if one is
abbrev pub held : Journals → Option Held
held j = option_map held_of j.open

-- a new journal over this medium, unless memory ended
abbrev pub Opens : Stored → Answer → Option Held → Result Answer Refusal → Option Held → Type 0
Opens s a o r p = ((r ≡ Ok a) × (p ≡ Some (record { stored = s; carried = fresh; kept = false }))) ⊎ ((r ≡ Err NoMemory) × (p ≡ o))

-- the journal with power for so many stores, or for ever
abbrev pub powered : Option ℕ → Held → Held
powered q h = record { stored = h.stored; carried = record { bound = h.carried.bound; power = q }; kept = h.kept }

-- one of some bytes is changed, if it is there
abbrev pub changed : ℕ → ℕ → List ℕ → Result Answer Refusal × List ℕ
changed i b bs = cond (nat_lt i (length bs)) (Ok (Damaged (slice_index bs i)), slice_set bs i b) (Err (PastEnd (length bs)), bs)

-- some of these bytes, if they are there
abbrev pub part_of : ℕ → ℕ → List ℕ → Option (List ℕ)
part_of i n bs = cond (nat_le (i + n) (length bs)) (Some (take n (drop i bs))) None

-- they are shown, unless memory ended
abbrev pub Copied : ℕ → Option (List ℕ) → Result Answer Refusal → Type 0
Copied len None r = r ≡ Err (PastEnd len)
Copied len (Some bs) r = r ≡ Err NoMemory ⊎ ((v : Vec ℕ Global) × (r ≡ Ok (Bytes v)) × (vec_items v ≡ bs))

-- a change of one byte, and a look at some: only bytes have them
abbrev pub Damages : ℕ → ℕ → Stored → Result Answer Refusal → Stored → Type 0
Damages i b (in_slots xs) r s = (r ≡ Err NoBytes) × (s ≡ in_slots xs)
Damages i b (in_bytes bs) r s = (r ≡ (changed i b bs).0) × (s ≡ in_bytes (changed i b bs).1)

abbrev pub Shows : ℕ → ℕ → Stored → Result Answer Refusal → Type 0
Shows i n (in_slots xs) r = r ≡ Err NoBytes
Shows i n (in_bytes bs) r = Copied (length bs) (part_of i n bs) r

-- what is done where a journal is open; where none is, that is refused
abbrev pub OnOpen : (Held → Held → Type 0) → Option Held → Result Answer Refusal → Option Held → Type 0
OnOpen P None r p = (r ≡ Err NoJournal) × (p ≡ None)
OnOpen P (Some h) r (Some k) = P h k
OnOpen P (Some h) r None = ⊥

-- what a command does, and what is answered
abbrev pub Obeys : Said → Option Held → Result Answer Refusal → Option Held → Type 0
Obeys (new_bytes n) o r p = Opens (in_bytes (replicate (n * 4096) 0)) (NewBytes n) o r p
Obeys (new_slots n) o r p = Opens (in_slots (replicate n free)) (NewSlots n) o r p
Obeys (operate op) o r p = OnOpen (λ h k. Operated op h r k) o r p
Obeys (power q) o r p = OnOpen (λ h k. (r ≡ Ok (Power q)) × (k ≡ powered q h)) o r p
Obeys (damage i b) o r p = OnOpen (λ h k. Damages i b h.stored r k.stored × (k.carried ≡ h.carried) × (k.kept ≡ h.kept)) o r p
Obeys (show i n) o r p = OnOpen (λ h k. Shows i n h.stored r × (k ≡ h)) o r p

-- what was read of a line, and what it did: nothing, where the words are wrong
abbrev pub Answered : Result Said Fault → Option Held → Result Answer Refusal → Option Held → Type 0
Answered (Ok s) o r p = Obeys s o r p
Answered (Err e) o r p = (r ≡ Err (Words e)) × (p ≡ o)

-- a line that says this, if it is one for this part; memory may end while it is read
abbrev pub Taken : Option (Result Said Fault) → Option Held → Option (Result Answer Refusal) → Option Held → Type 0
Taken None o None p = p ≡ o
Taken (Some meant) o (Some r) p = (m : Result Said Fault) × OrNoMemory no_memory m meant × Answered m o r p
Taken meant o r p = ⊥

-- the areas of a file of this length: 1 to 1,024, and nothing behind them
abbrev pub areas_in : ℕ → Option ℕ
areas_in len = cond (((len % 4096) == 0) && (nat_le 1 (len / 4096) && nat_le (len / 4096) 1024)) (Some (len / 4096)) None

-- a journal over the bytes of a file, if these are areas
abbrev pub Loads : List ℕ → Option ℕ → Option Held → Result ℕ Refusal → Option Held → Type 0
Loads bs None o r p = (r ≡ Err (FileLength (length bs))) × (p ≡ o)
Loads bs (Some n) o r p = (r ≡ Ok n) × (p ≡ Some (record { stored = in_bytes bs; carried = fresh; kept = true }))

-- what is in bytes
abbrev pub bytes_in : Stored → Option (List ℕ)
bytes_in (in_slots xs) = None
bytes_in (in_bytes bs) = Some bs

-- the bytes of the journal that is open, if it came from a file
abbrev pub kept_bytes : Option Held → Option (List ℕ)
kept_bytes None = None
kept_bytes (Some h) = cond h.kept (bytes_in h.stored) None
