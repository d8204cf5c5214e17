-- Laws over any list of operations, with a power cut at any of them. Assumes nothing.
use Rattle.std.specs.Prelude.{◌≡◌, ℕ, ◌≤◌, cond, ◌⊎◌, List, [], ◌∷◌, ◌++◌, Ok, Err, Option, Result, ◌==◌, ◌≢◌}
use Rattle.journal.specs.Log.{Bytes, Section, reading, Formed}
use Rattle.journal.specs.Cuts.{Cut}
use Rattle.journal.specs.Steps.{Disk, Appended, Synced, AllSynced, Pruning, Reading}
use Rattle.journal.specs.declared.places.Overrun.{Overrun}
use Rattle.journal.specs.declared.stops.Stop.{Stop}
use Rattle.journal.specs.declared.stops.ReadStop.{ReadStop}
use Rattle.journal.specs.declared.stops.ReadStop.TheVariants.{Overrun as Overran, Full as Crammed, Off as Dark}

-- an operation on a journal, or a power cut between two
pub data Op : Type 0 where
  append : (section : ℕ) (bytes : Bytes) → Op
  sync : (section : ℕ) → Op
  sync_all : Op
  prune : (section : ℕ) → Op
  read : Op
  cut : Op

-- what an operation may leave, whatever it answers
abbrev pub Leaves : Op → Disk → Disk → Type 0
Leaves (append s b) d e = (r : Result (Unit {0}) Stop) × Appended d s b r e
Leaves (sync s) d e = (r : Result (Unit {0}) Stop) × Synced d s r e
Leaves sync_all d e = (r : Result (Unit {0}) Stop) × AllSynced d r e
Leaves (prune s) d e = (r : Result (Unit {0}) Stop) × Pruning d s r e
Leaves read d e = (o p : Option Overrun) × (r : Result (Unit {0}) ReadStop) × Reading d o r e p
Leaves cut d e = Cut 0 d.log e.log

-- operations one after the other; each may be refused, and the power may go while it runs
abbrev pub Ran : List Op → Disk → Disk → Type 0
Ran [] d e = e ≡ d
Ran (o ∷ os) d e = (m : Disk) × Leaves o d m × Ran os m e

-- the durable records of section s
unfoldable pub durable_in : ℕ → List Section → List Bytes
durable_in s [] = []
durable_in s (x ∷ xs) = cond (s == x.number) x.durable (durable_in s xs)

-- no operation prunes section s
abbrev pub Spared : ℕ → List Op → Type 0
Spared s [] = Unit {0}
Spared s (append t b ∷ os) = Spared s os
Spared s (sync t ∷ os) = Spared s os
Spared s (sync_all ∷ os) = Spared s os
Spared s (prune t ∷ os) = (t ≤ s) × Spared s os
Spared s (read ∷ os) = Spared s os
Spared s (cut ∷ os) = Spared s os

-- a list begins with another
abbrev pub Begins : List Bytes → List Bytes → Type 0
Begins xs ys = (rest : List Bytes) × (ys ≡ xs ++ rest)

-- whatever is done, wherever the power goes: the durable records of a section that is not pruned stay, in order, in front
abbrev pub DurableStays : Type 0
DurableStays =
    (os : List Op) (d e : Disk) → Formed d.log → Ran os d e → (s : ℕ) → Spared s os → Begins (durable_in s d.log.sections) (durable_in s e.log.sections)

-- one of a list
unfoldable pub Among : {X : Type 0} → X → List X → Type 0
Among x [] = ⊥
Among x (y ∷ ys) = (x ≡ y) ⊎ Among x ys

-- reading answers this record in this section
abbrev pub Answers : ℕ → Bytes → List Section → Type 0
Answers s b xs = (n : ℕ) × Among (record { section = s; number = n; bytes = b }) (reading xs)

-- one of the operations appends this record to this section
abbrev pub Appends : ℕ → Bytes → List Op → Type 0
Appends s b os = Among (append s b) os

-- whatever is done, wherever the power goes: reading answers no part of a record, only records that stood there or were appended whole
abbrev pub RecordsWhole : Type 0
RecordsWhole =
    (os : List Op) (d e : Disk) → Ran os d e → (s : ℕ) (b : Bytes) → Answers s b e.log.sections → Answers s b d.log.sections ⊎ Appends s b os

-- reading came to an end, or to an overrun
abbrev pub Told : Result (Unit {0}) ReadStop → Type 0
Told (Ok _) = Unit {0}
Told (Err (Overran x)) = Unit {0}
Told (Err Crammed) = ⊥
Told (Err Dark) = ⊥

-- a second reading answers what the first did, unless the power goes, and the records are the same
abbrev pub ReadTwice : Type 0
ReadTwice =
    (d e f : Disk) (o p q : Option Overrun) (r t : Result (Unit {0}) ReadStop) → Reading d o r e p → Reading e p t f q → Told r → (t ≢ Err Dark) →
    (t ≡ r) × (reading e.log.sections ≡ reading d.log.sections) × (reading f.log.sections ≡ reading d.log.sections)
