-- What each operation of a journal does, by cases on its answer. Assumes nothing.
use Rattle.std.specs.Prelude.{◌≡◌, ℕ, ◌<◌, ◌≤◌, Bool, true, false, ◌&&◌, length, Some, None, Ok, Err, Option, Result, nat_le}
use Rattle.journal.specs.Log.{Bytes, Log, Firmer, appended, synced, all_synced, synced_to, pruned}
use Rattle.journal.specs.Cuts.{Cut}
use Rattle.journal.specs.declared.places.Overrun.{Overrun}
use Rattle.journal.specs.declared.stops.Stop.{Stop}
use Rattle.journal.specs.declared.stops.Stop.TheVariants.{Full, Pruned, Off}
use Rattle.journal.specs.declared.stops.ReadStop.{ReadStop}
use Rattle.journal.specs.declared.stops.ReadStop.TheVariants.{Overrun as Overran, Full as Crammed, Off as Dark}

-- a journal's value; its space rule, whether a record of some length still fits into a section; and whether what it holds back can be passed on
pub record Disk : Type 0 where
  pub log : Log
  pub room : ℕ → ℕ → Bool
  pub flushes : Bool

-- a record of n bytes goes into section s: it is not too long, and the space rule has room
abbrev pub fits : Disk → ℕ → ℕ → Bool
fits d s n = nat_le n 1068 && d.room s n

-- append: pruned exactly below the bound, else full exactly where the record does not fit, and then nothing changes
abbrev pub Appended : Disk → ℕ → Bytes → Result (Unit {0}) Stop → Disk → Type 0
Appended d s b (Ok _) e = (d.log.bound ≤ s) × (fits d s (length b) ≡ true) × Firmer (appended s b d.log) e.log
Appended d s b (Err Full) e = (d.log.bound ≤ s) × (fits d s (length b) ≡ false) × (e ≡ d)
Appended d s b (Err Pruned) e = (s < d.log.bound) × (e ≡ d)
Appended d s b (Err Off) e = (d.log.bound ≤ s) × (fits d s (length b) ≡ true) × Cut 0 (appended s b d.log) e.log

-- an operation that passes on what is held back, and then makes durable what `to` makes so: full exactly where that cannot be passed on
abbrev pub Settled : (Log → Log) → Disk → Result (Unit {0}) Stop → Disk → Type 0
Settled to d (Ok _) e = (d.flushes ≡ true) × (e.flushes ≡ true) × Firmer (to d.log) e.log
Settled to d (Err Full) e = (d.flushes ≡ false) × Firmer d.log e.log
Settled to d (Err Pruned) e = ⊥
Settled to d (Err Off) e = Cut 0 d.log e.log

-- sync: section s is durable
abbrev pub Synced : Disk → ℕ → Result (Unit {0}) Stop → Disk → Type 0
Synced d s r e = Settled (synced s) d r e

-- sync of everything
abbrev pub AllSynced : Disk → Result (Unit {0}) Stop → Disk → Type 0
AllSynced d r e = Settled all_synced d r e

-- prune: never refused; where the power goes, a section below keeps any of its records
abbrev pub Pruning : Disk → ℕ → Result (Unit {0}) Stop → Disk → Type 0
Pruning d s (Ok _) e = Firmer (pruned s d.log) e.log
Pruning d s (Err Full) e = ⊥
Pruning d s (Err Pruned) e = ⊥
Pruning d s (Err Off) e = Cut s d.log e.log

-- read: the first overrun, where there is one, and what stands before it is durable; else all is
abbrev pub Reading : Disk → Option Overrun → Result (Unit {0}) ReadStop → Disk → Option Overrun → Type 0
Reading d o (Ok _) e p = (d.flushes ≡ true) × (e.flushes ≡ true) × (o ≡ None) × (p ≡ None) × Firmer (all_synced d.log) e.log
Reading d o (Err (Overran x)) e p =
    (d.flushes ≡ true) × (e.flushes ≡ true) × (o ≡ Some x) × (p ≡ Some x) × Firmer (synced_to x.place.section x.place.number d.log) e.log
Reading d o (Err Crammed) e p = (d.flushes ≡ false) × (p ≡ o) × Firmer d.log e.log
Reading d o (Err Dark) e p = (o ≡ None → p ≡ None) × Cut 0 d.log e.log

-- no overrun comes from an operation or a cut
abbrev pub Clean : Option Overrun → Option Overrun → Type 0
Clean o p = o ≡ None → p ≡ None

-- the first overrun stays where it is, unless the power went
abbrev pub Steady : Result (Unit {0}) Stop → Option Overrun → Option Overrun → Type 0
Steady (Ok _) o p = p ≡ o
Steady (Err Full) o p = p ≡ o
Steady (Err Pruned) o p = p ≡ o
Steady (Err Off) o p = Clean o p

-- what a refusal leaves of what the journal lies in: all of it, as it was
abbrev pub Untouched : {A : Type 0} → Result (Unit {0}) Stop → A → A → Type 0
Untouched (Ok _) old new = Unit {0}
Untouched (Err Full) old new = new ≡ old
Untouched (Err Pruned) old new = new ≡ old
Untouched (Err Off) old new = Unit {0}
