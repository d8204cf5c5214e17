-- What a command does to the journal that is open, and what is answered. Assumes nothing.
use Rattle.std.specs.Prelude.{◌≡◌, ℕ, ◌⊎◌, List, length, string_bytes, Some, Ok, Err, String, Option, Result}
use Rattle.std.specs.Global.{Global}
use Rattle.journal.specs.Cuts.{Cut as CutOff}
use Rattle.journal.specs.Laws.{Op, append, sync, sync_all, prune, read, cut, Told}
use Rattle.journal.specs.Log.{Placed, reading}
use Rattle.journal.specs.Steps.{Disk, Appended as Appends, Synced as Syncs, AllSynced, Pruning, Reading, Steady, Clean}
use Rattle.journal.specs.declared.places.Overrun.{Overrun as Past}
use Rattle.journal.specs.declared.stops.Stop.{Stop}
use Rattle.journal.specs.declared.stops.Stop.TheVariants.{Full as NoRoom, Pruned as BelowBound, Off}
use Rattle.journal.specs.declared.stops.ReadStop.{ReadStop}
use Rattle.journal.specs.declared.stops.ReadStop.TheVariants.{Overrun as Overran, Full as Crammed, Off as Dark}
use Rattle.power.specs.Power.{Powered}
use Rattle.console_journal.specs.Listings.{up_to, lines}
use Rattle.console_journal.specs.declared.answers.Answer.{Answer}
use Rattle.console_journal.specs.declared.answers.Answer.TheVariants.{Appended, Synced, SyncedAll, Pruned, WentOff, Read, Overrun, Cut}
use Rattle.console_journal.specs.declared.answers.Refusal.{Refusal}
use Rattle.console_journal.specs.declared.answers.Refusal.TheVariants.{Full, Pruned as RefusedPruned, NoMemory}

-- a journal: its value with its space rule, its first overrun, and how many stores its power lasts
pub record Value : Type 0 where
  pub disk : Disk
  pub overrun : Option Past
  pub power : Option ℕ

-- what is answered to a change that the journal answered so
abbrev pub told : Answer → Result (Unit {0}) Stop → Result Answer Refusal
told a (Ok u) = Ok a
told a (Err NoRoom) = Err Full
told a (Err BelowBound) = Err RefusedPruned
told a (Err Off) = Ok WentOff

-- what is answered to a reading that the journal answered so, where these records are in it
abbrev pub Shown : Result (Unit {0}) ReadStop → List Placed → Result Answer Refusal → Type 0
Shown (Ok u) xs r = r ≡ Err NoMemory ⊎ ((l : String Global) × (r ≡ Ok (Read l (length xs))) × (string_bytes l ≡ lines xs))
Shown (Err (Overran x)) xs r = r ≡ Err NoMemory ⊎ ((l : String Global) × (r ≡ Ok (Overrun l x)) × (string_bytes l ≡ lines (up_to (Some x) xs)))
Shown (Err Crammed) xs r = r ≡ Err Full
Shown (Err Dark) xs r = r ≡ Ok WentOff

-- an operation that takes n stores: what the journal answered is told, and the value, the overrun and the power are as the journal promises; reading
-- takes no store, so it comes to an end or to an overrun
abbrev pub Did : Op → ℕ → Value → Result Answer Refusal → Value → Type 0
Did (append s b) n v r w = (t : Result (Unit {0}) Stop) × (r ≡ told Appended t) × Appends v.disk s b t w.disk × Steady t v.overrun w.overrun × Powered n t v.power w.power
Did (sync s) n v r w = (t : Result (Unit {0}) Stop) × (r ≡ told Synced t) × Syncs v.disk s t w.disk × Steady t v.overrun w.overrun × Powered n t v.power w.power
Did sync_all n v r w = (t : Result (Unit {0}) Stop) × (r ≡ told SyncedAll t) × AllSynced v.disk t w.disk × Steady t v.overrun w.overrun × Powered n t v.power w.power
Did (prune s) n v r w = (t : Result (Unit {0}) Stop) × (r ≡ told Pruned t) × Pruning v.disk s t w.disk × Clean v.overrun w.overrun × Powered n t v.power w.power
Did read n v r w = (t : Result (Unit {0}) ReadStop) × Shown t (reading w.disk.log.sections) r × Reading v.disk v.overrun t w.disk w.overrun × Told t × (w.power ≡ v.power)
Did cut n v r w = (r ≡ Ok Cut) × CutOff 0 v.disk.log w.disk.log × Clean v.overrun w.overrun × (w.power ≡ v.power)
