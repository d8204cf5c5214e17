-- Stores one part after another. Assumes nothing.
use Rattle.std.proofs.Common.{◌≡◌, ℕ, ◌+◌, ◌≤◌, List, Ok, Err, true, Option, Result, ◌∙◌, arith}
use Rattle.journal.specs.declared.stops.Stop.{Stop}
use Rattle.journal.specs.declared.stops.Stop.TheVariants.{Full, Pruned, Off}
use Rattle.power.specs.Power.{Took}
use Rattle.power.proofs.Power.{took_both, took-second}
use Rattle.area.specs.Edits.{Kept}
use Rattle.area.specs.Writes.{Stored}
use Rattle.area.proofs.Puts.{kept_less, kept_then}

-- n stores that stopped, after m stores that were made, are a part of more stores, which stop there, too
pub stopped_then : (m n t low place : ℕ) (old mid fin whole new : List ℕ) (p q u : Option ℕ) (s : Stop) → m + n ≤ t → Took m true p q → Kept low old mid → low ≤ place → Stored n place mid fin q (Err s) new u → Stored t low old whole p (Err s) new u
stopped_then m n t low place old mid fin whole new p q u Full e a k l w = w
stopped_then m n t low place old mid fin whole new p q u Pruned e a k l w = w
stopped_then m n t low place old mid fin whole new p q u Off e a k l w =
    (took-second m n t p q u e a w.0, kept_then low old mid new k (kept_less place low mid new l w.1))

-- m stores that were made, and n stores after them, are m + n stores
pub stored_then : (m n t low place : ℕ) (old mid fin whole new : List ℕ) (p q u : Option ℕ) (r : Result (Unit {0}) Stop) → t ≡ m + n → Took m true p q → Kept low old mid → low ≤ place → fin ≡ whole → Stored n place mid fin q r new u → Stored t low old whole p r new u
stored_then m n t low place old mid fin whole new p q u (Ok x) e a k l z w = (took_both m n t p q u e a w.0, w.1 ∙ z)
stored_then m n t low place old mid fin whole new p q u (Err s) e a k l z w =
    stopped_then m n t low place old mid fin whole new p q u s (omega arith) a k l w
