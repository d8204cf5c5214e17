-- What each operation leaves, by cases on its answer. Assumes nothing.
use Rattle.std.proofs.Common.{◌≡◌, ℕ, ◌≤◌, max, Bool, true, false, List, None, Ok, Err, Option, Result, ap, ◌∙◌, subst, map, arith}
use Rattle.std.proofs.lemmas.Bool.{true≢false, false≢true}
use Rattle.std.specs.Result.{result_eq}
use Rattle.area.specs.Area.{Area}
use Rattle.areas.specs.Plan.{plan}
use Rattle.areas_reading.specs.Overruns.{overrun}
use Rattle.areas_writing.specs.Steps.{takes, Adding, cleared, Clearing}
use Rattle.journal.specs.Log.{Firmer, pruned}
use Rattle.journal.specs.Steps.{Appended, Pruning, Steady}
use Rattle.journal.specs.declared.stops.Stop.{Stop}
use Rattle.journal.specs.declared.stops.Stop.TheVariants.{Full, Pruned, Off}
use Rattle.byte_journal.specs.Value.{log_of, disk}
use Rattle.byte_journal.proofs.Logs.{grown-log, stayed_log, cleared-log, freed-log}
use Rattle.byte_journal.proofs.Steady.{grown_steady, stayed_steady, freed_clean}

-- an append, where the power went
pub dark_step : (bs cs : List ℕ) (bound s : ℕ) (b : List ℕ) (p q : Option ℕ) (r : Result (Unit {0}) Stop) (u : Unit {0} → Unit {0} → Bool) (e : Stop → Stop → Bool) → e Full Off ≡ false → true ≡ result_eq u e r (Err Off) → bound ≤ s → Adding bs p s b r cs q →
    Appended (disk bound bs) s b r (disk 0 cs)
unfolding takes
dark_step bs cs bound s b p q (Ok x) u e f t h w = absurd (true≢false t)
dark_step bs cs bound s b p q (Err Full) u e f t h w = absurd (true≢false (t ∙ f))
dark_step bs cs bound s b p q (Err Pruned) u e f t h w = absurd w
dark_step bs cs bound s b p q (Err Off) u e f t h w = (h, w.0, stayed_log bound s b bs (plan cs) w.1)

-- where it did not
pub lit_step : (bs cs : List ℕ) (bound s : ℕ) (b : List ℕ) (p q : Option ℕ) (r : Result (Unit {0}) Stop) (u : Unit {0} → Unit {0} → Bool) (e : Stop → Stop → Bool) → e Off Off ≡ true → false ≡ result_eq u e r (Err Off) → bound ≤ s → Adding bs p s b r cs q →
    Appended (disk bound bs) s b r (disk bound cs)
unfolding takes
lit_step bs cs bound s b p q (Ok x) u e f t h w = (h, w.0, grown-log bound s b (plan bs) (plan cs) w.1)
lit_step bs cs bound s b p q (Err Full) u e f t h w = (h, w.0, ap (disk bound) w.1)
lit_step bs cs bound s b p q (Err Pruned) u e f t h w = absurd w
lit_step bs cs bound s b p q (Err Off) u e f t h w = absurd (false≢true (t ∙ f))

pub adding_over : (bs cs : List ℕ) (s : ℕ) (b : List ℕ) (p q : Option ℕ) (r : Result (Unit {0}) Stop) → Adding bs p s b r cs q → Steady r (overrun (plan bs)) (overrun (plan cs))
adding_over bs cs s b p q (Ok x) w = grown_steady s b (plan bs) (plan cs) w.1
adding_over bs cs s b p q (Err Full) w = ap (λ ds. overrun (plan ds)) w.1
adding_over bs cs s b p q (Err Pruned) w = absurd w
adding_over bs cs s b p q (Err Off) w = λ z. stayed_steady s (plan bs) (plan cs) w.1 ∙ z

-- a prune that stopped
pub stopped_step : (bs cs : List ℕ) (bound s : ℕ) (p q : Option ℕ) (e : Stop) → Clearing bs p s (Err e) cs q → Pruning (disk bound bs) s (Err e) (disk 0 cs)
stopped_step bs cs bound s p q Full w = w
stopped_step bs cs bound s p q Pruned w = w
stopped_step bs cs bound s p q Off w = freed-log bound s w.0.0 bs (plan cs) w.0.1

pub stopped_over : (bs cs : List ℕ) (s : ℕ) (p q : Option ℕ) (e : Stop) → Clearing bs p s (Err e) cs q → overrun (plan bs) ≡ None → overrun (plan cs) ≡ None
stopped_over bs cs s p q Full w z = absurd w
stopped_over bs cs s p q Pruned w z = absurd w
stopped_over bs cs s p q Off w z = freed_clean w.0.0 s (plan bs) (plan cs) w.0.1 z

-- and one that did not
pub cleared_step : (bs cs : List ℕ) (bound b s : ℕ) (os : List (Option Area)) → b ≡ max bound s → plan cs ≡ map (cleared s) os → Firmer (pruned s (log_of bound os)) (log_of b (plan cs))
cleared_step bs cs bound b s os e w =
    let m : max s bound ≡ b = omega (arith, e) in
    subst (λ (n : ℕ). Firmer (pruned s (log_of bound os)) (log_of n (plan cs))) m (cleared-log bound s os (plan cs) w)
