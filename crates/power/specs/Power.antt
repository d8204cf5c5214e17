-- How many stores the power still lasts; `None` is no limit. Assumes nothing.
use Rattle.std.specs.Prelude.{◌≡◌, ℕ, ◌-◌, min, Bool, true, false, Some, None, Ok, Err, Option, Result, nat_le}
use Rattle.journal.specs.declared.stops.Stop.{Stop}
use Rattle.journal.specs.declared.stops.Stop.TheVariants.{Full, Pruned, Off}

-- whether the power lasts for n stores
abbrev pub lasts : ℕ → Option ℕ → Bool
lasts n None = true
lasts n (Some left) = nat_le n left

-- the power after n stores, or after as many as it lasts
abbrev pub spent : ℕ → Option ℕ → Option ℕ
spent n None = None
spent n (Some left) = Some (left - n)

-- how many of n stores the power lasts for
abbrev pub made : ℕ → Option ℕ → ℕ
made n None = n
made n (Some left) = min n left

-- the answer of stores for which the power lasted, or did not
abbrev pub lit : Bool → Result (Unit {0}) Stop
lit true = Ok tt
lit false = Err Off

-- n stores, for all of which the power lasted, or did not, and what is left of it
abbrev pub Took : ℕ → Bool → Option ℕ → Option ℕ → Type 0
Took n all p q = (lasts n p ≡ all) × (q ≡ spent n p)

-- an operation of n stores: a refusal takes none, and the power went exactly where it does not last for them
abbrev pub Powered : ℕ → Result (Unit {0}) Stop → Option ℕ → Option ℕ → Type 0
Powered n (Ok _) p q = Took n true p q
Powered n (Err Full) p q = q ≡ p
Powered n (Err Pruned) p q = q ≡ p
Powered n (Err Off) p q = Took n false p q
