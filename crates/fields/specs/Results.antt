-- Steps that a fault ends, and answers that memory may cut short. Assumes nothing.
use Rattle.std.specs.Prelude.{◌≡◌, Bool, true, false, Ok, Err, Result}
use Rattle.fields.specs.declared.faults.Fault.{Fault}
use Rattle.fields.specs.declared.faults.Fault.TheVariants.{NoMemory}

-- the second step, if the first gave a value
abbrev pub and_then : {A B E : Type 0} → Result A E → (A → Result B E) → Result B E
and_then (Ok a) f = f a
and_then (Err e) f = Err e

-- the value, if there is one, read by f
abbrev pub result_map : {A B E : Type 0} → (A → B) → Result A E → Result B E
result_map f (Ok a) = Ok (f a)
result_map f (Err e) = Err e

-- the answer is the one that is meant, or an error that says that no memory is left
abbrev pub OrNoMemory : {A E : Type 0} → (E → Bool) → Result A E → Result A E → Type 0
OrNoMemory says (Ok a) meant = Ok a ≡ meant
OrNoMemory says (Err e) meant = says e ≡ false → Err e ≡ meant

-- the fault that says so
abbrev pub no_memory : Fault → Bool
no_memory NoMemory = true
no_memory fault = false
