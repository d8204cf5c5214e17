-- What is read of a line, and what is answered to it.
use Rattle.std.proofs.Common.{◌≡◌, Option, Some, None, Ok, Err, Result, is_ok, if◌then◌else◌, refl, arith}
use Rattle.provider_commands.specs.Reading.{Said, said, Reads}
use Rattle.provider_commands.specs.declared.commands.Command.{Command}
use Rattle.provider_commands.specs.declared.faults.Fault.{Fault}
use Rattle.console_provider.specs.declared.answers.Answer.{Answer}
use Rattle.console_provider.specs.declared.answers.Refusal.{Refusal}
use Rattle.console_provider.specs.declared.answers.Refusal.TheVariants.{Words}
use Rattle.console_provider.specs.Doing.{next, after, Taken}
use Rattle.console_provider.specs.Trials.{Held}

-- a command that was read is what the line says
pub read_said : (meant : Option (Result Said Fault)) (r : Result Command Fault) (k : Command) → r ≡ Ok k → Reads (Some r) meant → meant ≡ Some (Ok (said k))
read_said None r k is reads = absurd reads
read_said (Some m) r k is reads = let e = rw is at reads in grind arith

-- a trial after a command is the one after its line
pub after_said : (s : Said) (t : Held) (r : Result Answer Refusal) → (if is_ok r then next s t else t) ≡ after (Some (Ok s)) (Some r) t
after_said s t (Ok a) = refl
after_said s t (Err e) = refl

-- after a line that is refused it is the same
pub after_refused : (meant : Option (Result Said Fault)) (t : Held) (e : Refusal) → t ≡ after meant (Some (Err e)) t
after_refused None t e = refl
after_refused (Some (Ok s)) t e = refl
after_refused (Some (Err f)) t e = refl

-- a fault that was read is the answer
pub taken_fault : (meant : Option (Result Said Fault)) (r : Result Command Fault) (f : Fault) (t : Held) → r ≡ Err f → Reads (Some r) meant → Taken meant t (Some (Err (Words f)))
taken_fault None r f t is reads = absurd reads
taken_fault (Some (Ok s)) r f t is reads = λ ss same known. let e = (rw is at reads) known in grind arith
taken_fault (Some (Err g)) r f t is reads = λ known. let e = (rw is at reads) known in grind arith
