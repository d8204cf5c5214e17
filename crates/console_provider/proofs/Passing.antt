-- What a check of a list says of an answer.
use Rattle.std.proofs.Common.{◌≡◌, true, not, is_some, Option, Some, None, Ok, Err, Result, refl, subst, arith}
use Rattle.std.proofs.lemmas.Bool.{false≢true}
use Rattle.std.specs.Result.{IsErrAnd}
use Rattle.fields.specs.Results.{result_map, OrNoMemory}
use Rattle.provider_commands.specs.Sets.{Signers}
use Rattle.trial.specs.declared.fault.ListFault.{ListFault}
use Rattle.trial.specs.Faults.{checked}
use Rattle.console_provider.specs.declared.answers.Answer.{Answer}
use Rattle.console_provider.specs.declared.answers.Refusal.{Refusal}
use Rattle.console_provider.specs.declared.answers.Refusal.TheVariants.{Signers as Faulty}
use Rattle.console_provider.specs.Doing.{added, out_of_memory}
use Rattle.console_provider.specs.Lending.{passed}
use Rattle.console_provider.specs.Told.{Told, told}

pub faultless : (o : Option ListFault) → not (is_some o) ≡ true → o ≡ None
faultless None s = refl
faultless (Some f) s = absurd (false≢true s)

-- a list that a check takes has no fault
pub check_none : (o : Option ListFault) → Ok tt ≡ checked o → o ≡ None
check_none None h = refl
check_none (Some f) h = grind arith

-- nor has one that passed
pub passed_none : (o : Option ListFault) → OrNoMemory out_of_memory (Ok tt) (passed o) → o ≡ None
passed_none None h = refl
passed_none (Some f) h = grind arith

-- a list that did not pass is refused for its fault
pub not_passed : (r : Result (Unit {0}) Refusal) (f : ListFault) (o : Option ListFault) → IsErrAnd r (λ e. e ≡ Faulty f.fault) → Err f ≡ checked o → OrNoMemory out_of_memory r (passed o)
not_passed (Ok u) f o refused h = absurd refused
not_passed (Err e) f None refused h = grind arith
not_passed (Err e) f (Some g) refused h = λ known. grind arith

-- and so are the signers that it would have had
pub not_added : (s : Signers) (r : Result Answer Refusal) (e : Refusal) (o : Option ListFault) → IsErrAnd r (λ x. x ≡ e) → OrNoMemory {A = Unit {0}} out_of_memory (Err e) (passed o)
    → OrNoMemory out_of_memory (result_map told r) (added s o)
not_added s (Ok a) e o refused h = absurd refused
not_added s (Err x) e None refused h = λ known. let m = h (rw (← refused) known) in grind arith
not_added s (Err x) e (Some f) refused h = λ known. let m = h (rw (← refused) known) in grind arith

-- what is meant may be named otherwise
pub meant : (r : Result Answer Refusal) (m n : Result Told Refusal) → OrNoMemory out_of_memory (result_map told r) m → m ≡ n → OrNoMemory out_of_memory (result_map told r) n
meant r m n h same = subst (λ (x : Result Told Refusal). OrNoMemory out_of_memory (result_map told r) x) same h
