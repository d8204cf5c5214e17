-- A command that one of the later parts takes, where those before it know no such command.
use Rattle.std.proofs.Common.{◌≡◌, ℕ, List, Some, None, Ok, Err, Option, Result, IsErr, IsErrAnd, refl, sym, ap, subst, arith}
use Rattle.console_forms.specs.Reading.{Said as FormsSaid, Answers}
use Rattle.console_forms.specs.declared.answers.Answer.{Answer as FormsAnswer}
use Rattle.console_forms.specs.declared.refusals.Refusal.{Refusal as FormsRefusal}
use Rattle.console_journal.specs.Held.{Held as Journal}
use Rattle.console_provider.specs.Doing.{after as trial_after, Taken as ProvidersTaken}
use Rattle.console_provider.specs.Trials.{Held}
use Rattle.console_provider.specs.declared.answers.Answer.{Answer as ProvidersAnswer}
use Rattle.console_provider.specs.declared.answers.Refusal.{Refusal as ProvidersRefusal}
use Rattle.fields.specs.Results.{result_map}
use Rattle.journal_commands.specs.Reading.{Said as JournalsSaid}
use Rattle.journal_commands.specs.declared.faults.Fault.{Fault as JournalsFault}
use Rattle.provider_commands.specs.Reading.{Said as ProvidersSaid}
use Rattle.provider_commands.specs.declared.faults.Fault.{Fault as ProvidersFault}
use Rattle.tip_commands.specs.Order.{Seats}
use Rattle.tip_commands.specs.Reading.{Said as TipsSaid}
use Rattle.console.specs.Heard.{Heard, taken_by, after, Replied, Journaled}
use Rattle.console.specs.States.{State}
use Rattle.console.specs.declared.answers.Answer.{Answer}
use Rattle.console.specs.declared.answers.Answer.TheVariants.{Forms, Providers}
use Rattle.console.specs.declared.refusals.Refused.{Refused}
use Rattle.console.specs.declared.refusals.Refused.TheVariants.{Forms as FormsRefused, Providers as ProvidersRefused}

-- the reply of the console where a part answers r
abbrev pub replied : {A E : Type 0} → (A → Answer) → (E → Refused) → Result A E → Result (Option Answer) Refused
replied answers refuses (Ok a) = Ok (Some (answers a))
replied answers refuses (Err e) = Err (refuses e)

-- the parts hold what they should, and the reply is the one that is meant
pub record Done (h : Heard) (r : Result (Option Answer) Refused) (old new : State) (o p : Option Journal) : Type 0 where
  pub state : new ≡ after h r old
  pub reply : Replied h old new r
  pub journal : Journaled h o p r

abbrev Forms_said : Type 0
Forms_said = Option (Result FormsSaid FormsRefusal)

abbrev Providers_said : Type 0
Providers_said = Option (Result ProvidersSaid ProvidersFault)

abbrev Journals_said : Type 0
Journals_said = Option (Result JournalsSaid JournalsFault)

-- the forms' part takes it
forms_known : (name : List ℕ) (m : Forms_said) (p : Providers_said) (j : Journals_said) (r : Result FormsAnswer FormsRefusal) (t : State) (o : Option Journal) → Answers (Some r) m
    → Done (taken_by name None m p j) (replied Forms FormsRefused r) t t o o
forms_known name None p j r t o h = absurd h
forms_known name (Some meant) p j (Ok a) t o h = record { state = refl; reply = h; journal = refl }
forms_known name (Some meant) p j (Err e) t o h = record { state = refl; reply = h; journal = refl }

pub forms_taken : (name : List ℕ) (s : Option TipsSaid) (m : Forms_said) (p : Providers_said) (j : Journals_said) (r : Result FormsAnswer FormsRefusal) (t : State) (o : Option Journal)
    → None ≡ s → Answers (Some r) m → Done (taken_by name s m p j) (replied Forms FormsRefused r) t t o o
forms_taken name s m p j r t o e h = subst (λ (x : Option TipsSaid). Done (taken_by name x m p j) (replied Forms FormsRefused r) t t o o) e (forms_known name m p j r t o h)

-- the providers' part takes it
abbrev state : Seats → Held → State
state seats trial = record { seats = seats; trial = trial }

providers_known : (name : List ℕ) (m : Providers_said) (j : Journals_said) (r : Result ProvidersAnswer ProvidersRefusal) (seats : Seats) (old new : Held) (o : Option Journal)
    → new ≡ trial_after m (Some r) old → ProvidersTaken m old (Some r) → Done (taken_by name None None m j) (replied Providers ProvidersRefused r) (state seats old) (state seats new) o o
providers_known name None j r seats old new o e h = grind arith
providers_known name (Some (Ok s)) j (Ok a) seats old new o e h = record { state = ap (state seats) e; reply = h; journal = refl }
providers_known name (Some (Ok s)) j (Err x) seats old new o e h = record { state = ap (state seats) e; reply = h; journal = refl }
providers_known name (Some (Err f)) j (Ok a) seats old new o e h = record { state = ap (state seats) e; reply = h; journal = refl }
providers_known name (Some (Err f)) j (Err x) seats old new o e h = record { state = ap (state seats) e; reply = h; journal = refl }

pub providers_taken : (name : List ℕ) (s : Option TipsSaid) (f : Forms_said) (m : Providers_said) (j : Journals_said) (r : Result ProvidersAnswer ProvidersRefusal)
    (seats : Seats) (old new : Held) (o : Option Journal) → None ≡ s → None ≡ f → new ≡ trial_after m (Some r) old → ProvidersTaken m old (Some r)
    → Done (taken_by name s f m j) (replied Providers ProvidersRefused r) (state seats old) (state seats new) o o
providers_taken name s f m j r seats old new o es ef e h =
    subst (λ (x : Option TipsSaid). Done (taken_by name x f m j) (replied Providers ProvidersRefused r) (state seats old) (state seats new) o o) es
    (subst (λ (x : Forms_said). Done (taken_by name None x m j) (replied Providers ProvidersRefused r) (state seats old) (state seats new) o o) ef
    (providers_known name m j r seats old new o e h))

-- a refusal of a part is one of the console
pub refused : {E : Type 0} (refuses : E → Refused) (e : E) (r : Result Answer Refused) → IsErr r × IsErrAnd r (λ x. x ≡ refuses e) → Err (refuses e) ≡ result_map (λ a. Some a) r
refused refuses e (Ok a) h = absurd h.1
refused refuses e (Err x) h = sym (ap (λ y. Err y) h.1)
