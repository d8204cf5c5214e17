-- What a command does to a trial, and what is answered. Assumes nothing.
use Rattle.std.specs.Prelude.{◌≡◌, ℕ, Bool, false, cond, List, [], ◌∷◌, ◌++◌, length, map, Some, None, Option, Ok, Err, Result}
use Rattle.bitmaps.specs.declared.rejection.Rejection.{Rejection}
use Rattle.fields.specs.Results.{result_map, OrNoMemory}
use Rattle.listed.specs.Listing.{listing}
use Rattle.mapped.specs.Bodies.{Meaning}
use Rattle.mapped.specs.Mapping.{mapped, rejected as rejection}
use Rattle.pooled.specs.Pooling.{pooling}
use Rattle.provider.specs.Answers.{Bytes}
use Rattle.provider_commands.specs.Reading as reading
use Rattle.provider_commands.specs.Reading.{Said, begins, adds, asks, Query, signs, accepts, assembles, judges}
use Rattle.provider_commands.specs.Sets.{Signers, shown}
use Rattle.provider_commands.specs.declared.commands.Kind.{Kind}
use Rattle.provider_commands.specs.declared.commands.Kind.TheVariants.{Listed, Pooled}
use Rattle.provider_commands.specs.declared.faults.Fault.{Fault}
use Rattle.tips.specs.Faults.{faults, quorum}
use Rattle.trial.specs.declared.epoch_set.EpochSet.{EpochSet}
use Rattle.trial.specs.declared.fault.ListFault.{ListFault}
use Rattle.trial.specs.Faults.{list_fault}
use Rattle.types.specs.Numbers.{epoch}
use Rattle.console_provider.specs.declared.answers.Answer.{Answer}
use Rattle.console_provider.specs.declared.answers.Refusal.{Refusal}
use Rattle.console_provider.specs.declared.answers.Refusal.TheVariants.{Words, Signers as Faulty, UnknownEpoch, NoOwnSigner, AssemblyFailed}
use Rattle.console_provider.specs.Told.{Told, chosen, known, signed, accepted, rejected, assembled, against, told}
use Rattle.console_provider.specs.Trials.{Held}

-- the refusal says that no memory is left
abbrev pub out_of_memory : Refusal → Bool
out_of_memory (Words e) = reading.out_of_memory e
out_of_memory refusal = false

-- what stands behind the map in the certificates of a provider
abbrev pub body_of : Kind → Meaning
body_of Listed = listing
body_of Pooled = pooling

abbrev pub signature_or : ℕ → Option Bytes → Result Told Refusal
signature_or e None = Err (NoOwnSigner (epoch e))
signature_or e (Some s) = Ok (signed s)

abbrev pub certificate_or : Option Bytes → Result Told Refusal
certificate_or None = Err AssemblyFailed
certificate_or (Some c) = Ok (assembled c)

abbrev pub judged : Option Rejection → Told
judged None = accepted
judged (Some r) = against r

-- what a provider over these epochs replies to a question about one of them: its own answers
abbrev pub replied : Meaning → List EpochSet → ℕ → Query → Result Told Refusal
replied m ss e (signs h d) = signature_or e ((mapped m ss).signing.sign e h d)
replied m ss e (accepts i h d s) = Ok (cond ((mapped m ss).verifying.accepts e i h d s) accepted rejected)
replied m ss e (assembles qs) = certificate_or ((mapped m ss).signing.assemble e qs)
replied m ss e (judges h d c) = Ok (judged (rejection m ss e h d c))

-- where the epoch is known
abbrev pub where_known : {A : Type 0} → ℕ → Option A → Result Told Refusal → Result Told Refusal
where_known e None r = Err (UnknownEpoch (epoch e))
where_known e (Some ks) r = r

abbrev pub reply : Meaning → List EpochSet → ℕ → Query → Result Told Refusal
reply m ss e q = where_known e ((mapped m ss).verifying.keys e) (replied m ss e q)

-- the signers of an epoch are added where the list has no fault
abbrev pub added : Signers → Option ListFault → Result Told Refusal
added s None = Ok (known s.epoch (length s.keys) (faults (length s.keys)) (quorum (length s.keys)) s.own)
added s (Some f) = Err (Faulty f.fault)

-- the epochs that a command is about: those held, and behind them the one that it adds
abbrev pub about : Said → List Signers → List Signers
about (begins k) sets = sets
about (adds s) sets = sets ++ s ∷ []
about (asks e q) sets = sets

-- the answer to a command that is about these epochs
abbrev pub answer : Said → Kind → List EpochSet → Result Told Refusal
answer (begins k) kind ss = Ok (chosen k)
answer (adds s) kind ss = added s (list_fault ss)
answer (asks e q) kind ss = reply (body_of kind) ss e q

-- a trial after a command that is not refused
abbrev pub next : Said → Held → Held
next (begins k) t = record { kind = k; sets = [] }
next (adds s) t = record { kind = t.kind; sets = t.sets ++ s ∷ [] }
next (asks e q) t = t

-- what is answered to a command, over any list that has the epochs: where their keys lie does not matter
abbrev pub Answered : Said → Held → Result Answer Refusal → Type 0
Answered s t r = (ss : List EpochSet) → map shown ss ≡ about s t.sets → OrNoMemory out_of_memory (result_map told r) (answer s t.kind ss)

-- what is answered to a line: nothing where its first word is no command of this part, a fault of its words, or the answer to its command
abbrev pub Taken : Option (Result Said Fault) → Held → Option (Result Answer Refusal) → Type 0
Taken None t r = r ≡ None
Taken (Some (Ok s)) t (Some r) = Answered s t r
Taken (Some (Err fault)) t (Some r) = OrNoMemory out_of_memory (result_map told r) (Err (Words fault))
Taken meant t None = ⊥

-- a trial after a line; what is refused changes nothing
abbrev pub after : Option (Result Said Fault) → Option (Result Answer Refusal) → Held → Held
after (Some (Ok s)) (Some (Ok a)) t = next s t
after meant r t = t
