-- What is wrong with a list of epochs: the first fault, in the order of the list. Assumes nothing.
use Rattle.std.specs.Prelude.{ℕ, suc, Bool, cond, not, List, [], ◌∷◌, is_some, Some, None, Option, Ok, Err, Result, ◌==◌, nat_lt}
use Rattle.std.specs.Str.{bytes_eq}
use Rattle.types.specs.Numbers.{Participant}
use Rattle.table.specs.Keys.{lower}
use Rattle.provider.specs.Answers.{Bytes}
use Rattle.trial.specs.declared.epoch_set.EpochSet.{EpochSet}
use Rattle.trial.specs.declared.fault.Fault.{Fault}
use Rattle.trial.specs.declared.fault.Fault.TheVariants.{FewKeys, ManyKeys, EqualKeys, UnsortedKeys, OwnSigner, EpochTwice, EpochBack}
use Rattle.trial.specs.declared.fault.ListFault.{ListFault}
use Rattle.trial.specs.Sets.{keys_in, count_of}

-- the first of two, if there is one
abbrev pub or_else : {A : Type 0} → Option A → Option A → Option A
or_else None o = o
or_else (Some x) o = Some x

-- what a check of something with this fault answers, or with none
abbrev pub checked : {A : Type 0} → Option A → Result (Unit {0}) A
checked None = Ok tt
checked (Some x) = Err x

-- a set has 2 to 16 keys
abbrev pub size_fault : ℕ → Option Fault
size_fault n = cond (nat_lt n 2) (Some FewKeys) (cond (nat_lt 16 n) (Some ManyKeys) None)

-- the key k at place i is above the key p before it
abbrev pub neighbour_fault : ℕ → Bytes → Bytes → Option Fault
neighbour_fault i p k = cond (bytes_eq p k) (Some (EqualKeys i)) (cond (lower p k) None (Some (UnsortedKeys i)))

-- each key from place i on is above the one before it, the first above p
abbrev pub key_faults : ℕ → Bytes → List Bytes → Option Fault
key_faults i p [] = None
key_faults i p (k ∷ ks) = or_else (neighbour_fault i p k) (key_faults (suc i) k ks)

abbrev pub keys_fault : List Bytes → Option Fault
keys_fault [] = None
keys_fault (k ∷ ks) = key_faults 1 k ks

-- the own signer is below the number of keys
abbrev pub own_fault : ℕ → Option Participant → Option Fault
own_fault n None = None
own_fault n (Some p) = cond (nat_lt p.0 n) None (Some OwnSigner)

abbrev pub set_fault : EpochSet → Option Fault
set_fault s = or_else (size_fault (count_of s)) (or_else (keys_fault (keys_in s)) (own_fault (count_of s) s.me))

-- an epoch is above the one before it
abbrev pub epoch_fault : Option ℕ → ℕ → Option Fault
epoch_fault None e = None
epoch_fault (Some p) e = cond (p == e) (Some EpochTwice) (cond (nat_lt p e) None (Some EpochBack))

-- what is wrong with a set that stands after the epoch p, if there is one
abbrev pub fault_after : Option ℕ → EpochSet → Option Fault
fault_after p s = or_else (epoch_fault p s.epoch.0) (set_fault s)

-- a fault with its place
abbrev pub placed : ℕ → Option Fault → Option ListFault
placed i None = None
placed i (Some f) = Some (record { at = i; fault = f })

-- the first fault of the sets from place i on, which stand after the epoch p
abbrev pub faults_from : ℕ → Option ℕ → List EpochSet → Option ListFault
faults_from i p [] = None
faults_from i p (s ∷ ss) = or_else (placed i (fault_after p s)) (faults_from (suc i) (Some s.epoch.0) ss)

-- the first fault of a list
unfoldable pub list_fault : List EpochSet → Option ListFault
list_fault ss = faults_from 0 None ss

-- a list without a fault
abbrev pub sound : List EpochSet → Bool
sound ss = not (is_some (list_fault ss))
