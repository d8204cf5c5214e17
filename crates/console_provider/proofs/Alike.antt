-- Epochs with the same signers are answered the same, wherever their keys lie.
use Rattle.std.proofs.Common.{◌≡◌, ℕ, suc, cond, ◌&&◌, List, [], ◌∷◌, length, map, ◌++◌, drop, Option, Some, None, Ok, Result, refl, sym, ap, ◌∙◌, arith, nat_lt}
use Rattle.std.proofs.lemmas.Grind.{common_steps}
use Rattle.std.proofs.lemmas.List.{map-append}
use Rattle.std.proofs.lemmas.Option.{none-some, same_Some}
use Rattle.std.specs.List.{slice_get}
use Rattle.std.specs.Option.{option_map}
use Rattle.std.specs.Str.{bytes_eq}
use Rattle.listed.specs.Judging.{each_accepted}
use Rattle.listed.specs.Listing.{listing}
use Rattle.mapped.specs.Bodies.{Meaning}
use Rattle.mapped.specs.Certificates.{assemble_for, assemble_in}
use Rattle.mapped.specs.Judging.{reject_for, reject_in}
use Rattle.pooled.specs.Judging.{summed}
use Rattle.pooled.specs.Pooling.{pooling}
use Rattle.provider.specs.Values.{key_bytes, number}
use Rattle.provider_commands.specs.Reading.{Query, signs, accepts, assembles, judges, Said, begins, adds, asks}
use Rattle.provider_commands.specs.Sets.{Signers, given, shown}
use Rattle.provider_commands.specs.declared.commands.Kind.{Kind}
use Rattle.provider_commands.specs.declared.commands.Kind.TheVariants.{Listed, Pooled}
use Rattle.provider_commands.specs.declared.commands.SignerSet.{SignerSet}
use Rattle.trial.specs.declared.epoch_set.EpochSet.{EpochSet}
use Rattle.trial.specs.declared.fault.Fault.{Fault}
use Rattle.trial.specs.declared.fault.Fault.TheVariants.{OwnSigner}
use Rattle.trial.specs.declared.fault.ListFault.{ListFault}
use Rattle.trial.specs.Faults.{or_else, size_fault, keys_fault, own_fault, epoch_fault, fault_after, placed, faults_from, list_fault}
use Rattle.trial.specs.Sets.{keys_of, count_of, set_at}
use Rattle.trial.specs.Trials.{tagged, keys_among, own_among, accepted_among, signed_by}
use Rattle.types.specs.Numbers.{Participant}
use Rattle.console_provider.specs.declared.answers.Refusal.{Refusal}
use Rattle.console_provider.specs.Doing.{added, answer, body_of, signature_or, certificate_or, judged, where_known, reply}
use Rattle.console_provider.specs.Lending.{lent}
use Rattle.console_provider.specs.Told.{Told, accepted, rejected}

same_head : {A : Type 0} (x y : A) (xs ys : List A) → ◌≡◌ {A = List A} (x ∷ xs) (y ∷ ys) → x ≡ y
same_head {A} x y xs ys e = same_Some x y (ap (λ (zs : List A). slice_get zs 0) e)

same_tail : {A : Type 0} (x y : A) (xs ys : List A) → ◌≡◌ {A = List A} (x ∷ xs) (y ∷ ys) → xs ≡ ys
same_tail {A} x y xs ys e = ap (λ (zs : List A). drop 1 zs) e

-- the set of an epoch has the same signers
found : (e : ℕ) (ss ts : List EpochSet) → map shown ss ≡ map shown ts → option_map shown (set_at e ss) ≡ option_map shown (set_at e ts)
found e [] [] same = refl
found e [] (t ∷ ts) same = grind arith
found e (s ∷ ss) [] same = grind arith
found e (s ∷ ss) (t ∷ ts) same =
    let head : shown s ≡ shown t = same_head (shown s) (shown t) (map shown ss) (map shown ts) same in
    let number : s.epoch.0 ≡ t.epoch.0 = ap (λ (x : Signers). x.epoch) head in
    let rest = found e ss ts (same_tail (shown s) (shown t) (map shown ss) (map shown ts) same) in
    grind (arith, common_steps)

-- a set has as many keys as signers
many : (s : EpochSet) → length (shown s).keys ≡ count_of s
many s = grind (arith, common_steps)

-- sets of the same signers have as many
as_many : (s t : EpochSet) → shown s ≡ shown t → count_of s ≡ count_of t
as_many s t same = sym (many s) ∙ ap (λ (x : Signers). length x.keys) same ∙ many t

-- what is replied of the set of an epoch
abbrev reply_of : Meaning → Option EpochSet → ℕ → Query → Result Told Refusal
reply_of m o e (signs h d) = where_known e (keys_among o) (signature_or e (signed_by (own_among o) h d))
reply_of m o e (accepts i h d s) = where_known e (keys_among o) (Ok (cond (accepted_among o i h d s) accepted rejected))
reply_of m o e (assembles qs) = where_known e (keys_among o) (certificate_or (assemble_in m.body o qs))
reply_of m o e (judges h d c) = where_known e (keys_among o) (Ok (judged (reject_in m.size (m.good o h d) o c)))

by_set : (m : Meaning) (ss : List EpochSet) (e : ℕ) (q : Query) → reply m ss e q ≡ reply_of m (set_at e ss) e q
by_set m ss e (signs h d) = refl
by_set m ss e (accepts i h d s) = refl
by_set m ss e (assembles qs) = refl
by_set m ss e (judges h d c) = refl

same_set : (k : Kind) (s t : EpochSet) (e : ℕ) (q : Query) → shown s ≡ shown t → reply_of (body_of k) (Some s) e q ≡ reply_of (body_of k) (Some t) e q
same_set k s t e (signs h d) same = ap (λ (o : Option ℕ). signature_or e (signed_by o h d)) (ap (λ (x : Signers). x.own) same)
same_set k s t e (accepts i h d sg) same =
    ap (λ (n : ℕ). Ok (cond (nat_lt i n && bytes_eq (tagged i h d) sg) accepted rejected)) (as_many s t same)
same_set k s t e (assembles qs) same = ap (λ (n : ℕ). certificate_or (assemble_for (body_of k).body n qs)) (as_many s t same)
same_set Listed s t e (judges h d c) same =
    ap (λ (n : ℕ). Ok (judged (reject_for listing.size (each_accepted (λ i sg. nat_lt i n && bytes_eq (tagged i h d) sg)) n c))) (as_many s t same)
same_set Pooled s t e (judges h d c) same = ap (λ (n : ℕ). Ok (judged (reject_for pooling.size (summed h d) n c))) (as_many s t same)

same_option : (k : Kind) (o p : Option EpochSet) (e : ℕ) (q : Query) → option_map shown o ≡ option_map shown p → reply_of (body_of k) o e q ≡ reply_of (body_of k) p e q
same_option k None None e q same = refl
same_option k None (Some t) e q same = absurd (none-some (shown t) same)
same_option k (Some s) None e q same = absurd (none-some (shown s) (sym same))
same_option k (Some s) (Some t) e q same = same_set k s t e q (same_Some (shown s) (shown t) same)

pub same_reply : (k : Kind) (ss ts : List EpochSet) (e : ℕ) (q : Query) → map shown ss ≡ map shown ts → reply (body_of k) ss e q ≡ reply (body_of k) ts e q
same_reply k ss ts e q same = by_set (body_of k) ss e q ∙ same_option k (set_at e ss) (set_at e ts) e q (found e ss ts same) ∙ sym (by_set (body_of k) ts e q)

-- whether an own signer is one of n, by its number
abbrev own_of : ℕ → Option ℕ → Option Fault
own_of n None = None
own_of n (Some p) = cond (nat_lt p n) None (Some OwnSigner)

by_own : (n : ℕ) (o : Option Participant) → own_fault n o ≡ own_of n (number o)
by_own n None = refl
by_own n (Some p) = refl

same_fault : (p : Option ℕ) (s t : EpochSet) → shown s ≡ shown t → fault_after p s ≡ fault_after p t
same_fault p s t same =
    ap (λ (o : Option Fault). or_else (epoch_fault p s.epoch.0) (or_else (size_fault (count_of s)) (or_else (keys_fault (key_bytes (keys_of s))) o))) (by_own (count_of s) s.me)
    ∙ ap (λ (n : ℕ). or_else (epoch_fault p s.epoch.0) (or_else (size_fault n) (or_else (keys_fault (key_bytes (keys_of s))) (own_of n (number s.me))))) (as_many s t same)
    ∙ ap (λ (x : Signers). or_else (epoch_fault p x.epoch) (or_else (size_fault (count_of t)) (or_else (keys_fault x.keys) (own_of (count_of t) x.own)))) same
    ∙ ap (λ (o : Option Fault). or_else (epoch_fault p t.epoch.0) (or_else (size_fault (count_of t)) (or_else (keys_fault (key_bytes (keys_of t))) o))) (sym (by_own (count_of t) t.me))

same_faults : (i : ℕ) (p : Option ℕ) (ss ts : List EpochSet) → map shown ss ≡ map shown ts → faults_from i p ss ≡ faults_from i p ts
same_faults i p [] [] same = refl
same_faults i p [] (t ∷ ts) same = grind arith
same_faults i p (s ∷ ss) [] same = grind arith
same_faults i p (s ∷ ss) (t ∷ ts) same =
    let head : shown s ≡ shown t = same_head (shown s) (shown t) (map shown ss) (map shown ts) same in
    let rest = same_faults (suc i) (Some t.epoch.0) ss ts (same_tail (shown s) (shown t) (map shown ss) (map shown ts) same) in
    ap (λ (f : Option Fault). or_else (placed i f) (faults_from (suc i) (Some s.epoch.0) ss)) (same_fault p s t head)
    ∙ ap (λ (x : Signers). or_else (placed i (fault_after p t)) (faults_from (suc i) (Some x.epoch) ss)) head
    ∙ ap (λ (f : Option ListFault). or_else (placed i (fault_after p t)) f) rest

pub same_list_fault : (ss ts : List EpochSet) → map shown ss ≡ map shown ts → list_fault ss ≡ list_fault ts
unfolding list_fault
same_list_fault ss ts same = same_faults 0 None ss ts same

-- sets that are lent have the signers that were given
pub lent_shown : (xs : List SignerSet) → map shown (map lent xs) ≡ map given xs
lent_shown [] = refl
lent_shown (x ∷ xs) = ap (λ (gs : List Signers). given x ∷ gs) (lent_shown xs)

-- and so has one more
pub shown_more : (ts : List EpochSet) (t : EpochSet) (xs : List SignerSet) (x : SignerSet) → map shown ts ≡ map given xs → shown t ≡ given x
    → map shown (ts ++ t ∷ []) ≡ map given (xs ++ x ∷ [])
shown_more ts t xs x all one =
    map-append shown ts (t ∷ []) ∙ ap (λ (gs : List Signers). gs ++ shown t ∷ []) all ∙ ap (λ (g : Signers). map given xs ++ g ∷ []) one
    ∙ sym (map-append given xs (x ∷ []))

-- a list with the signers of some sets and one more has the fault that those have once they are lent
pub fault_more : (ss : List EpochSet) (xs : List SignerSet) (x : SignerSet) → map shown ss ≡ map given xs ++ given x ∷ [] → list_fault (map lent (xs ++ x ∷ [])) ≡ list_fault ss
fault_more ss xs x same = same_list_fault (map lent (xs ++ x ∷ [])) ss (lent_shown (xs ++ x ∷ []) ∙ map-append given xs (x ∷ []) ∙ sym same)

pub same_answer : (s : Said) (k : Kind) (ss ts : List EpochSet) → map shown ss ≡ map shown ts → answer s k ss ≡ answer s k ts
same_answer (begins kind) k ss ts same = refl
same_answer (adds g) k ss ts same = ap (added g) (same_list_fault ss ts same)
same_answer (asks e q) k ss ts same = same_reply k ss ts e q same
