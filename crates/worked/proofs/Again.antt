-- The run in which a certificate is told on both sides of a power cut. Assumes nothing.
use Rattle.std.proofs.Common.{◌≡◌, ℕ, ◌<◌, Bool, true, false, cond, ◌&&◌, eqb, ltb, List, [], ◌∷◌, map, get_or, take, Some, None, All, sym, refl, ap, subst, inl, inr, arith}
use Rattle.std.specs.List.{AllByRecursion}
use Rattle.std.proofs.lemmas.List.Elements.{All-nil, All-cons}
use mathlib.Core.List.Memᴰ
use mathlib.Core.List.{Memᴰ}
use Rattle.forms.specs.Uint.{spell_by, spell, groups}
use Rattle.forms.specs.Values.{Cert, ack, certified, tip}
use Rattle.forms.specs.Writing.{write_ack, write, write_message}
use Rattle.forms.specs.Reading.{record_at, message_at}
use Rattle.journal.specs.Log.{empty, all_of, firm, firm_to, added, from, appended, synced, all_synced, synced_to, pruned, numbered, reading}
use Rattle.journal.specs.Cuts.{kept}
use Rattle.tags.specs.Tags.{turned, tag_of, signature_of}
use Rattle.tags.specs.Words.{word, eight_bytes}
use Rattle.std.proofs.lemmas.Bool.{and_parts, ltb-true}
use Rattle.trial.specs.Sets.{keys_in}
use Rattle.trial.specs.Trials.{keys_among, own_among}
use Rattle.trial.specs.Faults.{list_fault}
use Rattle.listed.specs.Certificates.{certificate_of}
use Rattle.listed.specs.Keeping.{keeps}
use Rattle.provider.specs.Answers.{Bytes}
use Rattle.provider.specs.Laws.{Lawful}
use Rattle.rules.specs.State.{shut}
use Rattle.rules.specs.Acts.{Act, tell, send, Space, off, whole}
use Rattle.rules.specs.Rules.{attested}
use Rattle.rules.specs.Plans.{Event, opening, epoch_change, message, taking, fetching, handing_back, cancelling, lodging, due, closing, ok, power_off}
use Rattle.rules.specs.Runs.{Sys, Run, start, Deed, called, cut}
use Rattle.rules.specs.Promises.{Happened, Accepted, Rising, OwnKey, NoneUnderOwnKey}
use Rattle.rules.specs.Played.{planned, played, new, logged}
use Rattle.rules.proofs.Played.{run-played, run-cut, after-cut}
use Rattle.worked.specs.Scene.{provider, key, signers, epochs, settings, digest, ack_by, opened, own_digest, heard_from}
use Rattle.worked.specs.Again.{ToldAgain}

lawful : Lawful provider
unfolding list_fault
lawful = keeps epochs refl

-- bytes that pass the test are bytes
abbrev are_bytes : List ℕ → Bool
are_bytes [] = true
are_bytes (b ∷ bs) = ltb b 256 && are_bytes bs

small : (bs : List ℕ) → are_bytes bs ≡ true → All (λ b. b < 256) bs
small [] e = All-nil (λ b. b < 256)
small (b ∷ bs) e = let q = and_parts (ltb b 256) (are_bytes bs) e in All-cons (λ b. b < 256) b bs (ltb-true b 256 q.0) (small bs q.1)

abbrev room : Space
room s n = true

abbrev x1 : Sys
x1 = played provider settings new opened

abbrev x2 : Sys
x2 = played provider settings x1 taking

abbrev x3 : Sys
x3 = played provider settings x2 own_digest

abbrev x4 : Sys
x4 = played provider settings x3 (heard_from 1)

-- what the call does before the power goes
abbrev cut_short : List Act
cut_short = take 6 (planned provider settings x4 (heard_from 2)).acts

abbrev x5 : Sys
x5 = record { engine = shut; log = after-cut (appended 1 (write (tip 1)) (logged cut_short x4.log)) }

abbrev x6 : Sys
x6 = played provider settings x5 opened

abbrev the_cert : Cert
the_cert = record { height = 0; digest = digest; bytes = certificate_of (map attested (ack_by 0 ∷ ack_by 1 ∷ ack_by 2 ∷ [])) }

abbrev done : Sys → Event → Deed
done x e = called whole e (planned provider settings x e).answer (planned provider settings x e).acts

abbrev deeds : List Deed
deeds = done x3 (heard_from 1) ∷ done x2 own_digest ∷ done x1 taking ∷ done new opened ∷ []

r4 : Run provider settings x4 deeds
unfolding spell_by spell groups write_ack write write_message record_at message_at empty all_of firm firm_to added from appended synced all_synced synced_to pruned numbered reading turned tag_of signature_of word eight_bytes
r4 =
    run-played (run-played (run-played (run-played start room opened (omega arith) tt refl) room taking tt tt refl) room own_digest refl (Memᴰ.head refl) refl)
    room (heard_from 1) (refl, small (write_message (record { tip = 0; ack = ack_by 1 })) refl) tt refl

r5 : Run provider settings x5 (called off (heard_from 2) power_off cut_short ∷ deeds)
unfolding spell_by spell groups write_ack write write_message record_at message_at empty all_of firm firm_to added from appended synced all_synced synced_to pruned numbered reading turned tag_of signature_of word eight_bytes
r5 = run-cut r4 room (heard_from 2) (refl, small (write_message (record { tip = 0; ack = ack_by 2 })) refl) tt 6 1 (tip 1) _ refl refl refl

abbrev told-after : List Act
told-after = (planned provider settings x5 opened).acts

r6 : Run provider settings x6 (called whole opened ok told-after ∷ called off (heard_from 2) power_off cut_short ∷ deeds)
unfolding spell_by spell groups write_ack write write_message record_at message_at empty all_of firm firm_to added from appended synced all_synced synced_to pruned numbered reading kept turned tag_of signature_of word eight_bytes
r6 = run-played r5 room opened (omega arith) tt refl

first-told : Memᴰ (tell (certified the_cert)) cut_short
unfolding spell_by spell groups write_ack write write_message record_at message_at empty all_of firm firm_to added from appended synced all_synced synced_to pruned numbered reading turned tag_of signature_of word eight_bytes
first-told = Memᴰ.tail (Memᴰ.tail (Memᴰ.tail (Memᴰ.tail (Memᴰ.head refl))))

told-again : Memᴰ (tell (certified the_cert)) told-after
unfolding spell_by spell groups write_ack write write_message record_at message_at empty all_of firm firm_to added from appended synced all_synced synced_to pruned numbered reading kept turned tag_of signature_of word eight_bytes
told-again = Memᴰ.tail (Memᴰ.tail (Memᴰ.head refl))

own-told : Memᴰ (tell (ack (ack_by 0))) told-after
unfolding spell_by spell groups write_ack write write_message record_at message_at empty all_of firm firm_to added from appended synced all_synced synced_to pruned numbered reading kept turned tag_of signature_of word eight_bytes
own-told = Memᴰ.tail (Memᴰ.head refl)

own-sent : Happened (send 0 (ack_by 0)) deeds
unfolding spell_by spell groups write_ack write write_message record_at message_at empty all_of firm firm_to added from appended synced all_synced synced_to pruned numbered reading turned tag_of signature_of word eight_bytes
own-sent = Memᴰ.tail (Memᴰ.tail (Memᴰ.tail (Memᴰ.tail (Memᴰ.tail (Memᴰ.tail (Memᴰ.head refl))))))

all-mem : {X : Type 0} (P : X → Type 0) (xs : List X) (x : X) → AllByRecursion P xs → Memᴰ x xs → P x
all-mem P [] x l m = absurd (Memᴰ.not-nil m)
all-mem P (y ∷ ys) x (k, l) (Memᴰ.head e) = subst P (sym e) k
all-mem P (y ∷ ys) x (k, l) (Memᴰ.tail m) = all-mem P ys x l m

-- no other epoch than 0, and no message under an own key
abbrev Plain : Event → Type 0
Plain (opening e now room) = e ≡ 0
Plain (epoch_change e now) = e ≡ 0
Plain (message k b room) = OwnKey provider k → ⊥
Plain taking = Unit {0}
Plain fetching = Unit {0}
Plain (handing_back h d now room) = Unit {0}
Plain (cancelling h) = Unit {0}
Plain (lodging h) = Unit {0}
Plain (due now room) = Unit {0}
Plain closing = Unit {0}

abbrev Plainly : Deed → Type 0
Plainly (called r e a done) = Plain e
Plainly cut = Unit {0}

accepted_zero : (past : List Deed) → AllByRecursion Plainly past → (f : ℕ) → Accepted f past → f ≡ 0
accepted_zero past l f (inl (now, room, (done, m))) = all-mem Plainly past _ l m
accepted_zero past l f (inr (now, (done, m))) = all-mem Plainly past _ l m

rises : (past : List Deed) → AllByRecursion Plainly past → Rising past
rises [] l = tt
rises (cut ∷ past) (k, l) = rises past l
rises (called r x a done ∷ past) (k, l) = (λ e now room q o f m. omega (arith, accepted_zero past l f m), rises past l)

none_own : (past : List Deed) → AllByRecursion Plainly past → NoneUnderOwnKey provider past
none_own past l k b room r a done m = all-mem Plainly past _ l m

own_in : (b : Bool) (i : ℕ) (ks : List Bytes) (k : Bytes) → own_among (cond b (Some signers) None) ≡ Some i → keys_among (cond b (Some signers) None) ≡ Some ks → get_or ks i [] ≡ k → k ≡ key 0
own_in true i ks k o q g =
    let j : 0 ≡ i = cc in
    let l : keys_in signers ≡ ks = cc in
    sym (subst (λ z. get_or z 0 [] ≡ k) (sym l) (subst (λ z. get_or ks z [] ≡ k) (sym j) g))
own_in false i ks k o q g = let z : ◌≡◌ {A = ℕ} 0 1 = cc in absurd (omega arith)

own-key_is : (k : Bytes) → OwnKey provider k → k ≡ key 0
own-key_is k (e, (i, (ks, o, q, l, g))) = own_in (eqb 0 e) i ks k o q g

other : (i : ℕ) → 0 < i → OwnKey provider (key i) → ⊥
other i l o = let z : i ≡ 0 = ap (λ (k : Bytes). get_or k 0 0) (own-key_is (key i) o) in omega arith

abbrev all_deeds : List Deed
all_deeds = called whole opened ok told-after ∷ called off (heard_from 2) power_off cut_short ∷ deeds

plainly : AllByRecursion Plainly all_deeds
plainly = (refl, (other 2 (omega arith), (other 1 (omega arith), (tt, (tt, (refl, tt))))))

pub again : ToldAgain provider settings
again = record {
  lawful = lawful;
  left = x6;
  past = deeds;
  event = heard_from 2;
  before = cut_short;
  after = told-after;
  cert = the_cert;
  mine = ack_by 0;
  run = r6;
  first = first-told;
  again = told-again;
  sent = own-sent;
  told = own-told;
  owned = refl;
  rising = rises all_deeds plainly;
  foreign = none_own all_deeds plainly;
}
