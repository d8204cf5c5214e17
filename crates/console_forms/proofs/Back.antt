-- What a line says has the sizes of its form.
use Rattle.std.proofs.Common.{◌≡◌, ℕ, ◌≤◌, List, [], ◌∷◌, length, Ok, Err, Result, subst, refl, arith}
use Rattle.std.proofs.lemmas.Grind.{common_steps}
use Rattle.fields.specs.declared.faults.Fault.{Fault}
use Rattle.fields.specs.Fields.{number_in, array_in, few_bytes_in}
use Rattle.fields.specs.Lines.{Left, next, behind, ended}
use Rattle.fields.specs.Results.{and_then, result_map}
use Rattle.forms.specs.Reading.{top_number, top_height, top_signer}
use Rattle.forms.specs.Sizes.{SizedAck, SizedCert, Sized, SizedMessage, top_certificate}
use Rattle.forms.specs.Values.{Ack, Cert, Activity, ack, certified, tip, TipAck}
use Rattle.forms_laws.proofs.Early.{not_both}
use Rattle.forms_laws.proofs.RoundTrip.{reads_back}
use Rattle.console_forms.specs.Laws.{SaysBack}
use Rattle.console_forms.specs.Reading.{tip_in, ack_in, ack_record_in, certified_in, message_in}

-- a value that was found, and what was found with it
record Came {A B : Type 0} (r : Result A Fault) (f : A → Result B Fault) (y : B) : Type 0 where
  pub value : A
  pub first : r ≡ Ok value
  pub rest : f value ≡ Ok y

came : {A B : Type 0} (r : Result A Fault) (f : A → Result B Fault) (y : B) → and_then r f ≡ Ok y → Came r f y
came (Ok a) f y e = record { value = a; first = refl; rest = e }
came (Err x) f y e = absurd (not_both e refl)

-- what is read of a word holds of what a line has there
each : {A : Type 0} (P : A → Type 0) (read : ℕ → List ℕ → Result A Fault) → ((place : ℕ) (w : List ℕ) (a : A) → read place w ≡ Ok a → P a)
    → (ws : List (List ℕ)) (place : ℕ) (a : A) → next read (record { words = ws; place = place }) ≡ Ok a → P a
each P read h [] place a e = absurd (not_both e refl)
each P read h (w ∷ ws) place a e = h place w a e

number_fits : (most place : ℕ) (w : List ℕ) (n : ℕ) → number_in most place w ≡ Ok n → n ≤ most
number_fits most place w n e = grind (arith, common_steps)

array_fits : (k place : ℕ) (w bs : List ℕ) → array_in k place w ≡ Ok bs → length bs ≡ k
array_fits k place w bs e = grind (arith, common_steps)

number-fits : (most : ℕ) (l : Left) (n : ℕ) → next (number_in most) l ≡ Ok n → n ≤ most
number-fits most l n e = each (λ m. m ≤ most) (number_in most) (number_fits most) l.words l.place n e

array-fits : (k : ℕ) (l : Left) (bs : List ℕ) → next (array_in k) l ≡ Ok bs → length bs ≡ k
array-fits k l bs e = each (λ xs. length xs ≡ k) (array_in k) (array_fits k) l.words l.place bs e

-- a value at the end of a line
last : {A : Type 0} (P : A → Type 0) (a : A) (l : Left) (b : A) → P a → ended a l ≡ Ok b → P b
last P a l b p e = subst P (ended_is a l.words l.place b e) p
  where
    ended_is : {A : Type 0} (a : A) (ws : List (List ℕ)) (place : ℕ) (b : A) → ended a (record { words = ws; place = place }) ≡ Ok b → a ≡ b
    ended_is a [] place b e = cc
    ended_is a (w ∷ ws) place b e = absurd (not_both e refl)

tip_sized : (l : Left) (x : Activity) → tip_in l ≡ Ok x → Sized x
tip_sized l x e =
    let t = came (next (number_in top_height) l) _ x e in
    last Sized (tip t.value) (behind l) x (number-fits top_height l t.value t.first) t.rest

ack_sized : (most : ℕ) (l : Left) (a : Ack) → ack_in most l ≡ Ok a → SizedAck most a
ack_sized most l a e =
    let l1 = behind l in
    let l2 = behind l1 in
    let l3 = behind l2 in
    let l4 = behind l3 in
    let h = came (next (number_in most) l) _ a e in
    let d = came (next (array_in 32) l1) _ a h.rest in
    let p = came (next (number_in top_number) l2) _ a d.rest in
    let s = came (next (number_in top_signer) l3) _ a p.rest in
    let g = came (next (array_in 64) l4) _ a s.rest in
    let found : Ack = record { height = h.value; epoch = p.value; signer = s.value; digest = d.value; signature = g.value } in
    let sized : SizedAck most found =
    record {
      height = number-fits most l h.value h.first;
      epoch = number-fits top_number l2 p.value p.first;
      signer = number-fits top_signer l3 s.value s.first;
      digest = array-fits 32 l1 d.value d.first;
      signature = array-fits 64 l4 g.value g.first;
    } in
    last (SizedAck most) found (behind l4) a sized g.rest

certified_sized : (l : Left) (x : Activity) → certified_in l ≡ Ok x → Sized x
certified_sized l x e =
    let l1 = behind l in
    let l2 = behind l1 in
    let h = came (next (number_in top_height) l) _ x e in
    let d = came (next (array_in 32) l1) _ x h.rest in
    let c = came (next (few_bytes_in top_certificate) l2) _ x d.rest in
    let found : Cert = record { height = h.value; digest = d.value; bytes = c.value } in
    let sized : SizedCert found = record { height = number-fits top_height l h.value h.first; digest = array-fits 32 l1 d.value d.first } in
    last Sized (certified found) (behind l2) x sized c.rest

-- a value that is read by f
mapped : {A B : Type 0} (P : B → Type 0) (f : A → B) (r : Result A Fault) (b : B) → ((a : A) → r ≡ Ok a → P (f a)) → result_map f r ≡ Ok b → P b
mapped P f (Ok a) b h e = let i : f a ≡ b = cc in subst P i (h a refl)
mapped P f (Err x) b h e = absurd (not_both e refl)

ack_record_sized : (l : Left) (x : Activity) → ack_record_in l ≡ Ok x → Sized x
ack_record_sized l x e = mapped Sized ack (ack_in top_height l) x (λ a i. ack_sized top_height l a i) e

message_sized : (l : Left) (m : TipAck) → message_in l ≡ Ok m → SizedMessage m
message_sized l m e =
    let t = came (next (number_in top_number) l) _ m e in
    mapped SizedMessage (λ a. record { tip = t.value; ack = a }) (ack_in top_number (behind l)) m
    (λ a i. record { tip = number-fits top_number l t.value t.first; ack = ack_sized top_number (behind l) a i }) t.rest

pub back : SaysBack
back =
    record {
      tip = λ l x e. reads_back.records x (tip_sized l x e);
      ack = λ l x e. reads_back.records x (ack_record_sized l x e);
      certified = λ l x e. reads_back.records x (certified_sized l x e);
      message = λ l m e. reads_back.messages m (message_sized l m e);
    }
