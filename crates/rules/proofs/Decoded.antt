-- What is read has the sizes of its form. Assumes nothing.
use Rattle.std.proofs.Common.{◌≡◌, ℕ, ◌-◌, ◌/◌, ◌≤◌, Bool, true, false, ◌&&◌, eqb, ltb, leb, List, [], ◌∷◌, length, Ok, Err, Result, arith}
use Rattle.std.proofs.lemmas.Bool.{cond_both, ltb-false, leb-true, or_parts}
use Rattle.std.proofs.lemmas.List.{length-take}
use Rattle.forms.specs.declared.faults.Fault.{Fault}
use Rattle.forms.specs.declared.faults.Field.{Field}
use Rattle.forms.specs.declared.faults.Field.TheVariants.{Height, Digest, Epoch, Signer, Signature, Tip}
use Rattle.forms.specs.Uint.{Number, groups, uint, wrong, behind}
use Rattle.forms.specs.Values.{Activity}
use Rattle.forms.specs.Reading.{Piece, Taken, Placed, Step, and_then, bind, numbered, number, part, ended, whole, top_number, top_height, top_signer, ack_up_to, tip_ack, by_kind, record_at, message_at, plain, read, message}
use Rattle.forms.specs.Sizes.{SizedAck, Sized, SizedMessage}
use Rattle.rules.proofs.Calm.{by_cond}

-- it holds of what was found, if something was
abbrev pub IfOk : {A E : Type 0} → (A → Type 0) → Result A E → Type 0
IfOk P (Ok a) = P a
IfOk P (Err e) = Unit {0}

-- a number of at most `most`
most-behind : (b most : ℕ) (r : Result Number ℕ) → 128 ≤ b → b ≤ most → IfOk (λ n. n.value ≤ (most - (b - 128)) / 128) r → IfOk (λ n. n.value ≤ most) (behind b r)
most-behind b most (Ok n) l u h = omega arith
most-behind b most (Err k) l u h = tt

most-groups : (inner : Bool) (most : ℕ) (bs : List ℕ) → IfOk (λ n. n.value ≤ most) (groups inner most bs)
unfolding groups
most-groups inner most [] = tt
most-groups inner most (b ∷ bs) =
    cond_both (wrong inner most b) (Err 0) _ (IfOk (λ n. n.value ≤ most)) (λ _. tt) (λ q.
    let u = ltb-false most b (or_parts (inner && eqb b 0) (ltb most b) q).1 in
    cond_both (ltb b 128) (Ok (record { value = b; len = 1 })) _ (IfOk (λ n. n.value ≤ most)) (λ _. omega arith) (λ r.
    most-behind b most _ (ltb-false b 128 r) (omega arith) (most-groups true ((most - (b - 128)) / 128) bs)))

-- steps
abbrev Gives : {A : Type 0} → (A → Type 0) → Step A → Type 0
Gives P s = (p : Piece) → IfOk (λ t. P t.value) (s p)

then_ok : {A B : Type 0} (P : A → Type 0) (Q : B → Type 0) (r : Result A Fault) (f : A → Result B Fault) → IfOk P r → ((a : A) → P a → IfOk Q (f a)) → IfOk Q (and_then r f)
then_ok P Q (Ok a) f h g = g a h
then_ok P Q (Err e) f h g = tt

gives_bind : {A B : Type 0} (P : A → Type 0) (Q : B → Type 0) (s : Step A) (t : A → Step B) → Gives P s → ((a : A) → P a → Gives Q (t a)) → Gives Q (bind s t)
gives_bind P Q s t g h p = then_ok (λ x. P x.value) (λ x. Q x.value) (s p) _ (g p) (λ a k. h a.value k a.left)

gives_number : (f : Field) (most : ℕ) → Gives (λ n. n ≤ most) (number f most)
gives_number f most p = go (uint most p.bytes) (most-groups false most p.bytes)
  where
    go : (r : Result Number ℕ) → IfOk (λ n. n.value ≤ most) r → IfOk (λ t. t.value ≤ most) (numbered f p r)
    go (Ok n) h = h
    go (Err k) h = tt

gives_part : (f : Field) (n : ℕ) → Gives (λ q. length q.bytes ≡ n) (part f n)
gives_part f n p =
    cond_both (leb n (length p.bytes)) _ _ (IfOk (λ (t : Taken Piece). length t.value.bytes ≡ n))
    (λ q. let u = leb-true n (length p.bytes) q in omega (arith, length-take n p.bytes)) (λ _. tt)

gives_ack : (most : ℕ) → Gives (λ a. SizedAck most a.value) (ack_up_to most)
gives_ack most =
    gives_bind (λ h. h ≤ most) _ (number Height most) _ (gives_number Height most) (λ h a.
    gives_bind (λ q. length q.bytes ≡ 32) _ (part Digest 32) _ (gives_part Digest 32) (λ d b.
    gives_bind (λ e. e ≤ top_number) _ (number Epoch top_number) _ (gives_number Epoch top_number) (λ e c.
    gives_bind (λ i. i ≤ top_signer) _ (number Signer top_signer) _ (gives_number Signer top_signer) (λ i f.
    gives_bind (λ q. length q.bytes ≡ 64) _ (part Signature 64) _ (gives_part Signature 64) (λ g j p.
    record { height = a; epoch = c; signer = f; digest = b; signature = j })))))

gives_message : Gives (λ t. SizedMessage t.value) tip_ack
gives_message =
    gives_bind (λ t. t ≤ top_number) _ (number Tip top_number) _ (gives_number Tip top_number) (λ t a.
    gives_bind (λ x. SizedAck top_number x.value) _ (ack_up_to top_number) _ (gives_ack top_number) (λ x b p. record { tip = a; ack = b }))

ends_ok : {A : Type 0} (P : A → Type 0) (a : A) (p : Piece) → P a → IfOk P (ended a p)
ends_ok P a p h = by_cond (IfOk P) (eqb (length p.bytes) 0) _ _ h tt

whole-ok : {A : Type 0} (P : A → Type 0) (s : Step A) (p : Piece) → Gives P s → IfOk P (whole s p)
whole-ok P s p g = then_ok (λ t. P t.value) P (s p) _ (g p) (λ a h. ends_ok P a.value a.left h)

-- of a record
abbrev Body : Result (Placed Activity) Fault → Type 0
Body r = IfOk (λ x. Sized x.value) r

kind_ok : (k : ℕ) (p : Piece) → Body (by_kind k p)
kind_ok k p =
    by_cond Body (eqb k 0) _ _ (then_ok (λ a. SizedAck top_height a.value) _ (whole (ack_up_to top_height) p) _ (whole-ok _ (ack_up_to top_height) p (gives_ack top_height)) (λ a h. h))
    (by_cond Body (eqb k 1) _ _
    (then_ok (λ h. h.value ≤ top_height) _ (number Height top_height p) _ (gives_number Height top_height p) (λ h a.
    then_ok (λ d. length d.value.bytes ≡ 32) _ (part Digest 32 h.left) _ (gives_part Digest 32 h.left) (λ d b. record { height = a; digest = b })))
    (by_cond Body (eqb k 2) _ _ (then_ok (λ t. t ≤ top_height) _ (whole (number Tip top_height) p) _ (whole-ok _ (number Tip top_height) p (gives_number Tip top_height)) (λ t h. h)) tt))

plain_ok : {A : Type 0} (P : A → Type 0) (r : Result (Placed A) Fault) → IfOk (λ x. P x.value) r → IfOk P (plain r)
plain_ok P (Ok a) h = h
plain_ok P (Err e) h = tt

pub read-sized : (bs : List ℕ) → IfOk Sized (read bs)
unfolding record_at
read-sized [] = tt
read-sized (k ∷ bs) = plain_ok Sized (by_kind k (record { bytes = bs; at = 1 })) (kind_ok k (record { bytes = bs; at = 1 }))

pub message-sized : (bs : List ℕ) → IfOk SizedMessage (message bs)
unfolding message_at
message-sized bs = plain_ok _ (whole tip_ack (record { bytes = bs; at = 0 })) (whole-ok _ tip_ack (record { bytes = bs; at = 0 }) gives_message)
