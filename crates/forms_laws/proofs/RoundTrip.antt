-- What is written is read back, and what is read is what would be written.
use Rattle.std.proofs.Common.{◌≡◌, ℕ, ◌+◌, ◌<◌, ◌≤◌, List, [], ◌∷◌, ◌++◌, length, take, drop, Ok, Err, Result, sym, refl, ap, ◌∙◌, ⊎_elim, arith}
use Rattle.std.proofs.lemmas.Bool.{cases_lt, cases_eq}
use Rattle.std.proofs.lemmas.List.{append_assoc, append-nil, length-take-le, take-append-drop, drop_at}
use Rattle.std.proofs.lemmas.List.Elements.{All-tail}
use Rattle.forms.specs.declared.faults.Fault.{Fault}
use Rattle.forms.specs.declared.faults.Field.{Field}
use Rattle.forms.specs.declared.faults.Field.TheVariants.{Height, Digest, Epoch, Signer, Signature, Tip}
use Rattle.forms.specs.Uint.{Number, uint, spell}
use Rattle.forms.specs.Values.{Ack, Cert, Activity, ack, certified, tip, TipAck}
use Rattle.forms.specs.Writing.{write_ack, write, write_message}
use Rattle.forms.specs.Sizes.{SizedAck, SizedCert, SizedMessage, Sized}
use Rattle.forms.specs.Reading.{Piece, Taken, Placed, Step, and_then, bind, yield, number, numbered, part, ended, whole, top_number, top_height, top_signer, ack_up_to, tip_ack, with_tip, acked, tipped, record_at, message_at, plain, read, message, bytes_from as from}
use Rattle.forms_laws.specs.Laws.{Bytes, ack_places, places, ReadsBack, OneSpelling}
use Rattle.forms_laws.proofs.Numbers.{back, shortest}
use Rattle.forms_laws.proofs.Early.{found, by_result, not_both, bind_ok}
use Rattle.forms_laws.proofs.Fields.{part-takes, part_long, part-short}
use Rattle.forms_laws.proofs.Faults.{ended_some, whole-ok, whole_err}
use Rattle.forms_laws.proofs.FirstBytes.{Item, item, certify, certified_is, other_kind}

number-back : (field : Field) (most n at : ℕ) (q : List ℕ) → n ≤ most → number field most (from (spell n ++ q) at) ≡ found n q (at + length (spell n))
number-back field most n at q h =
    ap (numbered field (from (spell n ++ q) at)) (back most n q h) ∙ ap (λ z. found n z (at + length (spell n))) (drop_at (spell n) q (length (spell n)) refl)

-- five parts and what follows them
regroup : (a b c d e f : List ℕ) → a ++ (b ++ (c ++ (d ++ (e ++ f)))) ≡ (a ++ (b ++ (c ++ (d ++ e)))) ++ f
regroup a b c d e f = simp append_assoc

in_parts : (bs b1 b2 b3 b4 a b c d e f : List ℕ) → bs ≡ a ++ b1 → b1 ≡ b ++ b2 → b2 ≡ c ++ b3 → b3 ≡ d ++ b4 → b4 ≡ e ++ f → bs ≡ (a ++ (b ++ (c ++ (d ++ e)))) ++ f
in_parts bs b1 b2 b3 b4 a b c d e f p q r s t =
    p ∙ ap (λ z. a ++ z) (q ∙ ap (λ z. b ++ z) (r ∙ ap (λ z. c ++ z) (s ∙ ap (λ z. d ++ z) t))) ∙ regroup a b c d e f

-- where an ack that begins at a place ends
abbrev ack_end : ℕ → Ack → ℕ
ack_end at a = at + length (spell a.height) + 32 + length (spell a.epoch) + length (spell a.signer) + 64

pub ack-back : (most at : ℕ) (a : Ack) (q : List ℕ) → SizedAck most a → ack_up_to most (from (write_ack a ++ q) at) ≡ found (record { value = a; places = ack_places at a }) q (ack_end at a)
unfolding write_ack
ack-back most at a q z =
    let r4 = a.signature ++ q in
    let r3 = spell a.signer ++ r4 in
    let r2 = spell a.epoch ++ r3 in
    let r1 = a.digest ++ r2 in
    let n1 = at + length (spell a.height) in
    let n2 = n1 + 32 in
    let n3 = n2 + length (spell a.epoch) in
    let n4 = n3 + length (spell a.signer) in
    let all : (spell a.height ++ (a.digest ++ (spell a.epoch ++ (spell a.signer ++ a.signature)))) ++ q ≡ spell a.height ++ r1 = sym (regroup (spell a.height) a.digest (spell a.epoch) (spell a.signer) a.signature q) in
    ap (λ x. ack_up_to most (from x at)) all ∙
    bind_ok (number Height most) _ (number-back Height most a.height at r1 z.height) ∙
    bind_ok (part Digest 32) _ (part-takes Digest 32 a.digest n1 z.digest r2) ∙
    bind_ok (number Epoch top_number) _ (number-back Epoch top_number a.epoch n2 r3 z.epoch) ∙
    bind_ok (number Signer top_signer) _ (number-back Signer top_signer a.signer n3 r4 z.signer) ∙
    bind_ok (part Signature 64) _ (part-takes Signature 64 a.signature n4 z.signature q)

-- a step that takes all
whole_back : {A : Type 0} (s : Step A) (bs : List ℕ) (at : ℕ) (a : A) (end : ℕ) → s (from (bs ++ []) at) ≡ found a [] end → whole s (from bs at) ≡ Ok a
whole_back s bs at a end e = ap (λ x. whole s (from x at)) (sym (append-nil bs)) ∙ whole-ok s e

item_back : (c : Cert) → SizedCert c →
    item (from (spell c.height ++ (c.digest ++ c.bytes)) 1) ≡
    found (record { height = c.height; digest = from c.digest (1 + length (spell c.height)) }) c.bytes (1 + length (spell c.height) + 32)
item_back c z =
    let n1 = 1 + length (spell c.height) in
    bind_ok (number Height top_height) _ (number-back Height top_height c.height 1 (c.digest ++ c.bytes) z.height) ∙
    bind_ok (part Digest 32) _ (part-takes Digest 32 c.digest n1 z.digest c.bytes)

pub record_back : (x : Activity) → Sized x → record_at (write x) ≡ Ok (record { value = x; places = places x })
unfolding record_at write
record_back (ack a) z =
    ap (λ r. and_then r (λ p. Ok (acked p))) (whole_back (ack_up_to top_height) (write_ack a) 1 (record { value = a; places = ack_places 1 a }) (ack_end 1 a) (ack-back top_height 1 a [] z))
record_back (certified c) z = certified_is (from (spell c.height ++ (c.digest ++ c.bytes)) 1) ∙ ap (λ r. and_then r (λ t. Ok (certify t))) (item_back c z)
record_back (tip t) z = ap (λ r. and_then r (λ n. Ok (tipped n))) (whole_back (number Tip top_height) (spell t) 1 t (1 + length (spell t)) (number-back Tip top_height t 1 [] z))

pub message-back : (m : TipAck) → SizedMessage m → message_at (write_message m) ≡ Ok (record { value = m; places = ack_places (length (spell m.tip)) m.ack })
unfolding message_at write_message
message-back m z =
    let n = 0 + length (spell m.tip) in
    let o : n ≡ length (spell m.tip) = omega arith in
    let a = m.ack in
    let r = write_ack a ++ [] in
    let inner : tip_ack (from ((spell m.tip ++ write_ack a) ++ []) 0) ≡ found (record { value = m; places = ack_places n a }) [] (ack_end n a) =
    ap (λ x. tip_ack (from x 0)) (append_assoc (spell m.tip) (write_ack a) []) ∙
    bind_ok (number Tip top_number) _ (number-back Tip top_number m.tip 0 r z.tip) ∙
    bind_ok (ack_up_to top_number) _ (ack-back top_number n a [] z.ack) in
    whole_back tip_ack (spell m.tip ++ write_ack a) 0 (record { value = m; places = ack_places n a }) (ack_end n a) inner ∙ ap (λ x. Ok (record { value = m; places = ack_places x a })) o

pub reads_back : ReadsBack
reads_back = record { records = record_back; messages = message-back }

-- what two steps found, one behind the other
record Both {A B : Type 0} (s : Step A) (t : A → Step B) (p : Piece) (u : Taken B) : Type 0 where
  pub mid : Taken A
  pub first : s p ≡ Ok mid
  pub second : t mid.value mid.left ≡ Ok u

bind_of : {A B : Type 0} (t : A → Step B) (u : Taken B) (r : Result (Taken A) Fault) → and_then r (λ a. t a.value a.left) ≡ Ok u → (x : Taken A) × (r ≡ Ok x) × (t x.value x.left ≡ Ok u)
bind_of t u (Ok x) e = (x, refl, e)
bind_of t u (Err f) e = absurd cc

both_of : {A B : Type 0} (s : Step A) (t : A → Step B) (p : Piece) (u : Taken B) → bind s t p ≡ Ok u → Both s t p u
both_of s t p u e = let x = bind_of t u (s p) e in record { mid = x.0; first = x.1; second = x.2 }

yield_is : {A : Type 0} (a : A) (p : Piece) (t : Taken A) → yield a p ≡ Ok t → record { value = a; left = p } ≡ t
yield_is a p t e = cc

bytes-behind : (xs ys : List ℕ) → Bytes (xs ++ ys) → Bytes ys
bytes-behind [] ys h = h
bytes-behind (x ∷ xs) ys h = bytes-behind xs ys (All-tail (λ (b : ℕ). b < 256) x (xs ++ ys) h)

rest_bytes : (bs xs ys : List ℕ) → Bytes bs → bs ≡ xs ++ ys → Bytes ys
rest_bytes bs xs ys h e = bytes-behind xs ys (rw (← e) h)

-- a number that was read is spelled as it would be written
record NumberIs (most : ℕ) (p : Piece) (t : Taken ℕ) : Type 0 where
  pub fits : t.value ≤ most
  pub spelling : p.bytes ≡ spell t.value ++ t.left.bytes

number_of : (field : Field) (most : ℕ) (p : Piece) (t : Taken ℕ) (r : Result Number ℕ) → Bytes p.bytes → uint most p.bytes ≡ r → numbered field p r ≡ Ok t → NumberIs most p t
number_of field most p t (Err k) h u e = absurd (not_both e refl)
number_of field most p t (Ok n) h u e =
    let x : record { value = n.value; left = from (drop n.len p.bytes) (p.at + n.len) } ≡ t = cc in
    let s = shortest most n.value n.len p.bytes h u in
    rw (← x) (record { fits = s.0; spelling = s.1 })

number_is : (field : Field) (most : ℕ) (p : Piece) (t : Taken ℕ) → Bytes p.bytes → number field most p ≡ Ok t → NumberIs most p t
number_is field most p t h e = number_of field most p t (uint most p.bytes) h refl e

record PartIs (n : ℕ) (p : Piece) (t : Taken Piece) : Type 0 where
  pub long : length t.value.bytes ≡ n
  pub spelling : p.bytes ≡ t.value.bytes ++ t.left.bytes

part_is : (field : Field) (n : ℕ) (p : Piece) (t : Taken Piece) → part field n p ≡ Ok t → PartIs n p t
part_is field n p t e =
    ⊎_elim
    (λ h. absurd (not_both e (part-short field n p.bytes p.at h)))
    (λ h.
    let y = part_long field n p.bytes p.at h in
    let x : record { value = from (take n p.bytes) p.at; left = from (drop n p.bytes) (p.at + n) } ≡ t = cc in
    rw (← x) (record { long = length-take-le n p.bytes h; spelling = sym (take-append-drop n p.bytes) }))
    (cases_lt (length p.bytes) n)

record AckIs (most : ℕ) (p : Piece) (t : Taken (Placed Ack)) : Type 0 where
  pub sized : SizedAck most t.value.value
  pub spelling : p.bytes ≡ write_ack t.value.value ++ t.left.bytes

ack_is : (most : ℕ) (p : Piece) (t : Taken (Placed Ack)) → Bytes p.bytes → ack_up_to most p ≡ Ok t → AckIs most p t
unfolding write_ack
ack_is most p t h0 e =
    let b1 = both_of (number Height most) _ p t e in
    let i1 = number_is Height most p b1.mid h0 b1.first in
    let h1 = rest_bytes p.bytes (spell b1.mid.value) b1.mid.left.bytes h0 i1.spelling in
    let b2 = both_of (part Digest 32) _ b1.mid.left t b1.second in
    let i2 = part_is Digest 32 b1.mid.left b2.mid b2.first in
    let h2 = rest_bytes b1.mid.left.bytes b2.mid.value.bytes b2.mid.left.bytes h1 i2.spelling in
    let b3 = both_of (number Epoch top_number) _ b2.mid.left t b2.second in
    let i3 = number_is Epoch top_number b2.mid.left b3.mid h2 b3.first in
    let h3 = rest_bytes b2.mid.left.bytes (spell b3.mid.value) b3.mid.left.bytes h2 i3.spelling in
    let b4 = both_of (number Signer top_signer) _ b3.mid.left t b3.second in
    let i4 = number_is Signer top_signer b3.mid.left b4.mid h3 b4.first in
    let b5 = both_of (part Signature 64) _ b4.mid.left t b4.second in
    let i5 = part_is Signature 64 b4.mid.left b5.mid b5.first in
    let a : Ack = record { height = b1.mid.value; epoch = b3.mid.value; signer = b4.mid.value; digest = b2.mid.value.bytes; signature = b5.mid.value.bytes } in
    let x : record { value = record { value = a; places = b2.mid.value.at ∷ b5.mid.value.at ∷ [] }; left = b5.mid.left } ≡ t = yield_is (record { value = a; places = b2.mid.value.at ∷ b5.mid.value.at ∷ [] }) b5.mid.left t b5.second in
    rw (← x)
    (record {
      sized = record { height = i1.fits; epoch = i3.fits; signer = i4.fits; digest = i2.long; signature = i5.long };
      spelling =
          in_parts p.bytes b1.mid.left.bytes b2.mid.left.bytes b3.mid.left.bytes b4.mid.left.bytes
          (spell a.height) a.digest (spell a.epoch) (spell a.signer) a.signature b5.mid.left.bytes
          i1.spelling i2.spelling i3.spelling i4.spelling i5.spelling;
    })

record MessageIs (p : Piece) (t : Taken (Placed TipAck)) : Type 0 where
  pub sized : SizedMessage t.value.value
  pub spelling : p.bytes ≡ write_message t.value.value ++ t.left.bytes

message_is : (p : Piece) (t : Taken (Placed TipAck)) → Bytes p.bytes → tip_ack p ≡ Ok t → MessageIs p t
unfolding write_message
message_is p t h0 e =
    let b1 = both_of (number Tip top_number) _ p t e in
    let i1 = number_is Tip top_number p b1.mid h0 b1.first in
    let h1 = rest_bytes p.bytes (spell b1.mid.value) b1.mid.left.bytes h0 i1.spelling in
    let b2 = both_of (ack_up_to top_number) _ b1.mid.left t b1.second in
    let i2 = ack_is top_number b1.mid.left b2.mid h1 b2.first in
    let x = yield_is (with_tip b1.mid.value b2.mid.value) b2.mid.left t b2.second in
    rw (← x)
    (record {
      sized = record { tip = i1.fits; ack = i2.sized };
      spelling = i1.spelling ∙ ap (λ z. spell b1.mid.value ++ z) i2.spelling ∙ sym (append_assoc (spell b1.mid.value) (write_ack b2.mid.value.value) b2.mid.left.bytes);
    })

-- what a step that leaves nothing found
record AllOf {A : Type 0} (s : Step A) (p : Piece) (a : A) : Type 0 where
  pub taken : Taken A
  pub reads : s p ≡ Ok taken
  pub value : taken.value ≡ a
  pub none : taken.left.bytes ≡ []

ended_of : {A : Type 0} (v : A) (rest : List ℕ) (at : ℕ) (a : A) → ended v (from rest at) ≡ Ok a → (v ≡ a) × (rest ≡ [])
ended_of v [] at a e = (cc, refl)
ended_of v (b ∷ rest) at a e = absurd (not_both e (ended_some v b rest at))

whole_of : {A : Type 0} (s : Step A) (p : Piece) (a : A) → whole s p ≡ Ok a → AllOf s p a
whole_of s p a e =
    by_result (s p) (AllOf s p a)
    (λ t ok.
    let x = ended_of t.value t.left.bytes t.left.at a (sym (whole-ok s ok) ∙ e) in
    record { taken = t; reads = ok; value = x.0; none = x.1 })
    (λ f bad. absurd (not_both e (whole_err s bad)))

-- what was made of what a step found
made_of : {A B : Type 0} (g : A → Placed B) (r : Result A Fault) (b : B) → plain (and_then r (λ a. Ok (g a))) ≡ Ok b → (a : A) × (r ≡ Ok a) × ((g a).value ≡ b)
made_of g (Ok a) b e = (a, refl, cc)
made_of g (Err f) b e = absurd cc

plain_of : {A : Type 0} (r : Result (Placed A) Fault) (b : A) → plain r ≡ Ok b → (a : Placed A) × (r ≡ Ok a) × (a.value ≡ b)
plain_of (Ok a) b e = (a, refl, cc)
plain_of (Err f) b e = absurd cc

pub one-message : (bs : List ℕ) (m : TipAck) → Bytes bs → message bs ≡ Ok m → SizedMessage m × (bs ≡ write_message m)
unfolding message_at
one-message bs m h e =
    let x = plain_of (whole tip_ack (from bs 0)) m e in
    let w = whole_of tip_ack (from bs 0) x.0 x.1 in
    let i = message_is (from bs 0) w.taken h w.reads in
    let v : w.taken.value.value ≡ m = ap (λ z. z.value) w.value ∙ x.2 in
    rw (← v) (i.sized, i.spelling ∙ ap (λ z. write_message w.taken.value.value ++ z) w.none ∙ append-nil (write_message w.taken.value.value))

abbrev One : ℕ → List ℕ → Activity → Type 0
One k bs x = read (k ∷ bs) ≡ Ok x → Sized x × (k ∷ bs ≡ write x)

one-ack : (bs : List ℕ) (x : Activity) → Bytes bs → One 0 bs x
unfolding record_at write
one-ack bs x h e =
    let y = made_of acked (whole (ack_up_to top_height) (from bs 1)) x e in
    let w = whole_of (ack_up_to top_height) (from bs 1) y.0 y.1 in
    let i = ack_is top_height (from bs 1) w.taken h w.reads in
    let a = w.taken.value.value in
    let v : ack a ≡ x = ap (λ z. ack z.value) w.value ∙ y.2 in
    rw (← v) (i.sized, ap (λ z. 0 ∷ z) (i.spelling ∙ ap (λ z. write_ack a ++ z) w.none ∙ append-nil (write_ack a)))

record ItemIs (p : Piece) (t : Taken Item) : Type 0 where
  pub height : t.value.height ≤ top_height
  pub digest : length t.value.digest.bytes ≡ 32
  pub spelling : p.bytes ≡ spell t.value.height ++ (t.value.digest.bytes ++ t.left.bytes)

item_is : (p : Piece) (t : Taken Item) → Bytes p.bytes → item p ≡ Ok t → ItemIs p t
item_is p t h0 e =
    let b1 = both_of (number Height top_height) _ p t e in
    let i1 = number_is Height top_height p b1.mid h0 b1.first in
    let b2 = both_of (part Digest 32) _ b1.mid.left t b1.second in
    let i2 = part_is Digest 32 b1.mid.left b2.mid b2.first in
    let x = yield_is (record { height = b1.mid.value; digest = b2.mid.value }) b2.mid.left t b2.second in
    rw (← x) (record { height = i1.fits; digest = i2.long; spelling = i1.spelling ∙ ap (λ z. spell b1.mid.value ++ z) i2.spelling })

one-certified : (bs : List ℕ) (x : Activity) → Bytes bs → One 1 bs x
unfolding record_at write
one-certified bs x h e =
    let y = made_of certify (item (from bs 1)) x (sym (ap plain (certified_is (from bs 1))) ∙ e) in
    let i = item_is (from bs 1) y.0 h y.1 in
    rw (← y.2) (record { height = i.height; digest = i.digest }, ap (λ z. 1 ∷ z) i.spelling)

one-tip : (bs : List ℕ) (x : Activity) → Bytes bs → One 2 bs x
unfolding record_at write
one-tip bs x h e =
    let y = made_of tipped (whole (number Tip top_height) (from bs 1)) x e in
    let w = whole_of (number Tip top_height) (from bs 1) y.0 y.1 in
    let i = number_is Tip top_height (from bs 1) w.taken h w.reads in
    let t = w.taken.value in
    let v : tip t ≡ x = ap (λ z. tip z) w.value ∙ y.2 in
    rw (← v) (i.fits, ap (λ z. 2 ∷ z) (i.spelling ∙ ap (λ z. spell t ++ z) w.none ∙ append-nil (spell t)))

pub one_record : (bs : List ℕ) (x : Activity) → Bytes bs → read bs ≡ Ok x → Sized x × (bs ≡ write x)
unfolding record_at
one_record [] x h e = absurd (not_both e refl)
one_record (k ∷ bs) x h e =
    let r = All-tail (λ (b : ℕ). b < 256) k bs h in
    ⊎_elim
    (λ z. rw z (one-ack bs x r (rw z at e)))
    (λ nz.
    ⊎_elim
    (λ z. rw z (one-certified bs x r (rw z at e)))
    (λ no.
    ⊎_elim
    (λ z. rw z (one-tip bs x r (rw z at e)))
    (λ nt. let g : 2 < k = omega arith in absurd (not_both e (other_kind k bs g)))
    (cases_eq k 2))
    (cases_eq k 1))
    (cases_eq k 0)

pub one_spelling : OneSpelling
one_spelling =
    record {
      records = one_record;
      messages = one-message;
      same_record = λ bs cs x hb hc eb ec. (one_record bs x hb eb).1 ∙ sym (one_record cs x hc ec).1;
      same_message = λ bs cs m hb hc eb ec. (one-message bs m hb eb).1 ∙ sym (one-message cs m hc ec).1;
    }
