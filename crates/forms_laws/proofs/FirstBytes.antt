-- The faults of records and of messages name the first byte with which nothing valid begins.
use Rattle.std.proofs.Common.{◌≡◌, ℕ, ◌<◌, List, [], ◌∷◌, ◌++◌, length, take, Ok, Err, Result, refl, ap, ◌∙◌, ⊎_elim, arith}
use Rattle.std.proofs.lemmas.Bool.{cases_eq}
use Rattle.std.proofs.lemmas.List.Elements.{All-nil, All-cons}
use Rattle.forms.specs.declared.faults.Fault.{Fault}
use Rattle.forms.specs.declared.faults.Field.TheVariants.{Kind, Height, Digest, Epoch, Signer, Signature, Tip}
use Rattle.forms.specs.Uint.{groups}
use Rattle.forms.specs.Values.{Activity, certified, tip}
use Rattle.forms.specs.Reading.{Piece, Taken, Placed, Step, and_then, bind, yield, number, part, whole, top_number, top_height, top_signer, ack_up_to, tip_ack, with_tip, acked, tipped, certified_body, record_at, message_at, plain, read, message, bytes_from as from}
use Rattle.forms.proofs.Ends.{kind_none}
use Rattle.forms_laws.specs.Laws.{Valid, First, FirstFault}
use Rattle.forms_laws.proofs.Early.{Early, early_bind, early_yield, by_result, not_both, same_err}
use Rattle.forms_laws.proofs.Fields.{early_number, early_part}
use Rattle.forms_laws.proofs.Faults.{Firsts, step_first, whole-first, carried, from_start, behind-one}

pub early_ack : (most : ℕ) → Early (ack_up_to most)
early_ack most =
    early_bind (number Height most) _ (early_number Height most (λ e. cc)) (λ h.
    early_bind (part Digest 32) _ (early_part Digest 32 (λ e. cc)) (λ d.
    early_bind (number Epoch top_number) _ (early_number Epoch top_number (λ e. cc)) (λ e.
    early_bind (number Signer top_signer) _ (early_number Signer top_signer (λ e. cc)) (λ s.
    early_bind (part Signature 64) _ (early_part Signature 64 (λ e. cc)) (λ g.
    early_yield _)))))

pub early_message : Early tip_ack
early_message =
    early_bind (number Tip top_number) _ (early_number Tip top_number (λ e. cc)) (λ t.
    early_bind (ack_up_to top_number) _ (early_ack top_number) (λ a.
    early_yield (with_tip t a)))

-- what stands before a certificate
pub record Item : Type 0 where
  pub height : ℕ
  pub digest : Piece

abbrev pub item : Step Item
item = bind (number Height top_height) (λ h. bind (part Digest 32) (λ d. yield (record { height = h; digest = d })))

pub early_item : Early item
early_item =
    early_bind (number Height top_height) _ (early_number Height top_height (λ e. cc)) (λ h.
    early_bind (part Digest 32) _ (early_part Digest 32 (λ e. cc)) (λ d.
    early_yield (record { height = h; digest = d })))

abbrev pub certify : Taken Item → Placed Activity
certify t =
    record {
      value = certified (record { height = t.value.height; digest = t.value.digest.bytes; bytes = t.left.bytes });
      places = t.value.digest.at ∷ t.left.at ∷ [];
    }

certified-digest : (h : Taken ℕ) (r : Result (Taken Piece) Fault) →
    and_then {A = Taken Piece} {B = Placed Activity} r (λ d. Ok (certify (record { value = record { height = h.value; digest = d.value }; left = d.left })))
    ≡ and_then {A = Taken Item} {B = Placed Activity} (and_then r (λ d. Ok (record { value = record { height = h.value; digest = d.value }; left = d.left }))) (λ t. Ok (certify t))
certified-digest h (Ok d) = refl
certified-digest h (Err f) = refl

certified-height : (r : Result (Taken ℕ) Fault) →
    and_then {A = Taken ℕ} {B = Placed Activity} r (λ h. and_then (part Digest 32 h.left) (λ d. Ok (certify (record { value = record { height = h.value; digest = d.value }; left = d.left }))))
    ≡ and_then {A = Taken Item} {B = Placed Activity} (and_then r (λ h. and_then (part Digest 32 h.left) (λ d. Ok (record { value = record { height = h.value; digest = d.value }; left = d.left })))) (λ t. Ok (certify t))
certified-height (Ok h) = certified-digest h (part Digest 32 h.left)
certified-height (Err f) = refl

pub certified_is : (p : Piece) → certified_body p ≡ and_then (item p) (λ t. Ok (certify t))
certified_is p = certified-height (number Height top_height p)

-- a reader that makes its value of what a step found
module _ {A B : Type 0} (reads : List ℕ → Result A Fault) (made : List ℕ → Result B Fault) (g : A → Placed B) (is : (xs : List ℕ) → made xs ≡ plain (and_then (reads xs) (λ a. Ok (g a)))) where
  made_ok : (xs : List ℕ) (a : A) → reads xs ≡ Ok a → Valid made xs
  made_ok xs a e = ((g a).value, is xs ∙ ap (λ r. plain (and_then r (λ x. Ok (g x)))) e)

  made_err : {xs : List ℕ} {f : Fault} → reads xs ≡ Err f → made xs ≡ Err f
  made_err {xs} e = is xs ∙ ap (λ r. plain (and_then r (λ x. Ok (g x)))) e

  pub made_first : (at : ℕ) (bs : List ℕ) (f : Fault) → (reads bs ≡ Err f → Firsts reads at bs f) → made bs ≡ Err f → Firsts made at bs f
  made_first at bs f first e =
      carried reads made at bs f made_ok (λ xs h. made_err)
      (first
      (by_result (reads bs) (reads bs ≡ Err f)
      (λ a ok. let v = made_ok bs a ok in absurd (not_both v.1 e))
      (λ h bad. bad ∙ ap (λ z. Err z) (same_err (made_err bad) e))))

same-placed : {A : Type 0} (r : Result (Placed A) Fault) → plain r ≡ plain (and_then r (λ a. Ok a))
same-placed (Ok a) = refl
same-placed (Err f) = refl

pub first-message : (bs : List ℕ) (f : Fault) → message bs ≡ Err f → First message bs f
unfolding message_at
first-message bs f e =
    from_start message bs f
    (made_first (λ xs. whole tip_ack (from xs 0)) message (λ a. a) (λ xs. same-placed (whole tip_ack (from xs 0))) 0 bs f (whole-first tip_ack 0 bs f early_message) e)

first-ack : (bs : List ℕ) (f : Fault) → read (0 ∷ bs) ≡ Err f → First read (0 ∷ bs) f
unfolding record_at
first-ack bs f e =
    behind-one read 0 bs f
    (made_first (λ xs. whole (ack_up_to top_height) (from xs 1)) (λ xs. read (0 ∷ xs)) acked (λ xs. refl) 1 bs f (whole-first (ack_up_to top_height) 1 bs f (early_ack top_height)) e)

first-certified : (bs : List ℕ) (f : Fault) → read (1 ∷ bs) ≡ Err f → First read (1 ∷ bs) f
unfolding record_at
first-certified bs f e =
    behind-one read 1 bs f
    (made_first (λ xs. item (from xs 1)) (λ xs. read (1 ∷ xs)) certify (λ xs. ap plain (certified_is (from xs 1))) 1 bs f (step_first item 1 bs f early_item) e)

first-tip : (bs : List ℕ) (f : Fault) → read (2 ∷ bs) ≡ Err f → First read (2 ∷ bs) f
unfolding record_at
first-tip bs f e =
    behind-one read 2 bs f
    (made_first (λ xs. whole (number Tip top_height) (from xs 1)) (λ xs. read (2 ∷ xs)) tipped (λ xs. refl) 1 bs f (whole-first (number Tip top_height) 1 bs f (early_number Tip top_height (λ e. cc))) e)

-- the kind byte itself is missing or wrong
first_kind : (bs : List ℕ) (f : Fault) → (0 < length bs → (q : List ℕ) → read (take 1 bs ++ q) ≡ Err (record { field = Kind; at = 0 })) → read bs ≡ Err (record { field = Kind; at = 0 }) → read bs ≡ Err f → First read bs f
unfolding record_at groups
first_kind bs f stops none e =
    let x : record { field = Kind; at = 0 } ≡ f = same_err none e in
    rw (← x)
    (record {
      within = omega arith;
      more = 2 ∷ 0 ∷ [];
      bytes = All-cons (λ (b : ℕ). b < 256) 2 (0 ∷ []) (omega arith) (All-cons (λ (b : ℕ). b < 256) 0 [] (omega arith) (All-nil (λ (b : ℕ). b < 256)));
      goes = (tip 0, refl);
      stops = λ h q v. not_both v.1 (stops h q);
      left = λ z. absurd cc;
      over = λ v. absurd (not_both v.1 refl);
    })

pub other_kind : (k : ℕ) (q : List ℕ) → 2 < k → read (k ∷ q) ≡ Err (record { field = Kind; at = 0 })
unfolding record_at
other_kind k q h = ap plain (kind_none k (from q 1) h)

pub first_record : (bs : List ℕ) (f : Fault) → read bs ≡ Err f → First read bs f
unfolding record_at
first_record [] f e = first_kind [] f (λ h. absurd (omega arith)) refl e
first_record (k ∷ bs) f e =
    ⊎_elim
    (λ z. rw z (first-ack bs f (rw z at e)))
    (λ nz.
    ⊎_elim
    (λ z. rw z (first-certified bs f (rw z at e)))
    (λ no.
    ⊎_elim
    (λ z. rw z (first-tip bs f (rw z at e)))
    (λ nt. let h : 2 < k = omega arith in first_kind (k ∷ bs) f (λ l q. other_kind k q h) (other_kind k bs h) e)
    (cases_eq k 2))
    (cases_eq k 1))
    (cases_eq k 0)

pub first-fault : FirstFault
first-fault = record { records = first_record; messages = first-message }
