-- The two kinds of fields, numbers and parts, are read by steps that stop as early as they can.
use Rattle.std.proofs.Common.{◌≡◌, ℕ, suc, ◌+◌, ◌-◌, ◌*◌, ◌/◌, ◌<◌, ◌≤◌, Bool, true, false, List, [], ◌∷◌, ◌++◌, length, take, drop, replicate, Ok, Err, Result, sym, refl, ap, ◌∙◌, ⊎_elim, arith}
use Rattle.std.proofs.lemmas.Bool.{cases_lt, cases_Bool, le-leb, lt-leb}
use Rattle.std.proofs.lemmas.List.{length-append, length-take-le, length-replicate, take-append-drop, take_all, take_at, drop_at}
use Rattle.std.proofs.lemmas.List.Elements.{All-nil, All-cons, All-replicate}
use Rattle.forms.specs.declared.faults.Fault.{Fault}
use Rattle.forms.specs.declared.faults.Field.{Field}
use Rattle.forms.specs.declared.faults.Field.TheVariants.{End}
use Rattle.forms.specs.Uint.{Number, uint, groups, wrong, behind}
use Rattle.forms.specs.Reading.{Piece, Taken, number, numbered, part, bytes_from as from}
use Rattle.forms.proofs.Groups.{right_fits}
use Rattle.forms_laws.specs.Laws.{Bytes}
use Rattle.forms_laws.proofs.Numbers.{at_none, at-wrong, at_last, at_more, is_right}
use Rattle.forms_laws.proofs.Early.{found, Used, Stop, Early, not_both, same_err}

-- the groups of a number, which are taken again whatever follows
record Groups (inner : Bool) (most : ℕ) (bs : List ℕ) (n : Number) : Type 0 where
  pub front : List ℕ
  pub rest : List ℕ
  pub splits : bs ≡ front ++ rest
  pub len : n.len ≡ length front
  pub again : (q : List ℕ) → groups inner most (front ++ q) ≡ Ok n

groups-behind : (inner : Bool) (most b : ℕ) (bs : List ℕ) (n : Number) (r : Result Number ℕ) → wrong inner most b ≡ false → 128 ≤ b → behind b r ≡ Ok n →
    ((m : Number) → r ≡ Ok m → Groups true ((most - (b - 128)) / 128) bs m) → Groups inner most (b ∷ bs) n
groups-behind inner most b bs n (Err k) ok ge e f = absurd (not_both e refl)
groups-behind inner most b bs n (Ok m) ok ge e f =
    let i = f m refl in
    let l : n.len ≡ 1 + m.len = cc in
    record {
      front = b ∷ i.front;
      rest = i.rest;
      splits = ap (λ z. b ∷ z) i.splits;
      len = omega (arith, i.len);
      again = λ q. at_more inner most b (i.front ++ q) ok ge ∙ ap (behind b) (i.again q) ∙ e;
    }

groups_of : (bs : List ℕ) (inner : Bool) (most : ℕ) (n : Number) → groups inner most bs ≡ Ok n → Groups inner most bs n
groups_of [] inner most n e = absurd (not_both e (at_none inner most))
groups_of (b ∷ bs) inner most n e =
    ⊎_elim
    (λ bad. absurd (not_both e (at-wrong inner most b bs bad)))
    (λ ok.
    ⊎_elim
    (λ lt.
    let x = at_last inner most b bs ok lt in
    let l : n.len ≡ 1 = cc in
    record { front = b ∷ []; rest = bs; splits = refl; len = l; again = λ q. at_last inner most b q ok lt ∙ sym x ∙ e })
    (λ ge. groups-behind inner most b bs n (groups true ((most - (b - 128)) / 128) bs) ok ge (sym (at_more inner most b bs ok ge) ∙ e) (λ m f. groups_of bs true ((most - (b - 128)) / 128) m f))
    (cases_lt b 128))
    (cases_Bool (wrong inner most b))

-- where a number stops: the first k bytes go on to some number, and with the next they do not
record Halt (inner : Bool) (most : ℕ) (bs : List ℕ) (k : ℕ) : Type 0 where
  pub within : k ≤ length bs
  pub more : List ℕ
  pub are : Bytes more
  pub number : Number
  pub len : number.len ≡ length (take k bs ++ more)
  pub goes : (q : List ℕ) → groups inner most ((take k bs ++ more) ++ q) ≡ Ok number
  pub stops : k < length bs → (q : List ℕ) → groups inner most (take (k + 1) bs ++ q) ≡ Err k

-- a number that goes on at once: 0, or 1 behind other groups
abbrev least : Bool → ℕ
least true = 1
least false = 0

least-goes : (inner : Bool) (most : ℕ) (q : List ℕ) → (inner ≡ true → 1 ≤ most) → groups inner most (least inner ∷ q) ≡ Ok (record { value = least inner; len = 1 })
least-goes true most q h = at_last true most 1 q (is_right true most 1 (λ _. omega arith) (h refl)) (omega arith)
least-goes false most q h = at_last false most 0 q (is_right false most 0 (λ e. cc) (omega arith)) (omega arith)

least_byte : (inner : Bool) → least inner < 256
least_byte true = omega arith
least_byte false = omega arith

-- the first byte is missing or wrong
halt_here : (inner : Bool) (most : ℕ) (bs : List ℕ) → (inner ≡ true → 1 ≤ most) → (0 < length bs → (q : List ℕ) → groups inner most (take 1 bs ++ q) ≡ Err 0) → Halt inner most bs 0
halt_here inner most bs h stops =
    record {
      within = omega arith;
      more = least inner ∷ [];
      are = All-cons (λ (b : ℕ). b < 256) (least inner) [] (least_byte inner) (All-nil (λ (b : ℕ). b < 256));
      number = record { value = least inner; len = 1 };
      len = refl;
      goes = λ q. least-goes inner most q h;
      stops = stops;
    }

halt_behind : (inner : Bool) (most b : ℕ) (bs : List ℕ) (k : ℕ) (r : Result Number ℕ) → wrong inner most b ≡ false → 128 ≤ b → behind b r ≡ Err k →
    ((j : ℕ) → r ≡ Err j → Halt true ((most - (b - 128)) / 128) bs j) → Halt inner most (b ∷ bs) k
halt_behind inner most b bs k (Ok m) ok ge e f = absurd (not_both refl e)
halt_behind inner most b bs k (Err j) ok ge e f =
    let i = f j refl in
    let c : k ≡ suc j = (let z : 1 + j ≡ k = cc in omega arith) in
    rw c
    (record {
      within = omega (arith, i.within);
      more = i.more;
      are = i.are;
      number = record { value = (b - 128) + 128 * i.number.value; len = 1 + i.number.len };
      len = omega (arith, i.len);
      goes = λ q. at_more inner most b ((take j bs ++ i.more) ++ q) ok ge ∙ ap (behind b) (i.goes q);
      stops = λ h q.
          let one : suc j + 1 ≡ suc (j + 1) = omega arith in
          ap (λ m. groups inner most (take m (b ∷ bs) ++ q)) one ∙ at_more inner most b (take (j + 1) bs ++ q) ok ge ∙ ap (behind b) (i.stops (omega arith) q) ∙ ap (λ (m : ℕ). Err m) (omega arith);
    })

halt_of : (bs : List ℕ) (inner : Bool) (most k : ℕ) → (inner ≡ true → 1 ≤ most) → groups inner most bs ≡ Err k → Halt inner most bs k
halt_of [] inner most k h e =
    rw (← same_err (at_none inner most) e) (halt_here inner most [] h (λ l. absurd (omega arith)))
halt_of (b ∷ bs) inner most k h e =
    ⊎_elim
    (λ bad.
    rw (← same_err (at-wrong inner most b bs bad) e) (halt_here inner most (b ∷ bs) h (λ l q. at-wrong inner most b q bad)))
    (λ ok.
    ⊎_elim
    (λ lt. absurd (not_both (at_last inner most b bs ok lt) e))
    (λ ge.
    halt_behind inner most b bs k (groups true ((most - (b - 128)) / 128) bs) ok ge (sym (at_more inner most b bs ok ge) ∙ e)
    (λ j f. halt_of bs true ((most - (b - 128)) / 128) j (λ _. omega (arith, right_fits inner most b ok)) f))
    (cases_lt b 128))
    (cases_Bool (wrong inner most b))

module _ (field : Field) (most : ℕ) (ne : field ≡ End → ⊥) where
  number_used : (bs : List ℕ) (at : ℕ) (t : Taken ℕ) (r : Result Number ℕ) → uint most bs ≡ r → numbered field (from bs at) r ≡ Ok t → Used (number field most) bs at t
  number_used bs at t (Err k) u e = absurd (not_both e refl)
  number_used bs at t (Ok n) u e =
      let i = groups_of bs false most n u in
      let x : record { value = n.value; left = from (drop n.len bs) (at + n.len) } ≡ t = cc in
      let d : drop n.len bs ≡ i.rest = ap (drop n.len) i.splits ∙ drop_at i.front i.rest n.len (sym i.len) in
      rw (← x)
      (record {
        front = i.front;
        splits = i.splits ∙ ap (λ z. i.front ++ z) (sym d);
        place = ap (λ z. at + z) i.len;
        again = λ q. ap (numbered field (from (i.front ++ q) at)) (i.again q) ∙ ap (λ z. found n.value z (at + n.len)) (drop_at i.front q n.len (sym i.len));
      })

  number_stop : (bs : List ℕ) (at : ℕ) (f : Fault) (r : Result Number ℕ) → uint most bs ≡ r → numbered field (from bs at) r ≡ Err f → Stop (number field most) bs at f
  number_stop bs at f (Ok n) u e = absurd (not_both refl e)
  number_stop bs at f (Err k) u e =
      let i = halt_of bs false most k (λ e. cc) u in
      let x : record { field = field; at = at + k } ≡ f = cc in
      rw (← x)
      (record {
        k = k;
        is = refl;
        within = i.within;
        more = i.more;
        are = i.are;
        goes = record {
          value = i.number.value;
          end = at + i.number.len;
          reads = λ q. ap (numbered field (from ((take k bs ++ i.more) ++ q) at)) (i.goes q) ∙ ap (λ z. found i.number.value z (at + i.number.len)) (drop_at (take k bs ++ i.more) q i.number.len (sym i.len));
        };
        stops = λ h q. ap (numbered field (from (take (k + 1) bs ++ q) at)) (i.stops h q);
        inside = ne;
      })

  pub early_number : Early (number field most)
  early_number =
      record {
        used = λ bs at t e. number_used bs at t (uint most bs) refl e;
        some = λ at.
            record {
              bytes = 0 ∷ [];
              are = All-cons (λ (b : ℕ). b < 256) 0 [] (least_byte false) (All-nil (λ (b : ℕ). b < 256));
              takes = record { value = 0; end = at + 1; reads = λ q. ap (numbered field (from (0 ∷ q) at)) (least-goes false most q (λ e. cc)) };
            };
        stop = λ bs at f e. number_stop bs at f (uint most bs) refl e;
      }

module _ (field : Field) (n : ℕ) where
  pub part_long : (bs : List ℕ) (at : ℕ) → n ≤ length bs → part field n (from bs at) ≡ found (from (take n bs) at) (drop n bs) (at + n)
  part_long bs at h = let t = le-leb n (length bs) h in simp t

  pub part-short : (bs : List ℕ) (at : ℕ) → length bs < n → part field n (from bs at) ≡ Err (record { field = field; at = at + length bs })
  part-short bs at h = let t = lt-leb n (length bs) h in simp t

  -- n bytes, whatever follows
  pub part-takes : (bs : List ℕ) (at : ℕ) → length bs ≡ n → (q : List ℕ) → part field n (from (bs ++ q) at) ≡ found (from bs at) q (at + n)
  part-takes bs at l q =
      part_long (bs ++ q) at (omega (arith, length-append bs q)) ∙ ap (λ z. found (from z at) (drop n (bs ++ q)) (at + n)) (take_at bs q n l) ∙ ap (λ z. found (from bs at) z (at + n)) (drop_at bs q n l)

module _ (field : Field) (n : ℕ) (ne : field ≡ End → ⊥) where
  part_used : (bs : List ℕ) (at : ℕ) (t : Taken Piece) → n ≤ length bs → part field n (from bs at) ≡ Ok t → Used (part field n) bs at t
  part_used bs at t h e =
      let y = part_long field n bs at h in
      let x : record { value = from (take n bs) at; left = from (drop n bs) (at + n) } ≡ t = cc in
      let l = length-take-le n bs h in
      rw (← x) (record { front = take n bs; splits = sym (take-append-drop n bs); place = ap (λ z. at + z) (sym l); again = λ q. part-takes field n (take n bs) at l q })

  part_stop : (bs : List ℕ) (at : ℕ) (f : Fault) → length bs < n → part field n (from bs at) ≡ Err f → Stop (part field n) bs at f
  part_stop bs at f h e =
      let y = part-short field n bs at h in
      let x : record { field = field; at = at + length bs } ≡ f = cc in
      let more : List ℕ = replicate (n - length bs) 0 in
      let all = take_all (length bs) bs (omega arith) in
      let l : length (take (length bs) bs ++ more) ≡ n = length-append (take (length bs) bs) more ∙ omega (arith, ap length all, length-replicate {A = ℕ} (n - length bs) 0) in
      rw (← x)
      (record {
        k = length bs;
        is = refl;
        within = omega arith;
        more = more;
        are = All-replicate (λ (b : ℕ). b < 256) (n - length bs) 0 (least_byte false);
        goes = record { value = from (take (length bs) bs ++ more) at; end = at + n; reads = λ q. part-takes field n (take (length bs) bs ++ more) at l q };
        stops = λ g q. absurd (omega arith);
        inside = ne;
      })

  pub early_part : Early (part field n)
  early_part =
      record {
        used = λ bs at t e.
            ⊎_elim
            (λ h. absurd (not_both e (part-short field n bs at h)))
            (λ h. part_used bs at t h e)
            (cases_lt (length bs) n);
        some = λ at. record { bytes = replicate n 0; are = All-replicate (λ (b : ℕ). b < 256) n 0 (least_byte false); takes = record { value = from (replicate n 0) at; end = at + n; reads = λ q. part-takes field n (replicate n 0) at (length-replicate {A = ℕ} n 0) q } };
        stop = λ bs at f e.
            ⊎_elim
            (λ h. part_stop bs at f h e)
            (λ h. absurd (not_both (part_long field n bs at h) e))
            (cases_lt (length bs) n);
      }
