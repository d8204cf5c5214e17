-- Steps of reading that stop at the first byte with which nothing begins, and what is made of them.
use Rattle.std.proofs.Common.{◌≡◌, ℕ, ◌+◌, ◌<◌, ◌≤◌, List, [], ◌++◌, length, take, Ok, Err, Result, sym, refl, ap, ◌∙◌, arith}
use lib.Seq.{take-append-add}
use Rattle.std.proofs.lemmas.List.{append_assoc, length-append}
use Rattle.std.proofs.lemmas.List.Elements.{All-nil, All-append}
use Rattle.forms.specs.declared.faults.Fault.{Fault}
use Rattle.forms.specs.declared.faults.Field.TheVariants.{End}
use Rattle.forms.specs.Reading.{Piece, Taken, Step, and_then, bind, yield, bytes_from as from}
use Rattle.forms_laws.specs.Laws.{Bytes}

abbrev pub found : {A : Type 0} → A → List ℕ → ℕ → Result (Taken A) Fault
found a bs at = Ok (record { value = a; left = from bs at })

-- what a step took, which it takes again whatever follows
pub record Used {A : Type 0} (s : Step A) (bs : List ℕ) (at : ℕ) (t : Taken A) : Type 0 where
  pub front : List ℕ
  pub splits : bs ≡ front ++ t.left.bytes
  pub place : t.left.at ≡ at + length front
  pub again : (q : List ℕ) → s (from (front ++ q) at) ≡ found t.value q t.left.at

-- a step takes exactly bs, whatever follows
pub record Takes {A : Type 0} (s : Step A) (at : ℕ) (bs : List ℕ) : Type 0 where
  pub value : A
  pub end : ℕ
  pub reads : (q : List ℕ) → s (from (bs ++ q) at) ≡ found value q end

-- there are bytes that a step takes
pub record Some {A : Type 0} (s : Step A) (at : ℕ) : Type 0 where
  pub bytes : List ℕ
  pub are : Bytes bytes
  pub takes : Takes s at bytes

-- f is where the first k bytes can still go on, and with the next they cannot
pub record Stop {A : Type 0} (s : Step A) (bs : List ℕ) (at : ℕ) (f : Fault) : Type 0 where
  pub k : ℕ
  pub is : f.at ≡ at + k
  pub within : k ≤ length bs
  pub more : List ℕ
  pub are : Bytes more
  pub goes : Takes s at (take k bs ++ more)
  pub stops : k < length bs → (q : List ℕ) → s (from (take (k + 1) bs ++ q) at) ≡ Err f
  pub inside : f.field ≡ End → ⊥

pub record Early {A : Type 0} (s : Step A) : Type 0 where
  pub used : (bs : List ℕ) (at : ℕ) (t : Taken A) → s (from bs at) ≡ Ok t → Used s bs at t
  pub some : (at : ℕ) → Some s at
  pub stop : (bs : List ℕ) (at : ℕ) (f : Fault) → s (from bs at) ≡ Err f → Stop s bs at f

-- a result is one of the two
pub by_result : {A : Type 0} (r : Result A Fault) (P : Type 0) → ((a : A) → r ≡ Ok a → P) → ((f : Fault) → r ≡ Err f → P) → P
by_result (Ok a) P x y = x a refl
by_result (Err f) P x y = y f refl

-- no result is both a value and an error, and it is one error at most
pub not_both : {A E : Type 0} {r : Result A E} {a : A} {e : E} → r ≡ Ok a → r ≡ Err e → ⊥
not_both x y = cc

pub same_err : {A E : Type 0} {r : Result A E} {e f : E} → r ≡ Err e → r ≡ Err f → e ≡ f
same_err x y = cc

-- nothing more
pub early_yield : {A : Type 0} (a : A) → Early (yield a)
early_yield a =
    record {
      used = λ bs at t e. record { front = []; splits = (let l : from bs at ≡ t.left = cc in ap (λ p. p.bytes) l); place = (let l : from bs at ≡ t.left = cc in ap (λ p. p.at) (sym l) ∙ omega arith); again = λ q. (let l : from bs at ≡ t.left = cc in let v : a ≡ t.value = cc in let w : at ≡ t.left.at = ap (λ p. p.at) l in ap (λ x. found x q at) v ∙ ap (λ n. found t.value q n) w) };
      some = λ at. record { bytes = []; are = All-nil (λ (b : ℕ). b < 256); takes = record { value = a; end = at; reads = λ q. refl } };
      stop = λ bs at f e. absurd (not_both refl e);
    }

module _ {A B : Type 0} (s : Step A) (t : A → Step B) where
  pub bind_ok : {p : Piece} {x : Taken A} → s p ≡ Ok x → bind s t p ≡ t x.value x.left
  bind_ok e = ap (λ r. and_then r (λ a. t a.value a.left)) e

  pub bind_err : {p : Piece} {f : Fault} → s p ≡ Err f → bind s t p ≡ Err f
  bind_err e = ap (λ r. and_then r (λ a. t a.value a.left)) e

  -- two steps that take bytes take them one behind the other
  pub takes_both : (at : ℕ) (bs cs : List ℕ) (x : Takes s at bs) → Takes (t x.value) x.end cs → Takes (bind s t) at (bs ++ cs)
  takes_both at bs cs x y =
      record {
        value = y.value;
        end = y.end;
        reads = λ q. ap (λ z. bind s t (from z at)) (append_assoc bs cs q) ∙ bind_ok (x.reads (cs ++ q)) ∙ y.reads q;
      }

  used_both : (bs : List ℕ) (at : ℕ) (x : Taken A) (u : Taken B) → Used s bs at x → Used (t x.value) x.left.bytes x.left.at u → Used (bind s t) bs at u
  used_both bs at x u i j =
      record {
        front = i.front ++ j.front;
        splits = i.splits ∙ ap (λ z. i.front ++ z) j.splits ∙ sym (append_assoc i.front j.front u.left.bytes);
        place = omega (arith, i.place, j.place, length-append i.front j.front);
        again = λ q. ap (λ z. bind s t (from z at)) (append_assoc i.front j.front q) ∙ bind_ok (i.again (j.front ++ q)) ∙ j.again q;
      }

  -- the first step stops
  stop_first : (bs : List ℕ) (at : ℕ) (f : Fault) → ((a : A) → Early (t a)) → Stop s bs at f → Stop (bind s t) bs at f
  stop_first bs at f early i =
      let more = (early i.goes.value).some i.goes.end in
      record {
        k = i.k;
        is = i.is;
        within = i.within;
        more = i.more ++ more.bytes;
        are = All-append (λ b. b < 256) i.more more.bytes i.are more.are;
        goes = rw (← append_assoc (take i.k bs) i.more more.bytes) (takes_both at (take i.k bs ++ i.more) more.bytes i.goes more.takes);
        stops = λ h q. bind_err (i.stops h q);
        inside = i.inside;
      }

  -- the first step takes its bytes, and the second stops
  stop_second : (bs : List ℕ) (at : ℕ) (x : Taken A) (f : Fault) → Used s bs at x → Stop (t x.value) x.left.bytes x.left.at f → Stop (bind s t) bs at f
  stop_second bs at x f i j =
      let n = length i.front in
      let rest = x.left.bytes in
      let cut : (m : ℕ) → take (n + m) bs ≡ i.front ++ take m rest = λ m. ap (take (n + m)) i.splits ∙ take-append-add i.front rest m in
      let taken : Takes s at i.front = record { value = x.value; end = x.left.at; reads = i.again } in
      let one : n + j.k + 1 ≡ n + (j.k + 1) = omega arith in
      let all : i.front ++ (take j.k rest ++ j.more) ≡ take (n + j.k) bs ++ j.more = sym (append_assoc i.front (take j.k rest) j.more) ∙ ap (λ z. z ++ j.more) (sym (cut j.k)) in
      let len : length bs ≡ n + length rest = ap length i.splits ∙ length-append i.front rest in
      record {
        k = n + j.k;
        is = omega (arith, j.is, i.place);
        within = omega (arith, j.within);
        more = j.more;
        are = j.are;
        goes = rw (← all) (takes_both at i.front (take j.k rest ++ j.more) taken j.goes);
        stops = λ h q.
            ap (λ m. bind s t (from (take m bs ++ q) at)) one ∙ ap (λ z. bind s t (from (z ++ q) at)) (cut (j.k + 1)) ∙
            ap (λ z. bind s t (from z at)) (append_assoc i.front (take (j.k + 1) rest) q) ∙
            bind_ok (i.again (take (j.k + 1) rest ++ q)) ∙
            j.stops (omega arith) q;
        inside = j.inside;
      }

  pub early_bind : Early s → ((a : A) → Early (t a)) → Early (bind s t)
  early_bind first next =
      record {
        used = λ bs at u e.
            by_result (s (from bs at)) (Used (bind s t) bs at u)
            (λ x ok. used_both bs at x u (first.used bs at x ok) ((next x.value).used x.left.bytes x.left.at u (sym (bind_ok ok) ∙ e)))
            (λ f bad. absurd (not_both e (bind_err bad)));
        some = λ at.
            let x = first.some at in
            let y = (next x.takes.value).some x.takes.end in
            record { bytes = x.bytes ++ y.bytes; are = All-append (λ b. b < 256) x.bytes y.bytes x.are y.are; takes = takes_both at x.bytes y.bytes x.takes y.takes };
        stop = λ bs at f e.
            by_result (s (from bs at)) (Stop (bind s t) bs at f)
            (λ x ok. stop_second bs at x f (first.used bs at x ok) ((next x.value).stop x.left.bytes x.left.at f (sym (bind_ok ok) ∙ e)))
            (λ g bad. stop_first bs at f next (first.stop bs at f (bad ∙ ap (λ z. Err z) (same_err (bind_err bad) e))));
      }
