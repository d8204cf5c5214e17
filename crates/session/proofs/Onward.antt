-- Lines that are answered one after the other, seen from the middle.
use Rattle.std.proofs.Common.{◌≡◌, ℕ, ◌<◌, Bool, List, [], length, Option, Some, None, Result, Ok, Err, OnOk, IfSome, sym, subst, ◌∙◌}
use Rattle.session.specs.Playing.{Plays, ended, turned, Turns, PlaysAll, Closes}
use Rattle.session.specs.Sessions.{IsFresh}
use Rattle.std.specs.Io.BufRead.{first_piece, drop_through}
use Rattle.std.specs.Io.KnownBytes.{IsAtEnd}
use Rattle.session.specs.declared.sessions.Session.{Session}

-- what is left of known bytes is known, and what answers that answers all
abbrev pub FromThere : Bool → Session → Option (List ℕ) → Option (List ℕ) → Session → Option (List ℕ) → List ℕ → Type 0
FromThere parted s p left t q xs = (ys : List ℕ) × (left ≡ Some ys) × ((u : Session) (r : Option (List ℕ)) → Plays parted ys t q u r → Plays parted xs s p u r)

abbrev pub Onward : Bool → ℕ → Option (List ℕ) → Session → Option (List ℕ) → Option (List ℕ) → Session → Option (List ℕ) → Type 0
Onward parted byte all s p left t q = (byte ≡ 10) × IfSome all (FromThere parted s p left t q)

-- one line more
pub onward : (parted : Bool) (byte : ℕ) (all : Option (List ℕ)) (s : Session) (p left left' : Option (List ℕ)) (t t' : Session) (q q' : Option (List ℕ)) (line : List ℕ) → Onward parted byte all s p left t q
    → IfSome left (λ xs. (0 < length xs) × (line ≡ first_piece byte xs)) → IfSome left (λ xs. left' ≡ Some (drop_through byte xs)) → Turns parted line t q t' q' → (byte' : ℕ) → byte' ≡ byte
    → Onward parted byte' all s p left' t' q'
onward parted byte None s p left left' t t' q q' line o first rest turn byte' same = (same ∙ o.0, tt)
onward parted byte (Some xs) s p left left' t t' q q' line o first rest turn byte' same =
    let known = o.1 in
    let gave : (0 < length known.0) × (line ≡ first_piece byte known.0) = subst (λ x. IfSome x (λ xs. (0 < length xs) × (line ≡ first_piece byte xs))) known.1 first in
    let dropped : left' ≡ Some (drop_through byte known.0) = subst (λ x. IfSome x (λ xs. left' ≡ Some (drop_through byte xs))) known.1 rest in
    let here : Turns parted (first_piece 10 known.0) t q t' q' = subst (λ b. Turns parted (first_piece b known.0) t q t' q') o.0 (subst (λ l. Turns parted l t q t' q') gave.1 turn) in
    (same ∙ o.0, (drop_through 10 known.0, subst (λ b. left' ≡ Some (drop_through b known.0)) o.0 dropped, λ u r plays. known.2 u r (turned parted known.0 t t' u q q' r gave.0 here plays)))

-- the last line was answered, and the summary printed
pub played : (parted : Bool) (byte : ℕ) (all : Option (List ℕ)) (s : Session) (p left : Option (List ℕ)) (t : Session) (q r : Option (List ℕ)) → Onward parted byte all s p left t q → IsAtEnd left
    → IsFresh s → Closes t q r → IfSome all (λ bytes. PlaysAll parted bytes p r)
played parted byte None s p left t q r o end fresh closes = tt
played parted byte (Some xs) s p left t q r o end fresh closes =
    let known = o.1 in
    let none : known.0 ≡ [] = subst IsAtEnd known.1 end in
    (s, t, q, fresh, known.2 t q (subst (λ ys. Plays parted ys t q t q) (sym none) (ended parted t q)), closes)

pub on_ok : {E : Type 0} (r : Result (Unit {0}) E) (P Q : Type 0) → (P → Q) → OnOk r P → OnOk r Q
on_ok (Ok x) P Q f h = f h
on_ok (Err e) P Q f h = tt
