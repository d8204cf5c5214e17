-- What a SafeTip holds, and what its calls do. Assumes nothing.
use Rattle.std.specs.Prelude.{◌≡◌, ℕ, ◌+◌, ◌<◌, Bool, true, false, cond, ◌&&◌, ◌||◌, ltb, List, [], ◌∷◌, is_some, Some, None, Ok, Err, sum_by, Option, Result, ◌==◌, nat_le, nat_lt}
use Rattle.table.specs.declared.Entry.{Entry}
use Rattle.table.specs.Keys.{shorter}
use Rattle.table.specs.Rows.{entry, at}
use Rattle.types.specs.Numbers.{Height, height}
use Rattle.tips.specs.declared.safe_tip.SafeTip.{SafeTip}
use Rattle.tips.specs.declared.set_size.SetSize.{SetSize}
use Rattle.tips.specs.Counting.{Rows, weigh}
use Rattle.tips.specs.Ranks.{Safe, Split}
use Rattle.tips.specs.Seats.{tips_of, lower_than, reseated}
use Rattle.tips.specs.Tables.{rows_of}

-- the n - f lowest tips, and the f highest
abbrev pub lowest : SafeTip → Rows
lowest s = rows_of s.lo

abbrev pub highest : SafeTip → Rows
highest s = rows_of s.hi

-- how many of the counted tips pass the test p
abbrev pub counted : (ℕ → Bool) → SafeTip → ℕ
counted p s = weigh p (lowest s) + weigh p (highest s)

-- whether a tip is counted at the height h
abbrev pub counts : SafeTip → Height → Bool
counts s h = is_some (at shorter h (highest s)) || is_some (at shorter h (lowest s))

-- the tables are those of the tips that the seats record
abbrev pub Holds : {K : Type 0} → List (Entry K Height) → SafeTip → Type 0
Holds seats s = Split (tips_of seats) (lowest s) (highest s)

-- one of the counted tips went from old to new
abbrev pub Moved : Height → Height → SafeTip → SafeTip → Type 0
Moved old new s t = (p : ℕ → Bool) → counted p t + cond (p old.0) 1 0 ≡ counted p s + cond (p new.0) 1 0

-- the tables count one tip for each seat, that which f gives
abbrev pub Recorded : {K : Type 0} → (Entry K Height → ℕ) → List (Entry K Height) → SafeTip → Type 0
Recorded f seats s = (p : ℕ → Bool) → sum_by (λ e. cond (p (f e)) 1 0) seats ≡ counted p s

-- a tip that the tables count
abbrev pub if_counted : SafeTip → Option Height → Option Height
if_counted s None = None
if_counted s (Some old) = cond (counts s old) (Some old) None

-- the old tip that a told one replaces: what the sender's seat records, where that is lower and the tables count it
abbrev pub replaced : {K : Type 0} → (K → K → Bool) → K → Height → List (Entry K Height) → SafeTip → Option Height
replaced less k t seats s = if_counted s (lower_than t (at less k seats))

-- the tables once a told tip has replaced the old one, if it counted
abbrev pub Told : Height → Option Height → SafeTip → SafeTip → Type 0
Told t None s s' = s' ≡ s
Told t (Some old) s s' = Moved old t s s'

-- what `get` answers: the safe tip of the tips that the tables split, and nothing where they count none
abbrev pub Answered : Option Height → SafeTip → Type 0
Answered None s = counted (λ _. true) s ≡ 0
Answered (Some t) s = (0 < counted (λ _. true) s) × ((tips : List ℕ) → Split tips (lowest s) (highest s) → Safe tips t.0)

-- a refusal: its number, and the sizes of the set that there is and of the one that was given
abbrev pub refusal : SetSize → ℕ × ℕ × ℕ
refusal e = (11, e.seats, e.keys)

-- a set of m keys for n seats is taken where the test holds, and refused by its sizes where it does not
abbrev pub Sized : Bool → ℕ → ℕ → Result (Unit {0}) SetSize → Type 0
Sized b n m (Ok _) = b ≡ true
Sized b n m (Err e) = (b ≡ false) × (refusal e ≡ (11, n, m))

-- as many keys as there are seats, 16 at most
abbrev pub fitting : ℕ → ℕ → Bool
fitting n m = m == n && nat_le m 16

-- the same, and at least one: no set opens with no signers
abbrev pub opening : ℕ → ℕ → Bool
opening n m = nat_lt 0 m && fitting n m

-- where r refuses, nothing changed
abbrev pub Kept : Result (Unit {0}) SetSize → SafeTip → SafeTip → Type 0
Kept (Ok _) s s' = Unit {0}
Kept (Err _) s s' = s' ≡ s

-- four signers with the tips 9 9 0 0
abbrev four : List (Entry ℕ Height)
four = entry 1 (height 9) ∷ entry 2 (height 9) ∷ entry 3 (height 0) ∷ entry 4 (height 0) ∷ []

-- the worked cases: tips 9 7 3 0 give 7, 9 0 0 give 9, 9 9 0 0 give 9, and 0 after one 9 leaves
abbrev pub SafeTipCases : Type 0
SafeTipCases = Safe (9 ∷ 7 ∷ 3 ∷ 0 ∷ []) 7 × Safe (9 ∷ 0 ∷ 0 ∷ []) 9 × Safe (tips_of four) 9 × Safe (tips_of (reseated ltb (2 ∷ 3 ∷ 4 ∷ 5 ∷ []) four)) 0
