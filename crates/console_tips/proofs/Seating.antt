-- Seats that a board's tables were told of, and the keys of a set.
use Rattle.std.proofs.Common.{◌≡◌, refl, true, List, [], ◌∷◌, length, Option, Some, None, count_by, ◌+◌, sym, ap, ◌∙◌, subst, arith, MatchOption}
use Rattle.std.proofs.lemmas.List.{take_at}
use Rattle.std.proofs.lemmas.List.Sums.{sum_by-cons}
use Rattle.std.specs.List.{refill}
use Rattle.table.specs.Keys.{ahead}
use Rattle.table.specs.Rows.{Above, Sorted}
use Rattle.tip_commands.proofs.Ordered.{to_sorted, from_sorted}
use Rattle.tip_commands.specs.Order.{Seats, ascends}
use Rattle.tip_commands.specs.Sets.{seats_of, keys_of}
use Rattle.tip_commands.specs.declared.key_sets.KeySet.{KeySet}
use Rattle.tips.specs.Ranks.{Safe}
use Rattle.tips.specs.Seats.{tip_of, tips_of, opened, Ascending}
use Rattle.tips.specs.Tips.{Holds, Answered}
use Rattle.tips.specs.declared.safe_tip.SafeTip.{SafeTip}
use Rattle.console_tips.specs.declared.boards.Board.{Board}
use Rattle.types.specs.Numbers.{Height, Participant}

-- where no tip is counted, no seat is taken
none_sit : (seats : Seats) → count_by (λ _. true) (tips_of seats) ≡ 0 → seats ≡ []
none_sit [] e = refl
none_sit (s ∷ seats) e = let k : count_by (λ _. true) (tips_of (s ∷ seats)) ≡ 1 + count_by (λ _. true) (tips_of seats) = sum_by-cons (λ _. 1) (tip_of s) (tips_of seats) in absurd (omega arith)

-- what the tables answer is the safe tip of the seats
pub safe : (seats : Seats) (s : SafeTip) (r : Option Height) → Holds seats s → Answered r s → MatchOption r (seats ≡ []) (λ t. Safe (tips_of seats) t.0)
safe seats s None h a = none_sit seats (h.all (λ _. true) ∙ a)
safe seats s (Some t) h a = a.1 (tips_of seats) h

-- the seats of a board as they are lent
pub lent : (b : Board) (xs : Seats) → xs ≡ b.seats.items → Sorted ahead xs × Holds xs b.tables
lent b xs e =
    (subst (λ (es : Seats). Sorted ahead es) (sym e) (to_sorted b.seats.items b.ascending), subst (λ (es : Seats). Holds es b.tables) (sym e) b.holds)

-- seats that come back in place of as many
pub kept : (old ys : Seats) (s : SafeTip) → length ys ≡ length old → Sorted ahead ys → Holds ys s
    → (ascends (refill (length old) old ys) ≡ true) × Holds (refill (length old) old ys) s
kept old ys s l o h =
    let e : refill (length old) old ys ≡ ys = take_at ys _ (length old) l in
    (ap ascends e ∙ from_sorted ys o, subst (λ (es : Seats). Holds es s) (sym e) h)

-- the keys of a set ascend
above-keys : (k : Participant) (es : Seats) → Above ahead k es → Above ahead k (opened (keys_of es))
above-keys k [] a = tt
above-keys k (e ∷ es) a = (a.0, above-keys k es a.1)

sorted_keys : (es : Seats) → Sorted ahead es → Ascending ahead (keys_of es)
sorted_keys [] s = tt
sorted_keys (e ∷ es) s = (above-keys e.key es s.0, sorted_keys es s.1)

-- so do those that a set hands out
pub ascending-keys : (set : KeySet) (ks : List Participant) → ks ≡ keys_of (seats_of set) → Ascending ahead ks
ascending-keys set ks e = subst (λ (xs : List Participant). Ascending ahead xs) (sym e) (sorted_keys (seats_of set) (to_sorted (seats_of set) set.ascending))
