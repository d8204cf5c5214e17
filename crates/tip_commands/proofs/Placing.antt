-- A key among ascending keys, as a binary search finds it.
use Rattle.std.proofs.Common.{◌≡◌, ℕ, zero, suc, ◌<◌, ◌≤◌, true, List, [], ◌∷◌, length, get_or, is_some, None, refl, arith, rules, nat_cmp, insert}
use Rattle.std.proofs.lemmas.Bool.{and_parts}
use Rattle.std.specs.List.{AllWithin}
use Rattle.std.specs.List.Sorted.{IsNonDecreasingBy, IsPartitionPoint}
use Rattle.std.specs.Ordering.{ordering_then, ordering_index}
use Rattle.std.specs.declared.cmp.Ordering.{Ordering}
use Rattle.std.specs.declared.cmp.Ordering.TheVariants.{Less, Equal, Greater}
use Rattle.table.proofs.Keeping.{sorted_put}
use Rattle.table.specs.Keys.{ahead}
use Rattle.table.specs.Order.{Total}
use Rattle.table.specs.Rows.{at, put}
use Rattle.types.specs.Numbers.{height, Height, Participant}
use Rattle.tip_commands.proofs.Ordered.{to_sorted, from_sorted}
use Rattle.tip_commands.specs.Order.{Seats, at_zero, leads, ascends}
use Rattle.tip_commands.specs.Sets.{keys_of}

pub keys_of-at_zero : (ks : List Participant) → keys_of (at_zero ks) ≡ ks
keys_of-at_zero [] = refl
keys_of-at_zero (k ∷ ks) = grind (arith, keys_of-at_zero ks)

-- how the library compares two keys
abbrev pub order : Participant → Participant → Ordering
order y x = ordering_then (nat_cmp y.0 x.0) Equal

total : Total ahead
total = search rules

pub ascends-put : (k : Participant) (t : Height) (es : Seats) → ascends es ≡ true → ascends (put ahead k t es) ≡ true
ascends-put k t es a = from_sorted _ (sorted_put total k t es (to_sorted es a))

-- a key that comes before all others comes before each
leads-at : (k d : Participant) (ks : List Participant) (i : ℕ) → leads k (at_zero ks) ≡ true → i < length ks → k.0 < (get_or ks i d).0
leads-at k d [] i a l = absurd (omega arith)
leads-at k d (x ∷ ks) zero a l = grind arith
leads-at k d (x ∷ ks) (suc i) a l = let h = leads-at k d ks i (and_parts _ _ a).1 (omega arith) in h

-- the keys rise
rise : (d : Participant) (ks : List Participant) (i j : ℕ) → ascends (at_zero ks) ≡ true → i < j → j < length ks → (get_or ks i d).0 < (get_or ks j d).0
rise d [] i j a l b = absurd (omega arith)
rise d (k ∷ ks) i zero a l b = absurd (omega arith)
rise d (k ∷ ks) zero (suc j) a l b = leads-at k d ks j (and_parts _ _ a).0 (omega arith)
rise d (k ∷ ks) (suc i) (suc j) a l b = rise d ks i j (and_parts _ _ a).1 (omega arith) (omega arith)

pub rising : (x : Participant) (ks : List Participant) → ascends (at_zero ks) ≡ true → IsNonDecreasingBy (λ y. ordering_index (order y x)) ks
rising x ks a i j d l b = grind (arith, rise d ks i j a)

-- a key that the search finds is there
pub found : (x d : Participant) (ks : List Participant) (i : ℕ) → ascends (at_zero ks) ≡ true → i < length ks → order (get_or ks i d) x ≡ Equal → is_some (at ahead x (at_zero ks)) ≡ true
found x d [] i a l e = absurd (omega arith)
found x d (k ∷ ks) zero a l e = grind arith
found x d (k ∷ ks) (suc i) a l e =
    let h = leads-at k d ks i (and_parts _ _ a).0 (omega arith) in
    let more : is_some (at ahead x (at_zero ks)) ≡ true = found x d ks i (and_parts _ _ a).1 (omega arith) e in
    grind arith

-- where every key before a place is lower and every later one higher, the key is not there, and is put there
pub placed : (x : Participant) (ks : List Participant) (i : ℕ) → i ≤ length ks → AllWithin (λ y. order y x ≡ Less) ks 0 i → AllWithin (λ y. order y x ≡ Greater) ks i (length ks)
    → (at ahead x (at_zero ks) ≡ None) × (put ahead x (height 0) (at_zero ks) ≡ at_zero (insert ks i x))
placed x [] i l a b = grind arith
placed x (k ∷ ks) zero l a b = let h = b 0 x (omega arith) (omega arith) in grind arith
placed x (k ∷ ks) (suc i) l a b =
    let h = a 0 x (omega arith) (omega arith) in
    let more = placed x ks i (omega arith) (λ n d p q. a (suc n) d (omega arith) (omega arith)) (λ n d p q. b (suc n) d (omega arith) (omega arith)) in
    grind arith

-- what a search among ascending keys says where it answers a place
placed_among : (x : Participant) (ks : List Participant) (i : ℕ) → ascends (at_zero ks) ≡ true → i ≤ length ks
    → (IsNonDecreasingBy (λ y. ordering_index (order y x)) ks → IsPartitionPoint (λ y. order y x ≡ Less) (λ y. order y x ≡ Greater) ks i)
    → (at ahead x (at_zero ks) ≡ None) × (put ahead x (height 0) (at_zero ks) ≡ at_zero (insert ks i x))
placed_among x ks i a l p = let q = p (rising x ks a) in placed x ks i l q.0 q.1

pub searched : (x : Participant) (ks xs : List Participant) (i : ℕ) → xs ≡ ks → ascends (at_zero ks) ≡ true → i ≤ length xs
    → (IsNonDecreasingBy (λ y. ordering_index (order y x)) xs → IsPartitionPoint (λ y. order y x ≡ Less) (λ y. order y x ≡ Greater) xs i)
    → (at ahead x (at_zero ks) ≡ None) × (put ahead x (height 0) (at_zero ks) ≡ at_zero (insert ks i x))
searched x ks xs i e a l p = rw e at (placed_among x xs i (rw (← e) at a) l p)
