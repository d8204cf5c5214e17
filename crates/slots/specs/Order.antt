-- The slots that hold a record, in reading order. Assumes nothing.
use Rattle.std.specs.Prelude.{ℕ, suc, max, Bool, cond, ◌&&◌, List, [], ◌∷◌, Some, None, Option, ◌==◌, nat_lt, fold, position}
use Rattle.std.specs.List.{list_any, filter_map, enumerate_from}
use Rattle.slots.specs.declared.slot.Slot.{Slot}
use Rattle.slots.specs.declared.slot.Key.{Key}

-- a slot that holds a record, with its place in the list
pub record Cell : Type 0 where
  pub at : ℕ
  pub slot : Slot

-- a slot is free where its age is 0
abbrev pub is_free : Slot → Bool
is_free x = x.age == 0

-- what a slot is read by
abbrev pub key_of : ℕ → Slot → Key
key_of i x = record { section = x.section; age = x.age; at = i }

-- the same of a slot that holds a record, and none of a free one
abbrev pub slot_key : ℕ → Slot → Option Key
slot_key i x = cond (is_free x) None (Some (key_of i x))

-- the keys of a list of slots
abbrev pub keys : List Slot → List Key
keys xs = filter_map (λ p. slot_key p.0 p.1) (enumerate_from 0 xs)

-- the key of a cell
abbrev pub key : Cell → Key
key c = key_of c.at c.slot

-- what comes before every record of section s and later ones: no record has the age 0
abbrev pub gate : ℕ → Key
gate s = record { section = s; age = 0; at = 0 }

-- reading order: by section, then by age; two of one section and age by their places
abbrev pub before : Key → Key → Bool
before x y =
    cond (x.section == y.section) (cond (x.age == y.age) (nat_lt x.at y.at) (nat_lt x.age y.age))
    (nat_lt x.section y.section)

-- the slots that hold a record, the first place being i; age 0 is free
unfoldable pub cells : ℕ → List Slot → List Cell
cells i [] = []
cells i (x ∷ xs) = cond (is_free x) (cells (suc i) xs) (record { at = i; slot = x } ∷ cells (suc i) xs)

-- a cell in front of the first that is read after it
unfoldable pub inserted : Cell → List Cell → List Cell
inserted x [] = x ∷ []
inserted x (y ∷ ys) = cond (before (key x) (key y)) (x ∷ y ∷ ys) (y ∷ inserted x ys)

-- cells in reading order
unfoldable pub ordered : List Cell → List Cell
ordered [] = []
ordered (x ∷ xs) = inserted x (ordered xs)

-- the records of a list of slots in reading order
unfoldable pub order : List Slot → List Cell
order xs = ordered (cells 0 xs)

-- what comes after a key in reading order
unfoldable pub after : Key → List Cell → List Cell
after k [] = []
after k (c ∷ cs) = cond (before k (key c)) (c ∷ cs) (after k cs)

-- the key of the first cell
unfoldable pub first_key : List Cell → Option Key
first_key [] = None
first_key (c ∷ cs) = Some (key c)

-- the nearer of two keys: the one that is read first
abbrev pub nearer : Option Key → Key → Option Key
nearer None k = Some k
nearer (Some b) k = cond (before k b) (Some k) (Some b)

-- the nearest key after `from` so far, with one more
abbrev pub near : Key → Option Key → Key → Option Key
near from best k = cond (before from k) (nearer best k) best

-- the same of one more slot: a free one has no key
abbrev pub near_slot : Key → Option Key → ℕ → Slot → Option Key
near_slot from best i x = cond (is_free x) best (near from best (key_of i x))

-- the first free slot
abbrev pub vacant : List Slot → Option ℕ
vacant xs = position is_free xs

-- the highest age, or 0 of no slots
abbrev pub highest : List Slot → ℕ
highest xs = fold (λ a x. max a x.age) 0 xs

-- whether a record of the key's age is read before it
abbrev pub aged : Key → List Slot → Bool
aged k xs = list_any (λ o. (o.age == k.age) && before o k) (keys xs)
