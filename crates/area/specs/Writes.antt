-- What each writer of an area does, by cases on its answer: to the bytes, to the power, and to what the area reads as. Assumes nothing.
use Rattle.std.specs.Prelude.{◌≡◌, ℕ, ◌+◌, min, Bool, true, false, ◌&&◌, List, length, Some, None, Ok, Err, Option, Result, ◌==◌, nat_le, slice_index, slice_set}
use Rattle.journal.specs.declared.stops.Stop.{Stop}
use Rattle.journal.specs.declared.stops.Stop.TheVariants.{Full, Pruned, Off}
use Rattle.area.specs.Area.{end_of, area_of, read, fits, started, pushed}
use Rattle.area.specs.Edits.{Kept, added, begun}
use Rattle.power.specs.Power.{Took}

-- n stores that make `whole` of `old`: where the power does not last for all of them, the bytes below `place` are as they were
abbrev pub Stored : ℕ → ℕ → List ℕ → List ℕ → Option ℕ → Result (Unit {0}) Stop → List ℕ → Option ℕ → Type 0
Stored n place old whole p (Ok _) new q = Took n true p q × (new ≡ whole)
Stored n place old whole p (Err Full) new q = ⊥
Stored n place old whole p (Err Pruned) new q = ⊥
Stored n place old whole p (Err Off) new q = Took n false p q × Kept place old new

-- whether a record of n bytes has room in an area of these bytes
abbrev pub room_in : List ℕ → ℕ → Bool
room_in bs n = fits (length bs) (area_of bs) n

-- append: full exactly where the record has no room, and then nothing changes; where the power goes, the records are as they were
abbrev pub Appended : List ℕ → Option ℕ → List ℕ → Result (Unit {0}) Stop → List ℕ → Option ℕ → Type 0
Appended bs p b (Ok _) cs q =
    (room_in bs (length b) ≡ true) × Took (length b + 4) true p q × (cs ≡ added (end_of bs) b bs) × (read cs ≡ Some (pushed (area_of bs) b))
Appended bs p b (Err Full) cs q = (room_in bs (length b) ≡ false) × (q ≡ p) × (cs ≡ bs)
Appended bs p b (Err Pruned) cs q = ⊥
Appended bs p b (Err Off) cs q =
    (room_in bs (length b) ≡ true) × Took (length b + 4) false p q × Kept (end_of bs + 1) bs cs × (read cs ≡ read bs)

-- whether an area can be taken into use: it is free, and has its head and an end mark
abbrev pub vacant : List ℕ → Bool
vacant bs = slice_index bs 0 == 0 && nat_le 10 (length bs)

-- start: full exactly where the area is not vacant, and then nothing changes; where the power goes, it is still free
abbrev pub Started : List ℕ → Option ℕ → ℕ → Result (Unit {0}) Stop → List ℕ → Option ℕ → Type 0
Started bs p s (Ok _) cs q = (vacant bs ≡ true) × Took 10 true p q × (cs ≡ begun s bs) × (read cs ≡ Some (started s))
Started bs p s (Err Full) cs q = (vacant bs ≡ false) × (q ≡ p) × (cs ≡ bs)
Started bs p s (Err Pruned) cs q = ⊥
Started bs p s (Err Off) cs q = (vacant bs ≡ true) × Took 10 false p q × Kept 1 bs cs × (read cs ≡ None)

-- free: its mark becomes 0, by one store, or none where the area has no byte
abbrev pub Freed : List ℕ → Option ℕ → Result (Unit {0}) Stop → List ℕ → Option ℕ → Type 0
Freed bs p (Ok _) cs q = Took (min 1 (length bs)) true p q × (cs ≡ slice_set bs 0 0) × (read cs ≡ None)
Freed bs p (Err Full) cs q = ⊥
Freed bs p (Err Pruned) cs q = ⊥
Freed bs p (Err Off) cs q = Took (min 1 (length bs)) false p q × (cs ≡ bs)
