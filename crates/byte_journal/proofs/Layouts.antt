-- How an area that is laid out reads. Assumes nothing.
use Rattle.std.proofs.Common.{◌≡◌, ℕ, ◌+◌, ◌-◌, ◌<◌, ◌≤◌, ◌^◌, true, List, [], ◌∷◌, ◌++◌, length, get_or, take, drop, Some, None, sym, refl, ap, ◌∙◌, append_assoc, arith}
use Rattle.std.proofs.lemmas.List.{length-append, get_or-append_right, drop-drop, drop_at, take_at}
use Rattle.std.proofs.lemmas.Nat.{from_be_bytes-to_be_bytes_2, from_be_bytes-to_be_bytes_8}
use Rattle.std.specs.Int.{w16, w64, to_be_bytes, from_be_bytes}
use Rattle.area.specs.Area.{size, holds, body, records_at, records_of, extent, end_of, section_of, area_of, read}
use Rattle.area.proofs.Steps.{holds-from, none_by_mark, at_none, at_next, of_used}
use Rattle.area.proofs.Marks.{defect_none, defect_used, read_used}
use Rattle.area.proofs.Onward.{area_of_lem}
use Rattle.journal.specs.Log.{Bytes, All}
use Rattle.byte_journal.specs.Layout.{entry, entries, laid, LayoutStands}

-- what stands behind some bytes
at_byte : (pre xs : List ℕ) (j k : ℕ) → k ≡ length pre + j → get_or (pre ++ xs) k 0 ≡ get_or xs j 0
at_byte pre xs j k e =
    let z : k - length pre ≡ j = omega arith in
    get_or-append_right pre xs (length pre) k 0 refl (omega arith) ∙ ap (λ i. get_or xs i 0) z

drop_byte : (pre xs : List ℕ) (j k : ℕ) → k ≡ length pre + j → drop k (pre ++ xs) ≡ drop j xs
drop_byte pre xs j k e =
    ap (λ i. drop i (pre ++ xs)) e ∙ sym (drop-drop j (length pre) (pre ++ xs)) ∙ ap (drop j) (drop_at pre xs (length pre) refl)

read_16 : (n : ℕ) (xs : List ℕ) → n < 2 ^ 16 → from_be_bytes w16 (to_be_bytes w16 n ++ xs) ≡ n
read_16 n xs h = from_be_bytes-to_be_bytes_2 n h

read_64 : (n : ℕ) (xs : List ℕ) → n < 2 ^ 64 → from_be_bytes w64 (to_be_bytes w64 n ++ xs) ≡ n
read_64 n xs h = from_be_bytes-to_be_bytes_8 n h

length-entry : (b : Bytes) → length (entry b) ≡ 3 + length b
unfolding entry
length-entry b = omega arith

length-entries : (bs : List Bytes) → length (entries bs) ≡ extent bs
unfolding entries extent
length-entries [] = refl
length-entries (b ∷ bs) = length-append (entry b) (entries bs) ∙ omega (arith, length-entry b, length-entries bs)

-- one record behind some bytes
module _ (pre : List ℕ) (b : Bytes) (xs all : List ℕ) (short : length b ≤ 1068) (whole : all ≡ pre ++ (entry b ++ xs)) where
  mark : get_or all (length pre) 0 ≡ 1
  unfolding entry
  mark = ap (λ l. get_or l (length pre) 0) whole ∙ at_byte pre (entry b ++ xs) 0 (length pre) (omega arith)

  len : size all (length pre) ≡ length b
  unfolding entry size
  len = ap (λ l. from_be_bytes w16 (drop (length pre + 1) l)) whole ∙ ap (from_be_bytes w16) (drop_byte pre (entry b ++ xs) 1 (length pre + 1) refl) ∙ read_16 (length b) (b ++ xs) (omega arith)

  is_whole : holds all (length pre) ≡ true
  is_whole =
      let l = ap length whole ∙ length-append pre (entry b ++ xs) in
      let m = length-append (entry b) xs in
      holds-from all (length pre) mark (omega (arith, len)) (omega (arith, len, l, m, length-entry b))

  is_body : b ≡ body all (length pre)
  unfolding entry body
  is_body = sym (ap (λ n. take n (drop (length pre + 3) all)) len ∙ ap (λ l. take (length b) (drop (length pre + 3) l)) whole ∙ ap (take (length b)) (drop_byte pre (entry b ++ xs) 3 (length pre + 3) refl) ∙ take_at b xs (length b) refl)

  record_here : records_at all (length pre) ≡ b ∷ records_at all (length (pre ++ entry b))
  record_here = at_next all b (length pre) (length (pre ++ entry b)) is_whole is_body (length-append pre (entry b) ∙ ap (λ n. length pre + n) (length-entry b))

-- the end mark behind some bytes
none_here : (pre rest all : List ℕ) → all ≡ pre ++ 0 ∷ rest → records_at all (length pre) ≡ []
none_here pre rest all e =
    let z : get_or all (length pre) 0 ≡ 0 = ap (λ l. get_or l (length pre) 0) e ∙ at_byte pre (0 ∷ rest) 0 (length pre) (omega arith) in
    at_none all (length pre) (none_by_mark all (length pre) (λ o. omega (arith, z, o)))

-- records behind some bytes, and the end mark
all_here : (pre : List ℕ) (bs : List Bytes) (rest all : List ℕ) → All (λ b. length b ≤ 1068) bs → all ≡ pre ++ (entries bs ++ 0 ∷ rest) → records_at all (length pre) ≡ bs
unfolding All entries
all_here pre [] rest all h e = none_here pre rest all e
all_here pre (b ∷ bs) rest all h e =
    let w : all ≡ pre ++ (entry b ++ (entries bs ++ 0 ∷ rest)) = e ∙ ap (λ l. pre ++ l) (append_assoc (entry b) (entries bs) (0 ∷ rest)) in
    record_here pre b (entries bs ++ 0 ∷ rest) all h.0 w
    ∙ ap (λ l. b ∷ l) (all_here (pre ++ entry b) bs rest all h.1 (w ∙ sym (append_assoc pre (entry b) (entries bs ++ 0 ∷ rest))))

-- the head of an area
head : ℕ → List ℕ
head s = 1 ∷ to_be_bytes w64 s

module _ (s : ℕ) (bs : List Bytes) (rest : List ℕ) (h : s < 2 ^ 64) (short : All (λ b. length b ≤ 1068) bs) where
  all : List ℕ
  all = laid s bs ++ rest

  shape : all ≡ head s ++ (entries bs ++ 0 ∷ rest)
  unfolding all head laid
  shape = ap (λ l. 1 ∷ l) (append_assoc (to_be_bytes w64 s) (entries bs ++ 0 ∷ []) rest ∙ ap (λ l. to_be_bytes w64 s ++ l) (append_assoc (entries bs) (0 ∷ []) rest))

  nine : length (head s) ≡ 9
  unfolding head
  nine = refl

  used : get_or all 0 0 ≡ 1
  unfolding head
  used = ap (λ l. get_or l 0 0) shape

  section_is : section_of all ≡ s
  unfolding head section_of
  section_is = ap (λ l. from_be_bytes w64 (drop 1 l)) shape ∙ read_64 s (entries bs ++ 0 ∷ rest) h

  records_are : records_of all ≡ bs
  records_are = of_used all used ∙ ap (records_at all) (sym nine) ∙ all_here (head s) bs rest all short shape

  ends : get_or all (end_of all) 0 ≡ 0
  unfolding end_of
  ends =
      let l : length (head s ++ entries bs) ≡ 9 + extent bs = length-append (head s) (entries bs) ∙ omega (arith, nine, length-entries bs) in
      ap (λ rs. get_or all (9 + extent rs) 0) records_are
      ∙ ap (λ l. get_or l (9 + extent bs) 0) (shape ∙ sym (append_assoc (head s) (entries bs) (0 ∷ rest)))
      ∙ at_byte (head s ++ entries bs) (0 ∷ rest) 0 (9 + extent bs) (omega (arith, l))

  laid_reads : read all ≡ Some (record { section = s; records = bs; defect = None })
  unfolding area_of
  laid_reads =
      read_used all (λ z. omega (arith, used, z)) ∙ ap Some (area_of_lem section_is records_are (defect_used all used ∙ defect_none (get_or all (end_of all) 0) ends))

pub layout : LayoutStands
unfolding all
layout s bs rest h short = laid_reads s bs rest h short
