-- One turn of reading a number, group by group.
use Rattle.std.proofs.Common.{◌≡◌, ℕ, ◌+◌, ◌-◌, ◌*◌, ◌/◌, ◌<◌, ◌≤◌, Bool, true, false, List, ◌∷◌, length, get_or, drop, Ok, Err, Result, sym, ap, ◌∙◌, mul_assoc, mul_comm, mul-add, arith}
use Rattle.std.proofs.lemmas.Bool.{lt-ltb, le-ltb}
use Rattle.std.proofs.lemmas.Bool.Decides.{nat_tests}
use Rattle.std.proofs.lemmas.List.{at_drop_more, at_drop_all}
use Rattle.std.proofs.lemmas.Nat.{mul-le}
use Rattle.forms.specs.Uint.{Number, groups, wrong, behind}

-- what is found behind k groups of value v, where the next counts p
abbrev pub past : ℕ → ℕ → ℕ → Result Number ℕ → Result Number ℕ
past k v p (Ok n) = Ok (record { value = v + p * n.value; len = k + n.len })
past k v p (Err j) = Err (k + j)

pub past-start : (r : Result Number ℕ) → r ≡ past 0 0 1 r
past-start (Ok n) = let e : 0 + 1 * n.value ≡ n.value = omega arith in let f : 0 + n.len ≡ n.len = omega arith in simp (e, f)
past-start (Err j) = let f : 0 + j ≡ j = omega arith in simp f

past-behind : (k v p b : ℕ) (r : Result Number ℕ) → past k v p (behind b r) ≡ past (k + 1) (v + (b - 128) * p) (p * 128) r
past-behind k v p b (Ok n) =
    let m : p * ((b - 128) + 128 * n.value) ≡ (b - 128) * p + p * 128 * n.value =
    mul-add p (b - 128) (128 * n.value) ∙ ap (λ x. x + p * (128 * n.value)) (mul_comm p (b - 128)) ∙ ap (λ x. (b - 128) * p + x) (sym (mul_assoc p 128 n.value)) in
    let e : v + p * ((b - 128) + 128 * n.value) ≡ v + (b - 128) * p + p * 128 * n.value = omega arith in
    let f : k + (1 + n.len) ≡ k + 1 + n.len = omega arith in
    simp (e, f)
past-behind k v p b (Err j) = let f : k + (1 + j) ≡ k + 1 + j = omega arith in simp f

-- the group at k, and the groups behind it
module _ (k v p room : ℕ) (inner : Bool) (bs : List ℕ) where
  at_group : k < length bs → past k v p (groups inner room (drop k bs)) ≡ past k v p (groups inner room (get_or bs k 0 ∷ drop (k + 1) bs))
  at_group h = at_drop_more (λ xs. past k v p (groups inner room xs)) bs k 0 h

  pub past-wrong : k < length bs → wrong inner room (get_or bs k 0) ≡ true → past k v p (groups inner room (drop k bs)) ≡ Err k
  unfolding groups
  past-wrong h e = let z : k + 0 ≡ k = omega arith in at_group h ∙ simp (e, z)

  pub past-last : k < length bs → wrong inner room (get_or bs k 0) ≡ false → get_or bs k 0 < 128 →
      past k v p (groups inner room (drop k bs)) ≡ Ok (record { value = v + get_or bs k 0 * p; len = k + 1 })
  unfolding groups
  past-last h e l = let t = lt-ltb (get_or bs k 0) 128 l in let m = mul_comm p (get_or bs k 0) in at_group h ∙ simp (e, t, m)

  pub past_more : k < length bs → wrong inner room (get_or bs k 0) ≡ false → 128 ≤ get_or bs k 0 →
      past k v p (groups inner room (drop k bs)) ≡
      past (k + 1) (v + (get_or bs k 0 - 128) * p) (p * 128) (groups true ((room - (get_or bs k 0 - 128)) / 128) (drop (k + 1) bs))
  unfolding groups
  past_more h e l =
      let t = le-ltb (get_or bs k 0) 128 l in
      at_group h ∙ simp (e, t) (past-behind k v p (get_or bs k 0) (groups true ((room - (get_or bs k 0 - 128)) / 128) (drop (k + 1) bs)))

  -- there is no group any more
  pub past_none : length bs ≤ k → past k v p (groups inner room (drop k bs)) ≡ Err k
  unfolding groups
  past_none h = let z : k + 0 ≡ k = omega arith in at_drop_all (λ xs. past k v p (groups inner room xs)) bs k h ∙ simp z

pub right_fits : (inner : Bool) (room b : ℕ) → wrong inner room b ≡ false → b ≤ room
right_fits inner room b e = grind (arith, nat_tests)

-- the value so far, with all that may still come, stays within the limit
pub value-fits : (most room v p b : ℕ) → b ≤ room → v + p * room ≤ most → v + b * p ≤ most
value-fits most room v p b h l = let m = mul-le p b p room (omega arith) h in let c = mul_comm p b in omega arith

pub place-fits : (most room v p b : ℕ) → 128 ≤ b → b ≤ room → v + p * room ≤ most → p * 128 ≤ most
place-fits most room v p b g h l = let m = mul-le p 128 p room (omega arith) (omega arith) in omega arith

pub low_fits : (most room v p b : ℕ) → 128 ≤ b → b ≤ room → v + p * room ≤ most → v + (b - 128) * p ≤ most
low_fits most room v p b g h l = value-fits most room v p (b - 128) (omega arith) l

pub room_fits : (most room v p b : ℕ) → 128 ≤ b → b ≤ room → v + p * room ≤ most → v + (b - 128) * p + p * 128 * ((room - (b - 128)) / 128) ≤ most
room_fits most room v p b g h l =
    let q = (room - (b - 128)) / 128 in
    let d : 128 * q ≤ room - (b - 128) = omega arith in
    let m : p * 128 * q ≡ p * (128 * q) = mul_assoc p 128 q in
    let n : p * (128 * q) ≤ p * (room - (b - 128)) = mul-le p (128 * q) p (room - (b - 128)) (omega arith) d in
    let s : room ≡ (b - 128) + (room - (b - 128)) = omega arith in
    let t : p * room ≡ p * (b - 128) + p * (room - (b - 128)) = ap (λ x. p * x) s ∙ mul-add p (b - 128) (room - (b - 128)) in
    let u = mul_comm p (b - 128) in
    omega arith
