-- Reading a number: what is written is read back, and what is read is what would be written.
use Rattle.std.proofs.Common.{◌≡◌, ℕ, zero, suc, ◌+◌, ◌-◌, ◌*◌, ◌/◌, ◌%◌, ◌<◌, ◌≤◌, Bool, true, false, List, [], ◌∷◌, ◌++◌, length, drop, Ok, Err, Result, sym, refl, ap, ◌∙◌, ⊎_elim, arith}
use Rattle.std.proofs.lemmas.Bool.{cases_lt, cases_Bool, lt-ltb, le-ltb}
use Rattle.std.proofs.lemmas.List.{drop_at}
use Rattle.std.proofs.lemmas.List.Elements.{All-head, All-tail}
use Rattle.std.proofs.lemmas.Bool.Decides.{nat_tests}
use Rattle.forms.specs.Uint.{Number, uint, groups, wrong, behind, spell}
use Rattle.forms.proofs.Groups.{right_fits}
use Rattle.forms.proofs.Spelling.{spell_last, spell-more}
use Rattle.forms_laws.specs.Laws.{Bytes}
use Rattle.forms_laws.proofs.Early.{not_both}

module _ (inner : Bool) (most b : ℕ) (bs : List ℕ) where
  pub at-wrong : wrong inner most b ≡ true → groups inner most (b ∷ bs) ≡ Err 0
  unfolding groups
  at-wrong e = simp e

  pub at_last : wrong inner most b ≡ false → b < 128 → groups inner most (b ∷ bs) ≡ Ok (record { value = b; len = 1 })
  unfolding groups
  at_last e h = let t = lt-ltb b 128 h in simp (e, t)

  pub at_more : wrong inner most b ≡ false → 128 ≤ b → groups inner most (b ∷ bs) ≡ behind b (groups true ((most - (b - 128)) / 128) bs)
  unfolding groups
  at_more e h = let t = le-ltb b 128 h in simp (e, t)

pub at_none : (inner : Bool) (most : ℕ) → groups inner most [] ≡ Err 0
unfolding groups
at_none inner most = refl

-- a group that is not 0 behind others, and within the limit, is right
pub is_right : (inner : Bool) (most b : ℕ) → (inner ≡ true → 0 < b) → b ≤ most → wrong inner most b ≡ false
is_right true most b h l = let p = h refl in grind (arith, nat_tests)
is_right false most b h l = grind (arith, nat_tests)

pub right_some : (most b : ℕ) → wrong true most b ≡ false → 0 < b
right_some most b e = grind (arith, nat_tests)

-- what is written is read back; f bounds the number
back_by : (f : ℕ) (inner : Bool) (most n : ℕ) (rest : List ℕ) → n ≤ f → n ≤ most → (inner ≡ true → 0 < n) →
    groups inner most (spell n ++ rest) ≡ Ok (record { value = n; len = length (spell n) })
back_by zero inner most n rest f l p =
    let s : spell n ≡ n ∷ [] = spell_last n (omega arith) in
    rw s (at_last inner most n rest (is_right inner most n p l) (omega arith))
back_by (suc f) inner most n rest h l p =
    ⊎_elim
    (λ lt. let s : spell n ≡ n ∷ [] = spell_last n lt in rw s (at_last inner most n rest (is_right inner most n p l) lt))
    (λ ge.
    let s = spell-more n ge in
    let b = n % 128 + 128 in
    let ok = is_right inner most b (λ _. omega arith) (omega arith) in
    let one = at_more inner most b (spell (n / 128) ++ rest) ok (omega arith) in
    let all = back_by f true ((most - (b - 128)) / 128) (n / 128) rest (omega arith) (omega arith) (λ _. omega arith) in
    let v : b - 128 + 128 * (n / 128) ≡ n = omega arith in
    let k : 1 + length (spell (n / 128)) ≡ length (spell n) = omega (arith, ap length s) in
    ap (λ t. groups inner most (t ++ rest)) s ∙ one ∙ ap (behind b) all ∙ cc)
    (cases_lt n 128)

pub back : (most n : ℕ) (rest : List ℕ) → n ≤ most → uint most (spell n ++ rest) ≡ Ok (record { value = n; len = length (spell n) })
back most n rest h = back_by n false most n rest (omega arith) h (λ e. cc)

-- n is a number up to `most` that bs begins with, spelled as it would be written
pub record Spelt (inner : Bool) (most : ℕ) (bs : List ℕ) (n : Number) : Type 0 where
  pub rest : List ℕ
  pub fits : n.value ≤ most
  pub some : inner ≡ true → 0 < n.value
  pub len : n.len ≡ length (spell n.value)
  pub spelling : bs ≡ spell n.value ++ rest

spelt-last : (inner : Bool) (most b : ℕ) (bs : List ℕ) (n : Number) → wrong inner most b ≡ false → b < 128 → groups inner most (b ∷ bs) ≡ Ok n → Spelt inner most (b ∷ bs) n
spelt-last inner most b bs n ok lt e =
    let x = at_last inner most b bs ok lt in
    let s = spell_last b lt in
    let v : n.value ≡ b = cc in
    let l : n.len ≡ 1 = cc in
    record {
      rest = bs;
      fits = omega (arith, right_fits inner most b ok);
      some = λ i. omega (arith, right_some most b (ap (λ t. wrong t most b) (sym i) ∙ ok));
      len = l ∙ sym (ap length (ap spell v ∙ s));
      spelling = ap (λ t. t ++ bs) (sym (ap spell v ∙ s));
    }

spelt-behind : (inner : Bool) (most b : ℕ) (bs : List ℕ) (n : Number) (r : Result Number ℕ) →
    wrong inner most b ≡ false → 128 ≤ b → b < 256 → behind b r ≡ Ok n →
    ((m : Number) → r ≡ Ok m → Spelt true ((most - (b - 128)) / 128) bs m) → Spelt inner most (b ∷ bs) n
spelt-behind inner most b bs n (Err k) ok ge byte e f = absurd (not_both e refl)
spelt-behind inner most b bs n (Ok m) ok ge byte e f =
    let i = f m refl in
    let w = m.value in
    let pos : 0 < w = i.some refl in
    let v : n.value ≡ b - 128 + 128 * w = cc in
    let l : n.len ≡ 1 + m.len = cc in
    let big : 128 ≤ b - 128 + 128 * w = omega arith in
    let s = spell-more (b - 128 + 128 * w) big in
    let d : (b - 128 + 128 * w) / 128 ≡ w = omega arith in
    let o : (b - 128 + 128 * w) % 128 + 128 ≡ b = omega arith in
    let t : spell n.value ≡ b ∷ spell w = ap spell v ∙ s ∙ cc in
    let lim = right_fits inner most b ok in
    record {
      rest = i.rest;
      fits = omega (arith, i.fits);
      some = λ _. omega arith;
      len = omega (arith, ap length t, i.len);
      spelling = ap (λ y. b ∷ y) i.spelling ∙ ap (λ y. y ++ i.rest) (sym t);
    }

pub spelt : (bs : List ℕ) (inner : Bool) (most : ℕ) (n : Number) → Bytes bs → groups inner most bs ≡ Ok n → Spelt inner most bs n
spelt [] inner most n h e = absurd (not_both e (at_none inner most))
spelt (b ∷ bs) inner most n h e =
    ⊎_elim
    (λ bad. absurd (not_both e (at-wrong inner most b bs bad)))
    (λ ok.
    ⊎_elim
    (λ lt. spelt-last inner most b bs n ok lt e)
    (λ ge.
    spelt-behind inner most b bs n (groups true ((most - (b - 128)) / 128) bs) ok ge (All-head (λ (b : ℕ). b < 256) b bs h) (sym (at_more inner most b bs ok ge) ∙ e)
    (λ m f. spelt bs true ((most - (b - 128)) / 128) m (All-tail (λ (b : ℕ). b < 256) b bs h) f))
    (cases_lt b 128))
    (cases_Bool (wrong inner most b))

pub shortest : (most n len : ℕ) (bs : List ℕ) → Bytes bs → uint most bs ≡ Ok (record { value = n; len = len }) → (n ≤ most) × (bs ≡ spell n ++ drop len bs)
shortest most n len bs h e =
    let i = spelt bs false most (record { value = n; len = len }) h e in
    let d : drop len bs ≡ i.rest = ap (drop len) i.spelling ∙ drop_at (spell n) i.rest len (sym i.len) in
    (i.fits, i.spelling ∙ ap (λ x. spell n ++ x) (sym d))
