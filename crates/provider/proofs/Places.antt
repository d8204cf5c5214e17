-- A table of keys in ascending order has a key where it first stands among them. Assumes nothing.
use Rattle.std.proofs.Common.{◌≡◌, ℕ, true, false, cond, List, [], ◌∷◌, Some, None, Option, sym, refl, ap, ◌∙◌, subst, ⊎_elim}
use Rattle.std.proofs.lemmas.Bool.{cases_Bool, cond-true, cond-false, both_ways}
use Rattle.std.proofs.lemmas.Slice.Eq.{bytes_eq-Decides}
use Rattle.std.specs.Str.{bytes_eq}
use Rattle.types.specs.Texts.{PublicKey}
use Rattle.table.specs.declared.Entry.{Entry}
use Rattle.table.specs.Keys.{lower, earlier}
use Rattle.table.specs.Rows.{place, onward}
use Rattle.table.specs.Bytewise.{lower_total}
use Rattle.provider.specs.Answers.{Bytes}
use Rattle.provider.specs.Laws.{Ascending, position}
use Rattle.provider.specs.Positions.{row_keys}
use Rattle.provider.specs.Values.{key_bytes}

-- keys that are not one differ in their bytes
apart : (k x : Bytes) → lower k x ≡ true → bytes_eq k x ≡ false
apart k x below =
    ⊎_elim
    (λ same.
    let e = (bytes_eq-Decides k x).0 same in
    absurd (both_ways (lower x x) (lower_total.never x) (subst (λ (b : Bytes). lower b x ≡ true) e below)))
    (λ other. other)
    (cases_Bool (bytes_eq k x))

-- a key below the first has no position
pub absent : (k x : Bytes) (xs : List Bytes) → Ascending lower (x ∷ xs) → lower k x ≡ true → position k (x ∷ xs) ≡ None
absent k x [] up below = cond-false (bytes_eq k x) (Some 0) None (apart k x below)
absent k x (y ∷ ys) up below =
    cond-false (bytes_eq k x) (Some 0) (onward (position k (y ∷ ys))) (apart k x below)
    ∙ ap onward (absent k y ys up.1 (lower_total.trans k x y below up.0))

tail : (x : Bytes) (xs : List Bytes) → Ascending lower (x ∷ xs) → Ascending lower xs
tail x [] up = tt
tail x (y ∷ ys) up = up.1

pub placed : {V : Type 0} (k : PublicKey) (rows : List (Entry PublicKey V)) → Ascending lower (key_bytes (row_keys rows)) → place earlier k rows ≡ position k.bytes (key_bytes (row_keys rows))
placed k [] up = refl
placed k (e ∷ es) up =
    let x = e.key.bytes in
    let rest : Option ℕ = place earlier k es in
    let ahead : Option ℕ = position k.bytes (key_bytes (row_keys es)) in
    let ih = placed k es (tail x (key_bytes (row_keys es)) up) in
    ⊎_elim
    (λ above.
    let other : bytes_eq k.bytes x ≡ false =
    ⊎_elim
    (λ same. absurd (both_ways (lower x x) (lower_total.never x) (subst (λ (b : Bytes). lower x b ≡ true) ((bytes_eq-Decides k.bytes x).0 same) above)))
    (λ n. n)
    (cases_Bool (bytes_eq k.bytes x)) in
    cond-true (lower x k.bytes) (onward rest) (cond (lower k.bytes x) None (Some 0)) above
    ∙ ap onward ih
    ∙ sym (cond-false (bytes_eq k.bytes x) (Some 0) (onward ahead) other))
    (λ above.
    cond-false (lower x k.bytes) (onward rest) (cond (lower k.bytes x) None (Some 0)) above
    ∙ ⊎_elim
    (λ below.
    cond-true (lower k.bytes x) None (Some 0) below
    ∙ sym (absent k.bytes x (key_bytes (row_keys es)) up below))
    (λ below.
    let same : bytes_eq k.bytes x ≡ true = (bytes_eq-Decides k.bytes x).1 (lower_total.tied k.bytes x below above) in
    cond-false (lower k.bytes x) None (Some 0) below ∙ sym (cond-true (bytes_eq k.bytes x) (Some 0) (onward ahead) same))
    (cases_Bool (lower k.bytes x)))
    (cases_Bool (lower x k.bytes))

-- what the table of the keys answers is the position
pub found : {V : Type 0} (k : PublicKey) (ks : List PublicKey) (rows : List (Entry PublicKey V)) (o : Option ℕ) → row_keys rows ≡ ks
    → Ascending lower (key_bytes ks) → o ≡ place earlier k rows → o ≡ position k.bytes (key_bytes ks)
found k ks rows o same up answer =
    answer
    ∙ placed k rows (subst (λ (js : List PublicKey). Ascending lower (key_bytes js)) (sym same) up)
    ∙ ap (λ (js : List PublicKey). position k.bytes (key_bytes js)) same
