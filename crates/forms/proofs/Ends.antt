-- What a record or a message says, by what stands first in it.
use Rattle.std.proofs.Common.{◌≡◌, ℕ, ◌-◌, ◌<◌, ◌≤◌, List, [], ◌∷◌, length, get_or, take, drop, sym, refl, ap, ◌∙◌, arith}
use Rattle.std.proofs.lemmas.List.{take_all}
use Rattle.std.proofs.lemmas.Bool.{ne_eqb}
use Rattle.forms.specs.declared.kinds.Kind.{Kind}
use Rattle.forms.specs.Kinds.{code_of}
use Rattle.forms.specs.Reading.{Piece, bytes_from, by_kind, record_at, no_kind}

pub kind_none : (k : ℕ) (p : Piece) → 2 < k → by_kind k p ≡ no_kind
kind_none k p h =
    let r = ne_eqb k 0 (λ z. omega arith) in
    let s = ne_eqb k 1 (λ z. omega arith) in
    let t = ne_eqb k 2 (λ z. omega arith) in
    simp (r, s, t)

pub record_none : (bs : List ℕ) → length bs ≡ 0 → record_at bs ≡ no_kind
unfolding record_at
record_none [] h = refl
record_none (b ∷ bs) h = absurd (omega arith)

-- the first byte and the part behind it
pub first_rest : (bs : List ℕ) → 1 ≤ length bs → bs ≡ get_or bs 0 0 ∷ take (length bs - 1) (drop 1 bs)
first_rest [] h = absurd (omega arith)
first_rest (b ∷ bs) h = ap (λ l. b ∷ l) (sym (take_all (length (b ∷ bs) - 1) bs (omega arith)))

-- a record, by the kind whose byte stands first and by what stands behind it
pub record_of : {bs rest : List ℕ} {code : ℕ} {kind this : Kind} →
    bs ≡ code ∷ rest → code_of kind ≡ code → kind ≡ this → record_at bs ≡ by_kind (code_of this) (bytes_from rest 1)
unfolding record_at
record_of {rest = rest} e k t = ap record_at (e ∙ ap (λ c. c ∷ rest) (sym k ∙ ap code_of t))

-- a record whose first byte is that of no kind
pub record_unknown : {bs rest : List ℕ} {code : ℕ} → bs ≡ code ∷ rest → 2 < code → record_at bs ≡ no_kind
unfolding record_at
record_unknown e h = ap record_at e ∙ kind_none _ _ h
