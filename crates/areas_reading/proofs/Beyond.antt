-- Where an overrun is found. Assumes nothing.
use Rattle.std.proofs.Common.{◌≡◌, ℕ, List, [], ◌∷◌, length, Bool, true, false, cond, Some, None, Option, sym, refl, ap, ◌∙◌, arith}
use Rattle.std.specs.Option.{option_map}
use Rattle.std.specs.List.{filter_map, cons_option, reduce}
use Rattle.areas_reading.proofs.Keyed.{least, low, reduce_least, fold_low}
use Rattle.area.specs.Area.{Area as Held, read, area_of, defect_of}
use Rattle.journal.specs.declared.places.Defect.{Defect}
use Rattle.area.proofs.Marks.{read_is}
use Rattle.journal.specs.declared.places.Defect.{Defect}
use Rattle.journal.specs.declared.places.Defect.TheVariants.{Area as SecondArea}
use Rattle.journal.specs.declared.places.Overrun.{Overrun}
use Rattle.areas.specs.Plan.{areas_of}
use Rattle.areas_reading.specs.Overruns.{overrun_at, behind, overrun_of, overrun_by, earlier, overrun_in, overrun}

pub defect_is : (bs : List ℕ) (a : Held) → read bs ≡ Some a → a.defect ≡ defect_of bs
unfolding area_of
defect_is bs a e = let r = read_is bs a e in sym (ap (λ x. x.defect) r)

pub of_none : (s : ℕ) (xs : List Held) → xs ≡ [] → None ≡ overrun_of s xs
unfolding overrun_of
of_none s xs e = sym (ap (overrun_of s) e)

pub of_defect : (s n : ℕ) (d : Defect) (a : Held) (xs rest : List Held) → xs ≡ a ∷ rest → n ≡ length a.records → a.defect ≡ Some d → Some (overrun_at s n d) ≡ overrun_of s xs
unfolding overrun_of behind
of_defect s n d a xs rest e l g =
    ap (λ m. Some (overrun_at s m d)) l ∙ sym (ap (overrun_of s) e ∙ ap (λ o. behind s (length a.records) o rest) g)

pub of_sole : (s : ℕ) (a : Held) (xs rest : List Held) → xs ≡ a ∷ rest → a.defect ≡ None → rest ≡ [] → None ≡ overrun_of s xs
unfolding overrun_of behind
of_sole s a xs rest e g h = sym (ap (overrun_of s) e ∙ ap (λ o. behind s (length a.records) o rest) g ∙ ap (behind s (length a.records) None) h)

pub of_second : (s n : ℕ) (a b : Held) (xs rest more : List Held) → xs ≡ a ∷ rest → n ≡ length a.records → a.defect ≡ None → rest ≡ b ∷ more → Some (overrun_at s n SecondArea) ≡ overrun_of s xs
unfolding overrun_of behind
of_second s n a b xs rest more e l g h =
    ap (λ m. Some (overrun_at s m SecondArea)) l ∙ sym (ap (overrun_of s) e ∙ ap (λ o. behind s (length a.records) o rest) g ∙ ap (behind s (length a.records) None) h)

pub by_none : (all : List (Option Held)) (o : Option Held) → option_map (λ a. a.section) o ≡ None → None ≡ overrun_by all o
unfolding overrun_by
by_none all None e = refl
by_none all (Some a) e = let z : ◌≡◌ {A = ℕ} 0 1 = cc in absurd (omega arith)

pub by_some : (all : List (Option Held)) (o : Option Held) (s : ℕ) → option_map (λ a. a.section) o ≡ Some s → overrun_of s (areas_of s all) ≡ overrun_by all o
unfolding overrun_by
by_some all None s e = let z : ◌≡◌ {A = ℕ} 0 1 = cc in absurd (omega arith)
by_some all (Some a) s e = let z : a.section ≡ s = cc in ap (λ t. overrun_of t (areas_of t all)) (sym z)

-- comparing the overruns one after the other gives the first

one_of : (b : Bool) (x y : Overrun) → Some (cond b x y) ≡ cond b (Some x) (Some y)
one_of true x y = refl
one_of false x y = refl

in_front : (o : Option Overrun) (xs : List Overrun) → reduce (low (λ x. x.place.section)) (cons_option o xs) ≡ earlier o (reduce (low (λ x. x.place.section)) xs)
in_front None xs = refl
in_front (Some x) [] = refl
in_front (Some x) (y ∷ ys) = ap Some (fold_low (λ x. x.place.section) x y ys) ∙ one_of _ x _

first_of : (all os : List (Option Held)) → reduce (low (λ x. x.place.section)) (filter_map (overrun_by all) os) ≡ overrun_in all os
unfolding overrun_in
first_of all [] = refl
first_of all (o ∷ os) = in_front (overrun_by all o) (filter_map (overrun_by all) os) ∙ ap (earlier (overrun_by all o)) (first_of all os)

pub first_is : (all : List (Option Held)) → reduce (least (λ x. x.place.section)) (filter_map (overrun_by all) all) ≡ overrun all
unfolding overrun
first_is all = reduce_least (λ x. x.place.section) (filter_map (overrun_by all) all) ∙ first_of all all
