-- A second reading answers what the first did. Assumes nothing.
use Rattle.std.proofs.Common.{◌≡◌, ℕ, Some, None, Ok, Err, Option, Result, sym, refl, ap, ◌∙◌, arith}
use Rattle.std.proofs.lemmas.Bool.{true≢false}
use Rattle.journal.specs.Log.{Log, all_synced, synced_to, reading, Firmer}
use Rattle.journal.specs.Steps.{Disk, Reading}
use Rattle.journal.specs.Laws.{Told}
use Rattle.journal.specs.declared.places.Overrun.{Overrun}
use Rattle.journal.specs.declared.stops.ReadStop.{ReadStop}
use Rattle.journal.specs.declared.stops.ReadStop.TheVariants.{Overrun as Overran, Full as Crammed, Off as Dark}
use Rattle.journal.proofs.Firm.{firmer_trans, firmer_reading}
use Rattle.journal.proofs.Lost.{firmer_firm}
use Rattle.journal.proofs.Stays.{synced_to_firmer}

all_read : (v w : Log) → Firmer (all_synced v) w → reading w.sections ≡ reading v.sections
all_read v w f = firmer_reading v w (firmer_trans v (all_synced v) w (firmer_firm v) f)

part-read : (x : Overrun) (v w : Log) → Firmer (synced_to x.place.section x.place.number v) w → reading w.sections ≡ reading v.sections
part-read x v w f = firmer_reading v w (firmer_trans v (synced_to x.place.section x.place.number v) w (synced_to_firmer x.place.section x.place.number v) f)

apart : (x : Overrun) (p : Option Overrun) → p ≡ None → p ≡ Some x → ⊥
apart x p a b = let z : ◌≡◌ {A = ℕ} 0 1 = cc in omega arith

one : (x y : Overrun) (p : Option Overrun) → p ≡ Some x → p ≡ Some y → y ≡ x
one x y p a b = cc

pub read_twice : (d e f : Disk) (o p q : Option Overrun) (r t : Result (Unit {0}) ReadStop) → Reading d o r e p → Reading e p t f q → Told r → (t ≡ Err Dark → ⊥) →
    (t ≡ r) × (reading e.log.sections ≡ reading d.log.sections) × (reading f.log.sections ≡ reading d.log.sections)
read_twice d e f o p q (Ok _) (Ok _) (_, _, _, n, g) (_, _, _, _, h) told lit = (refl, all_read d.log e.log g, all_read e.log f.log h ∙ all_read d.log e.log g)
read_twice d e f o p q (Ok _) (Err (Overran y)) (_, _, _, n, g) (_, _, m, _, h) told lit = absurd (apart y p n m)
read_twice d e f o p q (Ok _) (Err Crammed) (_, l, _, n, g) (m, _, h) told lit = absurd (true≢false (sym l ∙ m))
read_twice d e f o p q (Ok _) (Err Dark) a b told lit = absurd (lit refl)
read_twice d e f o p q (Err (Overran x)) (Ok _) (_, _, _, n, g) (_, _, m, _, h) told lit = absurd (apart x p m n)
read_twice d e f o p q (Err (Overran x)) (Err (Overran y)) (_, _, _, n, g) (_, _, m, _, h) told lit =
    (ap (λ (z : Overrun). Err (Overran z)) (one x y p n m), part-read x d.log e.log g, part-read y e.log f.log h ∙ part-read x d.log e.log g)
read_twice d e f o p q (Err (Overran x)) (Err Crammed) (_, l, _, n, g) (m, _, h) told lit = absurd (true≢false (sym l ∙ m))
read_twice d e f o p q (Err (Overran x)) (Err Dark) a b told lit = absurd (lit refl)
read_twice d e f o p q (Err Crammed) t a b told lit = absurd told
read_twice d e f o p q (Err Dark) t a b told lit = absurd told
