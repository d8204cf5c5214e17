use Rattle.std.proofs.Common.{Some, Option, sym, ap, ◌∙◌, subst}
use Rattle.journal.specs.declared.places.Place.{Place}
use Rattle.journal.specs.declared.places.Overrun.{Overrun}
use Rattle.slots.specs.Entries.{turn_of, left}
use Rattle.slots.specs.Value.{defect}
use Rattle.slots.specs.Entries.{Begun}
use Rattle.slots.proofs.Walk.{begun_room, begun_over, first-passed, first-found, first-none}
use Rattle.slots.proofs.reading.first_overrun.Goals as goal

pub loop-entry-init : goal.loop-entry-init
loop-entry-init c =
    let xs = c.args.slots.now in
    let it = c.into_iter-entry-iterator.result in
    let begun : Begun 0 xs it = subst (Begun 0 xs) (sym c.into_iter-entry-iterator.ensures.into_iter_gives) c.from-entry-items.ensures in
    record { can = begun_room 0 xs it begun; finite = tt; same = begun_over xs it begun }

pub returns-in-Some-defect : goal.returns-in-Some-defect
returns-in-Some-defect c =
    let w = c.in-Some-defect.what in
    ap {B = Option Overrun} (λ (p : Place). Some (record { place = p; what = w })) c.place-place.ensures
    ∙ first-found (defect c.args.slots.now) (left c.loop-entry.entry-iterator) (turn_of c.in-Some.entry) _ w c.in-Some.ensures.steps (sym c.defect.ensures ∙ c.in-Some-defect.is)
    ∙ c.loop-entry.invariant.same

pub loop-entry-preserved : goal.loop-entry-preserved
loop-entry-preserved c =
    record {
      can = c.in-Some.ensures.goes.keeps;
      finite = tt;
      same =
          first-passed (defect c.args.slots.now) (left c.loop-entry.entry-iterator) (turn_of c.in-Some.entry) _ c.in-Some.ensures.steps (sym c.defect.ensures ∙ c.in_default.is)
          ∙ c.loop-entry.invariant.same;
    }

pub returns : goal.returns
returns c = first-none (defect c.args.slots.now) (left c.loop-entry.entry-iterator) c.in-None.ensures.steps.0 ∙ c.loop-entry.invariant.same
