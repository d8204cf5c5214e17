use Rattle.std.proofs.Common.{Some, sym, ap, ◌∙◌}
use Rattle.types.specs.Numbers.{Participant}
use Rattle.table.specs.Keys.{earlier}
use Rattle.table.specs.Rows.{place}
use Rattle.provider.specs.Values.{number}
use Rattle.provider.proofs.Places.{found}
use Rattle.provider.proofs.positions.position.Goals as goal

pub returns-in_err-place-clause-placed : goal.returns-in_err-place-clause-placed
returns-in_err-place-clause-placed c = λ few up.
    ap number c.from_residual.ensures
    ∙ sym c.in_err-place.was
    ∙ found c.args.key.now c.args.keys.now c.rows.result.items _ c.rows.ensures up (c.position.ensures.placed ∙ ap (place earlier c.args.key.now) c.as_slice.ensures.value)

pub returns-clause-placed : goal.returns-clause-placed
returns-clause-placed c = λ few up.
    ap (λ (p : Participant). Some p.0) c.new.ensures
    ∙ sym c.in_ok-place.was
    ∙ found c.args.key.now c.args.keys.now c.rows.result.items _ c.rows.ensures up (c.position.ensures.placed ∙ ap (place earlier c.args.key.now) c.as_slice.ensures.value)
