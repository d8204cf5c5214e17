use Rattle.std.proofs.Common.{ℕ, eqb, Some, Option, ap, ◌∙◌}
use Rattle.std.specs.Option.{option_eq}
use Rattle.area.specs.Area.{read}
use Rattle.areas.proofs.Walks.{owned_is}
use Rattle.areas.proofs.finds.owns.Goals as goal

pub returns : goal.returns
returns c =
    c.eq.ensures ∙ ap (λ (o : Option ℕ). option_eq eqb o (Some c.args.section)) c.section.ensures ∙ owned_is c.args.section (read c.args.area.now)
