use Rattle.std.proofs.Common.{refl}
use Rattle.forms.specs.Uint.{spell, spell_by, groups}
use Rattle.forms_laws.proofs.Numbers.{back, shortest}
use Rattle.forms_laws.proofs.numbers_stand.Goals as goal

pub returns : goal.returns
unfolding spell spell_by groups
returns c = record { back = back; shortest = shortest; cases = (refl, refl, refl) }
