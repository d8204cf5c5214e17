use Rattle.std.proofs.Common.{◌∙◌}
use Rattle.provider.proofs.Own.{own-accepted, own-signs}
use Rattle.provider.proofs.checks.accepts_own.Goals as goal

pub returns : goal.returns
returns g c =
    c.accepts.ensures ∙ own-accepted _ (g.P.Provider.lawful _) _ _ _ _ _ c.in-Some.ensures c.in-Some-sign.ensures

pub returns-in_default-sign : goal.returns-in_default-sign
returns-in_default-sign g c = absurd (own-signs _ (g.P.Provider.lawful _) _ _ _ _ c.in-Some.ensures c.in_default-sign.ensures)
