-- The worked case. Assumes nothing.
use Rattle.std.specs.Prelude.{◌≡◌, true, [], ◌∷◌}
use Rattle.rules.specs.Plans.{ok, slip, refused, taking}
use Rattle.rules.specs.Played.{new, play}
use Rattle.worked.specs.Scene.{provider, settings, opened, own_digest, heard_from}

-- n 4, W 2, A 2, epoch and told tips 0: the own digest for height 0 writes 103 bytes, a message to all,
-- a second ack 0, a third 236, of which the first are a told certificate, and the fourth gets 17
abbrev pub WorkedCase : Type 0
WorkedCase =
    play provider settings new (opened ∷ taking ∷ own_digest ∷ heard_from 1 ∷ heard_from 2 ∷ heard_from 3 ∷ [])
    ≡ record { answer = ok; bytes = 0; begins = []; done = true }
    ∷ record { answer = slip 0; bytes = 0; begins = []; done = true }
    ∷ record { answer = ok; bytes = 103; begins = 2 ∷ 0 ∷ 100 ∷ []; done = true }
    ∷ record { answer = ok; bytes = 0; begins = []; done = true }
    ∷ record { answer = ok; bytes = 236; begins = 1 ∷ 0 ∷ 228 ∷ []; done = true }
    ∷ record { answer = refused 17; bytes = 0; begins = []; done = true }
    ∷ []
