-- Which heights an ack may have: the worked case of the window. Assumes nothing.
use Rattle.std.specs.Prelude.{◌≡◌, ℕ, not, [], ◌∷◌, is_some}
use Rattle.forms.specs.Values.{Ack}
use Rattle.provider.specs.Answers.{Answers}
use Rattle.provider.specs.Laws.{position}
use Rattle.rules.specs.State.{Bytes, Settings, Mem, pending_at, is_certified, ack_of, differs}
use Rattle.rules.specs.Plans.{refused, refusal}
use Rattle.rules.specs.Opening.{known, keys_of, outside}
use Rattle.rules.specs.Message.{is_at, checked, ack_answer}

-- the checks of an ack that stand before those of its height: 14 AckEpochOutsideBounds, 5 UnknownEpoch, 15 UnknownValidator, 16 PeerMismatch
abbrev pub before_height : Answers → Settings → Bytes → Ack → Mem → ℕ
before_height p s k a m =
    refusal (
    (14, outside s m.epoch a.epoch)
    ∷ (5, not (known p a.epoch))
    ∷ (15, not (is_some (position k (keys_of p a.epoch))))
    ∷ (16, not (is_at (position k (keys_of p a.epoch)) a.signer))
    ∷ [])

-- those that stand after the window: 17 AckCertified (of a certified height), 19 AckDigest, 20 AckDuplicate, 21 InvalidAckSignature
abbrev pub after_window : Answers → Ack → Mem → ℕ
after_window p a m =
    refusal (
    (17, is_certified m a.height)
    ∷ (19, differs (pending_at m a.height) a.digest)
    ∷ (20, is_some (ack_of m a.height a.epoch a.signer))
    ∷ (21, not (p.verifying.accepts a.epoch a.signer a.height a.digest a.signature))
    ∷ [])

-- an ack is refused with this number
abbrev pub Gets : ℕ → Answers → Settings → Bytes → Ack → Mem → Type 0
Gets n p s k a m = (checked p s k a m ≡ n) × (ack_answer p s k a m ≡ refused n)

-- the window lets an ack through: what it gets is what the later checks say
abbrev pub GoesOn : Answers → Settings → Bytes → Ack → Mem → Type 0
GoesOn p s k a m = checked p s k a m ≡ after_window p a m

-- tip 10, W 4, A 2, whatever the provider, the sender, the ack and the rest of what the engine knows, if the earlier checks pass:
-- height 7 gets 17, height 14 gets 18, heights 8 and 13 go on
abbrev pub WindowCases : Type 0
WindowCases =
    (p : Answers) (s : Settings) (k : Bytes) (a : Ack) (m : Mem) →
    m.tip ≡ 10 → s.window ≡ 4 → s.activity ≡ 2 → before_height p s k a m ≡ 0 →
    (a.height ≡ 7 → Gets 17 p s k a m)
    × (a.height ≡ 14 → Gets 18 p s k a m)
    × (a.height ≡ 8 → GoesOn p s k a m)
    × (a.height ≡ 13 → GoesOn p s k a m)
