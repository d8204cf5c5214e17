-- A certificate that is told on both sides of a power cut. Assumes nothing.
use Rattle.std.specs.Prelude.{◌≡◌, List, ◌∷◌, Some}
use mathlib.Core.List.{Memᴰ}
use Rattle.forms.specs.Values.{Ack, Cert, ack, certified}
use Rattle.provider.specs.Answers.{Answers}
use Rattle.provider.specs.Laws.{Lawful}
use Rattle.rules.specs.State.{Settings}
use Rattle.rules.specs.Acts.{Act, tell, send, whole, off}
use Rattle.rules.specs.Rules.{own}
use Rattle.rules.specs.Plans.{Event, opening, ok, power_off}
use Rattle.rules.specs.Runs.{Sys, Run, Deed, called}
use Rattle.rules.specs.Promises.{Happened, Rising, NoneUnderOwnKey}

-- A run whose last two calls are one that a power cut falls into, and an opening that is carried out.
-- One certificate is told in both. No message came under an own key, no opening went back to an earlier epoch, and an own ack was sent before the cut and told after it
pub record ToldAgain (p : Answers) (s : Settings) : Type 0 where
  pub lawful : Lawful p
  pub left : Sys
  pub past : List Deed
  pub event : Event
  pub before : List Act
  pub after : List Act
  pub cert : Cert
  pub mine : Ack
  pub run : Run p s left (called whole (opening 0 0 2048) ok after ∷ called off event power_off before ∷ past)
  pub first : Memᴰ (tell (certified cert)) before
  pub again : Memᴰ (tell (certified cert)) after
  pub sent : Happened (send 0 mine) past
  pub told : Memᴰ (tell (ack mine)) after
  pub owned : own p mine.epoch ≡ Some mine.signer
  pub rising : Rising (called whole (opening 0 0 2048) ok after ∷ called off event power_off before ∷ past)
  pub foreign : NoneUnderOwnKey p (called whole (opening 0 0 2048) ok after ∷ called off event power_off before ∷ past)
