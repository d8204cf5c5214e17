-- An answer, plainly. Assumes nothing.
use Rattle.std.specs.Prelude.{ℕ, Option}
use Rattle.bitmaps.specs.declared.rejection.Rejection.{Rejection}
use Rattle.provider.specs.Answers.{Bytes}
use Rattle.provider.specs.Values.{number}
use Rattle.provider_commands.specs.declared.commands.Kind.{Kind}
use Rattle.console_provider.specs.declared.answers.Answer.{Answer}
use Rattle.console_provider.specs.declared.answers.Answer.TheVariants.{Chosen, Known, Signed, Accepted, Rejected, Assembled, Against}

-- what is told in answer to a command
pub data Told : Type 0 where
  -- this provider answers
  chosen : Kind → Told
  -- of an epoch: its signers, how many may be faulty and are a quorum, the own signer
  known : ℕ → ℕ → ℕ → ℕ → Option ℕ → Told
  -- the own signature
  signed : Bytes → Told
  -- a signature or a certificate is accepted, a signature is not
  accepted : Told
  rejected : Told
  -- a certificate
  assembled : Bytes → Told
  -- the reason against a certificate
  against : Rejection → Told

abbrev pub told : Answer → Told
told (Chosen k) = chosen k
told (Known e n f q own) = known e.0 n f q (number own)
told (Signed s) = signed s.bytes
told Accepted = accepted
told Rejected = rejected
told (Assembled c) = assembled c.items
told (Against r) = against r
