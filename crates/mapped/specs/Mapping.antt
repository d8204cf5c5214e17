-- What a provider answers whose certificates begin with the map of their signers. Assumes nothing.
use Rattle.std.specs.Prelude.{ℕ, List, Option}
use Rattle.bitmaps.specs.declared.rejection.Rejection.{Rejection}
use Rattle.provider.specs.Answers.{Answers, Bytes}
use Rattle.trial.specs.declared.epoch_set.EpochSet.{EpochSet}
use Rattle.trial.specs.Sets.{set_at}
use Rattle.trial.specs.Trials.{keys_at, own_at, accepts_at, sign_at}
use Rattle.mapped.specs.Bodies.{Meaning}
use Rattle.mapped.specs.Certificates.{assemble_in}
use Rattle.mapped.specs.Judging.{valid_in, reject_body, reject_in}

-- the first reason against what stands behind the map, for an epoch, a height and a digest, of n signers and those that stand
abbrev pub body_rejected : Meaning → List EpochSet → ℕ → ℕ → Bytes → ℕ → List ℕ → Bytes → Option Rejection
body_rejected m ss e h d n is body = reject_body m.size (m.good (set_at e ss) h d) n is body

-- the first reason against a certificate, for an epoch, a height and a digest
abbrev pub rejected : Meaning → List EpochSet → ℕ → ℕ → Bytes → Bytes → Option Rejection
rejected m ss e h d c = reject_in m.size (m.good (set_at e ss) h d) (set_at e ss) c

abbrev pub mapped : Meaning → List EpochSet → Answers
mapped m ss = record {
  verifying = record {
    keys = keys_at ss;
    accepts = accepts_at ss;
    valid = λ e h d c. valid_in m.size (m.good (set_at e ss) h d) (set_at e ss) c;
  };
  signing = record {
    own = own_at ss;
    sign = sign_at ss;
    assemble = λ e qs. assemble_in m.body (set_at e ss) qs;
  };
}
