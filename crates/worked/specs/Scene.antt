-- Four signers of one epoch under the listed provider, the first of them the engine's own. Assumes nothing.
use Rattle.std.specs.Prelude.{ℕ, List, [], ◌∷◌, replicate, Some, refl}
use Rattle.std.specs.Borrow.{Bor}
use Rattle.types.specs.Numbers.{epoch, participant}
use Rattle.types.specs.Texts.{PublicKey, of_bytes}
use Rattle.forms.specs.Values.{Ack}
use Rattle.forms.specs.Writing.{write_message}
use Rattle.provider.specs.Answers.{Answers, Bytes}
use Rattle.trial.specs.declared.epoch_set.EpochSet.{EpochSet}
use Rattle.trial.specs.Trials.{tagged}
use Rattle.listed.specs.Listing.{listed}
use Rattle.rules.specs.State.{Settings}
use Rattle.rules.specs.Plans.{Event, opening, message, handing_back}

-- the key of signer i: 32 times the byte i
abbrev pub key : ℕ → Bytes
key i = replicate 32 i

abbrev pub public_key : ℕ → PublicKey
public_key i = of_bytes (key i) refl

-- keys as they are lent, wherever they lie
abbrev pub lent : List PublicKey → Bor (List PublicKey)
lent ks = record { ref_ptr = (0, 0); now = ks }

-- epoch 0: signers 0 to 3, own signer 0
abbrev pub signers : EpochSet
signers = record {
  epoch = epoch 0;
  keys = lent (public_key 0 ∷ public_key 1 ∷ public_key 2 ∷ public_key 3 ∷ []);
  me = Some (participant 0);
}

abbrev pub epochs : List EpochSet
epochs = signers ∷ []

abbrev pub provider : Answers
provider = listed epochs

-- W 2, A 2, one height to a section, no other epochs
abbrev pub settings : Settings
settings = record { window = 2; activity = 2; per_section = 1; older = 0; newer = 0; timeout = 1 }

-- what the application says of height 0
abbrev pub digest : Bytes
digest = replicate 32 7

-- the ack of signer i for height 0, in epoch 0
abbrev pub ack_by : ℕ → Ack
ack_by i = record { height = 0; epoch = 0; signer = i; digest = digest; signature = tagged i 0 digest }

-- it comes in a message that tells tip 0
abbrev pub heard_from : ℕ → Event
heard_from i = message (key i) (write_message (record { tip = 0; ack = ack_by i })) 2048

abbrev pub opened : Event
opened = opening 0 0 2048

abbrev pub own_digest : Event
own_digest = handing_back 0 digest 0 2048
