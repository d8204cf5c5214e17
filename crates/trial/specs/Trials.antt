-- What a trial answers of keys, own signers and signatures, over a list of epochs. Assumes nothing.
use Rattle.std.specs.Prelude.{ℕ, Bool, false, ◌&&◌, List, Some, None, Option, nat_lt}
use Rattle.std.specs.Option.{option_map}
use Rattle.std.specs.Str.{bytes_eq}
use Rattle.provider.specs.Answers.{Bytes}
use Rattle.provider.specs.Values.{number}
use Rattle.tags.specs.Tags.{tag_of, signature_of}
use Rattle.trial.specs.declared.epoch_set.EpochSet.{EpochSet}
use Rattle.trial.specs.Sets.{keys_in, count_of, set_at}

-- the keys of a set, if there is one
abbrev pub keys_among : Option EpochSet → Option (List Bytes)
keys_among o = option_map keys_in o

-- its own signer
abbrev pub own_among : Option EpochSet → Option ℕ
own_among None = None
own_among (Some s) = number s.me

-- the one signature that is accepted of a signer for a height and a digest
abbrev pub tagged : ℕ → ℕ → Bytes → Bytes
tagged i h d = signature_of (tag_of i h d)

-- whether a signature is that of a signer of the set
abbrev pub accepted_among : Option EpochSet → ℕ → ℕ → Bytes → Bytes → Bool
accepted_among None i h d s = false
accepted_among (Some e) i h d s = nat_lt i (count_of e) && bytes_eq (tagged i h d) s

-- what a signer signs, if there is one
abbrev pub signed_by : Option ℕ → ℕ → Bytes → Option Bytes
signed_by o h d = option_map (λ i. tagged i h d) o

-- the answers of a list
abbrev pub keys_at : List EpochSet → ℕ → Option (List Bytes)
keys_at ss e = keys_among (set_at e ss)

abbrev pub own_at : List EpochSet → ℕ → Option ℕ
own_at ss e = own_among (set_at e ss)

abbrev pub accepts_at : List EpochSet → ℕ → ℕ → ℕ → Bytes → Bytes → Bool
accepts_at ss e i h d s = accepted_among (set_at e ss) i h d s

abbrev pub sign_at : List EpochSet → ℕ → ℕ → Bytes → Option Bytes
sign_at ss e h d = signed_by (own_among (set_at e ss)) h d
