-- How messages and records are written. Assumes nothing.
use Rattle.std.specs.Prelude.{ℕ, cond, List, ◌∷◌, ◌++◌, length, drop, Ok, Err, Result, nat_le}
use Rattle.forms.specs.declared.faults.Short.{Short}
use Rattle.forms.specs.Uint.{spell}
use Rattle.forms.specs.Values.{Ack, Activity, ack, certified, tip, TipAck}

-- height, digest, epoch, signer, signature
unfoldable pub write_ack : Ack → List ℕ
write_ack a = spell a.height ++ (a.digest ++ (spell a.epoch ++ (spell a.signer ++ a.signature)))

-- a record: one kind byte, and then its body
unfoldable pub write : Activity → List ℕ
write (ack a) = 0 ∷ write_ack a
write (certified c) = 1 ∷ (spell c.height ++ (c.digest ++ c.bytes))
write (tip t) = 2 ∷ spell t

-- a message: a tip, and an ack
unfoldable pub write_message : TipAck → List ℕ
write_message m = spell m.tip ++ write_ack m.ack

-- the answer of writing bs into a buffer: how many bytes were written, or that it is too short
abbrev pub fitted : List ℕ → List ℕ → Result ℕ Short
fitted bs out = cond (nat_le (length bs) (length out)) (Ok (length bs)) (Err (record {}))

-- what the buffer holds then: bs, and behind it what stood there; a buffer that is too short stays as it was
abbrev pub laid : List ℕ → List ℕ → List ℕ
laid bs out = cond (nat_le (length bs) (length out)) (bs ++ drop (length bs) out) out
