-- What messages and records say, as plain values. Assumes nothing.
use Rattle.std.specs.Prelude.{ℕ, List}

-- a signer's word, in one epoch, for the digest of a height
pub record Ack : Type 0 where
  pub height : ℕ
  pub epoch : ℕ
  pub signer : ℕ
  pub digest : List ℕ
  pub signature : List ℕ

-- a certificate, with what it is for
pub record Cert : Type 0 where
  pub height : ℕ
  pub digest : List ℕ
  pub bytes : List ℕ

-- what a record says
pub data Activity : Type 0 where
  ack : Ack → Activity
  certified : Cert → Activity
  tip : ℕ → Activity

-- what a message says: the sender's tip, and an ack
pub record TipAck : Type 0 where
  pub tip : ℕ
  pub ack : Ack
