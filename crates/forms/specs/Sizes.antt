-- Values of the sizes that the forms hold, and how long they are at most when they are written. Assumes nothing.
use Rattle.std.specs.Prelude.{◌≡◌, ℕ, ◌≤◌, length}
use Rattle.forms.specs.declared.measures.Sizes.{Sizes}
use Rattle.forms.specs.Reading.{top_number, top_height, top_signer}
use Rattle.forms.specs.Values.{Ack, Cert, Activity, ack, certified, tip, TipAck}
use Rattle.forms.specs.Writing.{write, write_message}

-- an ack of a height up to `most`
pub record SizedAck (most : ℕ) (a : Ack) : Type 0 where
  pub height : a.height ≤ most
  pub epoch : a.epoch ≤ top_number
  pub signer : a.signer ≤ top_signer
  pub digest : length a.digest ≡ 32
  pub signature : length a.signature ≡ 64

-- a certificate may have any length
pub record SizedCert (c : Cert) : Type 0 where
  pub height : c.height ≤ top_height
  pub digest : length c.digest ≡ 32

-- what a record holds
abbrev pub Sized : Activity → Type 0
Sized (ack a) = SizedAck top_height a
Sized (certified c) = SizedCert c
Sized (tip t) = t ≤ top_height

-- what a message holds
pub record SizedMessage (m : TipAck) : Type 0 where
  pub tip : m.tip ≤ top_number
  pub ack : SizedAck top_number m.ack

-- n is the largest of the sizes of all x of a kind
pub record Most {A : Type 0} (of : A → Type 0) (size : A → ℕ) (n : ℕ) : Type 0 where
  pub bound : (x : A) → of x → size x ≤ n
  pub one : A
  pub fits : of one
  pub reached : size one ≡ n

-- the longest certificate: a map of two bytes, and sixteen signatures of 64
abbrev pub top_certificate : ℕ
top_certificate = 1026

pub record ShortCert (c : Cert) : Type 0 where
  pub sized : SizedCert c
  pub short : length c.bytes ≤ top_certificate

-- the largest size of each form
pub record Largest (s : Sizes) : Type 0 where
  pub tip : Most (λ t. t ≤ top_height) (λ t. length (write (tip t))) s.tip
  pub ack : Most (SizedAck top_height) (λ a. length (write (ack a))) s.ack
  pub certified : Most ShortCert (λ c. length (write (certified c))) s.certified
  pub message : Most SizedMessage (λ m. length (write_message m)) s.message
