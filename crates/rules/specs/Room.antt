-- Why 512 places are enough for the stored acks. Assumes nothing.
use Rattle.std.specs.Prelude.{◌≡◌, ℕ, ◌+◌, ◌^◌, ◌<◌, ◌≤◌, Bool, true, false, List, [], ◌∷◌, length, Some, None, Option, All}
use Rattle.forms.specs.Values.{Ack, Cert}
use Rattle.provider.specs.Answers.{Answers}
use Rattle.provider.specs.Laws.{Lawful}
use Rattle.rules.specs.Lists.{those, placed}
use Rattle.rules.specs.State.{Bytes, Seat, Pending, Settings, allowed, Mem, Desk, running, low, is_pending, ack_below}
use Rattle.rules.specs.Rules.{with_acks}
use Rattle.rules.specs.Opening.{outside}
use Rattle.rules.specs.Runs.{Sys, Run, Deed}

-- how many pass
abbrev pub count : {A : Type 0} → (A → Bool) → List A → ℕ
count q xs = length (those q xs)

-- each ack stands below all that follow it, by height, epoch and signer: there is one for each of these at most
abbrev pub Ascends : List Ack → Type 0
Ascends [] = Unit {0}
Ascends (a ∷ xs) = All (λ b. ack_below a b ≡ true) xs × Ascends xs

-- a height from tip − A up, below tip + W
abbrev pub InWindow : Settings → ℕ → ℕ → Type 0
InWindow s tip h = (low s tip ≤ h) × (h < tip + s.window)

-- an ack of the sizes of its form
pub record Formed (a : Ack) : Type 0 where
  pub epoch : a.epoch < 2 ^ 64
  pub signer : a.signer < 16
  pub digest : length a.digest ≡ 32
  pub signature : length a.signature ≡ 64

-- a digest, where there is one, has 32 bytes
abbrev pub DigestSized : Option Bytes → Type 0
DigestSized None = Unit {0}
DigestSized (Some d) = length d ≡ 32

-- acks in order, of heights in the window and of the sizes of their form, at most `most` of them outside the epoch bounds;
-- pending and certified heights in the window, and told tips below 2^62
pub record Tidy (s : Settings) (epoch most tip : ℕ) (acks : List Ack) (pending : List Pending) (certs : List Cert) (seats : List Seat) : Type 0 where
  pub small : epoch < 2 ^ 64
  pub ordered : Ascends acks
  pub near : All (λ a. InWindow s tip a.height × Formed a) acks
  pub few : count (λ a. outside s epoch a.epoch) acks ≤ most
  pub window : All (λ x. InWindow s tip x.height × DigestSized x.verified) pending
  pub certified : All (λ c. InWindow s tip c.height) certs
  pub told : All (λ x. x.tip < 2 ^ 62) seats

-- what is true of a running engine's tables: so, with at most 128 acks outside the epoch bounds
abbrev pub Neat : Settings → Mem → Type 0
Neat s m = Tidy s m.epoch 128 m.tip m.acks m.pending m.certs m.seats

-- an ack that may be stored: its height is pending, it has the sizes of its form, and its epoch is inside the bounds
abbrev pub Storable : Settings → Mem → Ack → Type 0
Storable s m a = (is_pending m a.height ≡ true) × Formed a × (outside s m.epoch a.epoch ≡ false)

-- In every run a running engine's settings are allowed and its tables neat.
-- Neat tables have at most 512 acks: 8 heights, 16 signers and 3 epochs inside the bounds make 384, and 128 lie outside; and with one more ack that may be stored they are still neat
abbrev pub AcksFit : Type 0
AcksFit =
    ((p : Answers) (s : Settings) (x : Sys) (past : List Deed) → Lawful p → Run p s x past →
    (m : Mem) (k : Desk) → x.engine ≡ running m k → (allowed s ≡ true) × Neat s m × (length m.acks ≤ 512))
    × ((s : Settings) (m : Mem) → allowed s ≡ true → Neat s m → length m.acks ≤ 512)
    × ((s : Settings) (m : Mem) (a : Ack) → Neat s m → Storable s m a → Neat s (with_acks (placed ack_below a m.acks) m))
