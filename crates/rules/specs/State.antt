-- What the engine knows. Assumes nothing.
use Rattle.std.specs.Prelude.{ℕ, ◌+◌, ◌-◌, ◌/◌, Bool, false, not, ◌&&◌, ◌||◌, List, [], is_some, Some, None, Option, ◌==◌, nat_eq, nat_le, nat_lt}
use Rattle.std.specs.Str.{bytes_eq}
use Rattle.forms.specs.Values.{Ack, Cert}
use Rattle.rules.specs.Lists.{first, any, opt, highest}

abbrev pub Bytes : Type 0
Bytes = List ℕ

-- a signer's key, and its recorded tip
pub record Seat : Type 0 where
  pub key : Bytes
  pub tip : ℕ

-- a height that is being worked on, and its digest once it is verified
pub record Pending : Type 0 where
  pub height : ℕ
  pub verified : Option Bytes

-- when a height is to be sent again
pub record Deadline : Type 0 where
  pub time : ℕ
  pub height : ℕ

-- W, A, heights in a section, older and newer epochs that count, and the time after which an ack is sent again
pub record Settings : Type 0 where
  pub window : ℕ
  pub activity : ℕ
  pub per_section : ℕ
  pub older : ℕ
  pub newer : ℕ
  pub timeout : ℕ

-- the settings that an engine may have; an opening refuses all others
abbrev pub allowed : Settings → Bool
allowed s =
    nat_le 1 s.window && (nat_le (s.window + s.activity) 8 && (nat_le 1 s.per_section && (nat_le s.per_section 4294967296
    && (nat_le (s.older + s.newer) 2 && (nat_le 1 s.timeout && nat_le s.timeout 4294967296)))))

-- what a running engine knows: heights without a certificate (some of which have one by now), stored acks by height, epoch and signer,
-- certificates by height, deadlines by time and height, and heights that want a slip; each ascending
pub record Mem : Type 0 where
  pub epoch : ℕ
  pub tip : ℕ
  pub seats : List Seat
  pub pending : List Pending
  pub acks : List Ack
  pub certs : List Cert
  pub deadlines : List Deadline
  pub wanted : List ℕ

-- the slips: how many are out, and which of those are lodged
pub record Desk : Type 0 where
  pub out : ℕ
  pub lodged : List ℕ

pub data Engine : Type 0 where
  shut : Engine
  running : Mem → Desk → Engine
  halted : Desk → Engine

abbrev pub no_slips : Desk
no_slips = record { out = 0; lodged = [] }

abbrev pub desk_of : Engine → Desk
desk_of shut = no_slips
desk_of (running m k) = k
desk_of (halted k) = k

-- what lies below it is dropped when the tip is t
abbrev pub low : Settings → ℕ → ℕ
low s t = t - s.activity

-- the section of a height
abbrev pub section : Settings → ℕ → ℕ
section s h = h / s.per_section

-- what is known of a pending height
abbrev pub pending_at : Mem → ℕ → Option Pending
pending_at m h = first (λ p. nat_eq p.height h) m.pending

abbrev pub is_pending : Mem → ℕ → Bool
is_pending m h = is_some (pending_at m h)

abbrev pub is_certified : Mem → ℕ → Bool
is_certified m h = any (λ c. nat_eq c.height h) m.certs

-- the stored ack of a height, an epoch and a signer
abbrev pub ack_of : Mem → ℕ → ℕ → ℕ → Option Ack
ack_of m h e i = first (λ a. (a.height == h) && (a.epoch == e && a.signer == i)) m.acks

-- the verified digest of a pending height, if it has one, is another
abbrev pub differs : Option Pending → Bytes → Bool
differs None d = false
differs (Some p) d = opt p.verified false (λ v. not (bytes_eq v d))

-- the highest of tip, last pending + 1 and last certified + 1
abbrev pub next : Mem → ℕ
next m = highest (λ p. p.height + 1) (highest (λ c. c.height + 1) m.tip m.certs) m.pending

-- acks by height, then epoch, then signer
abbrev pub ack_below : Ack → Ack → Bool
ack_below a b =
    nat_lt a.height b.height
    || (a.height == b.height && (nat_lt a.epoch b.epoch || (a.epoch == b.epoch && nat_lt a.signer b.signer)))

-- deadlines by time, then height
abbrev pub sooner : Deadline → Deadline → Bool
sooner a b = nat_lt a.time b.time || (a.time == b.time && nat_lt a.height b.height)
