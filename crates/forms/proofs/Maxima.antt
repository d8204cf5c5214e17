-- The largest size of each form, and a value that reaches it.
use Rattle.std.proofs.Common.{◌≡◌, ℕ, ◌+◌, ◌≤◌, length, replicate, refl, arith}
use Rattle.std.proofs.lemmas.List.{length-replicate}
use Rattle.forms.specs.Uint.{spell}
use Rattle.forms.specs.Values.{Ack, Cert, TipAck, ack, certified, tip}
use Rattle.forms.specs.Writing.{write, write_ack, write_message}
use Rattle.forms.specs.Reading.{top_number, top_height, top_signer}
use Rattle.forms.specs.Sizes.{SizedAck, SizedMessage, ShortCert, Most, top_certificate}
use Rattle.forms.proofs.Spelling.{length-spell, spell-least}
use Rattle.forms.proofs.Lengths.{length-ack, length-ack_record, length-certified, length-tip, length-message}

high_groups : length (spell top_height) ≡ 9
high_groups = omega (arith, length-spell 8 top_height (omega arith), spell-least 8 top_height (omega arith))

top-groups : length (spell top_number) ≡ 10
top-groups = omega (arith, length-spell 9 top_number (omega arith), spell-least 9 top_number (omega arith))

signer-groups : length (spell top_signer) ≡ 1
signer-groups = omega (arith, length-spell 0 top_signer (omega arith), spell-least 0 top_signer (omega arith))

-- the ack of the highest height, epoch and signer
abbrev top_ack : ℕ → Ack
top_ack h = record { height = h; epoch = top_number; signer = top_signer; digest = replicate 32 0; signature = replicate 64 0 }

top-sized : (most : ℕ) → SizedAck most (top_ack most)
top-sized most = record { height = omega arith; epoch = omega arith; signer = omega arith; digest = refl; signature = refl }

ack-bound : (k most : ℕ) (a : Ack) → ((h : ℕ) → h ≤ most → length (spell h) ≤ k) → SizedAck most a → length (write_ack a) ≤ k + 107
ack-bound k most a f s =
    omega (arith, length-ack a, f a.height s.height, length-spell 9 a.epoch (omega (arith, s.epoch)), length-spell 0 a.signer (omega (arith, s.signer)), s.digest, s.signature)

top-length : (k h : ℕ) → length (spell h) ≡ k → length (write_ack (top_ack h)) ≡ k + 107
top-length k h e = omega (arith, length-ack (top_ack h), top-groups, signer-groups, length-replicate {A = ℕ} 32 0, length-replicate {A = ℕ} 64 0)

pub most-tip : Most (λ t. t ≤ top_height) (λ t. length (write (tip t))) 10
most-tip =
    record {
      bound = λ t h. omega (arith, length-tip t, length-spell 8 t (omega arith));
      one = top_height;
      fits = omega arith;
      reached = omega (arith, length-tip top_height, high_groups);
    }

pub most-ack : Most (SizedAck top_height) (λ a. length (write (ack a))) 117
most-ack =
    record {
      bound = λ a s. omega (arith, length-ack_record a, ack-bound 9 top_height a (λ h l. length-spell 8 h (omega arith)) s);
      one = top_ack top_height;
      fits = top-sized top_height;
      reached = omega (arith, length-ack_record (top_ack top_height), top-length 9 top_height high_groups);
    }

abbrev top_cert : Cert
top_cert = record { height = top_height; digest = replicate 32 0; bytes = replicate top_certificate 0 }

pub most-certified : Most ShortCert (λ c. length (write (certified c))) 1068
most-certified =
    record {
      bound = λ c s. omega (arith, length-certified c, length-spell 8 c.height (omega (arith, s.sized.height)), s.sized.digest, s.short);
      one = top_cert;
      fits = record { sized = record { height = omega arith; digest = refl }; short = omega (arith, length-replicate {A = ℕ} top_certificate 0) };
      reached = omega (arith, length-certified top_cert, high_groups, length-replicate {A = ℕ} 32 0, length-replicate {A = ℕ} top_certificate 0);
    }

abbrev top_message : TipAck
top_message = record { tip = top_number; ack = top_ack top_number }

pub most-message : Most SizedMessage (λ m. length (write_message m)) 127
most-message =
    record {
      bound = λ m s. omega (arith, length-message m, length-spell 9 m.tip (omega (arith, s.tip)), ack-bound 10 top_number m.ack (λ h l. length-spell 9 h (omega arith)) s.ack);
      one = top_message;
      fits = record { tip = omega arith; ack = top-sized top_number };
      reached = omega (arith, length-message top_message, top-groups, top-length 10 top_number top-groups);
    }
