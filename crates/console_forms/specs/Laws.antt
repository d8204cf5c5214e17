-- What holds of the lines, whatever their words. Assumes nothing.
use Rattle.std.specs.Prelude.{◌≡◌, Ok, length}
use Rattle.fields.specs.Lines.{Left}
use Rattle.forms.specs.Reading.{record_at, message_at}
use Rattle.forms.specs.Uint.{spell}
use Rattle.forms.specs.Values.{Activity, TipAck}
use Rattle.forms.specs.Writing.{write, write_message}
use Rattle.forms_laws.specs.Laws.{places, ack_places}
use Rattle.console_forms.specs.Reading.{tip_in, ack_record_in, certified_in, message_in}

-- what is written of a line is read back as what the line said, with no fault, and each part where it was written
pub record SaysBack : Type 0 where
  pub tip : (l : Left) (x : Activity) → tip_in l ≡ Ok x → record_at (write x) ≡ Ok (record { value = x; places = places x })
  pub ack : (l : Left) (x : Activity) → ack_record_in l ≡ Ok x → record_at (write x) ≡ Ok (record { value = x; places = places x })
  pub certified : (l : Left) (x : Activity) → certified_in l ≡ Ok x → record_at (write x) ≡ Ok (record { value = x; places = places x })
  pub message : (l : Left) (m : TipAck) → message_in l ≡ Ok m → message_at (write_message m) ≡ Ok (record { value = m; places = ack_places (length (spell m.tip)) m.ack })
