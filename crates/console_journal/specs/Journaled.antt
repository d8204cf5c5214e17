-- The value of a journal over a medium that is lent. Assumes nothing.
use Rattle.byte_journal.specs.declared.ByteJournal.{ByteJournal}
use Rattle.byte_journal.specs.Value.{disk_of as bytes_disk, overrun_of as bytes_overrun, power_of as bytes_power}
use Rattle.slots.specs.declared.SlotJournal.{SlotJournal}
use Rattle.slots.specs.Value.{disk_of as slots_disk, overrun_of as slots_overrun, power_of as slots_power}
use Rattle.console_journal.specs.Doing.{Value}

abbrev pub slots_journal : SlotJournal → Value
slots_journal j = record { disk = slots_disk j; overrun = slots_overrun j; power = slots_power j }

abbrev pub bytes_journal : ByteJournal → Value
bytes_journal j = record { disk = bytes_disk j; overrun = bytes_overrun j; power = bytes_power j }
