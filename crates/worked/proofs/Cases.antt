-- The worked case, by computing. Assumes nothing.
use Rattle.std.proofs.Common.{refl}
use Rattle.forms.specs.Uint.{spell_by, spell, groups}
use Rattle.forms.specs.Writing.{write_ack, write, write_message}
use Rattle.forms.specs.Reading.{record_at, message_at}
use Rattle.journal.specs.Log.{empty, all_of, firm, firm_to, added, from, appended, synced, all_synced, synced_to, pruned, numbered, reading}
use Rattle.tags.specs.Tags.{turned, tag_of, signature_of}
use Rattle.tags.specs.Words.{word, eight_bytes}
use Rattle.worked.specs.Cases.{WorkedCase}

pub worked_case : WorkedCase
unfolding spell_by spell groups write_ack write write_message record_at message_at empty all_of firm firm_to added from appended synced all_synced synced_to pruned numbered reading turned tag_of signature_of word eight_bytes
worked_case = refl
