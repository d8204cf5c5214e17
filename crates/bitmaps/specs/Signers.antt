-- A list of signers as the plain one. Assumes nothing.
use Rattle.std.specs.Prelude.{ℕ, List, take}
use Rattle.bitmaps.specs.declared.signer_list.Signers.{Signers}

abbrev pub listed : Signers → List ℕ
listed s = take s.len s.list
