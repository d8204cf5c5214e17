-- What is printed of an answer and of a refusal. Assumes nothing.
use Rattle.std.specs.Prelude.{ℕ, List, ◌++◌, codes, decimal}
use Rattle.tip_commands.specs.Printed.{fault_text}
use Rattle.console_tips.specs.declared.answers.Answer.{Answer}
use Rattle.console_tips.specs.declared.answers.Answer.TheVariants.{Seated, Counted, NotCounted}
use Rattle.console_tips.specs.declared.answers.Refusal.{Refusal}
use Rattle.console_tips.specs.declared.answers.Refusal.TheVariants.{Words, Size, NoSigners}

abbrev pub refusal_line : Refusal → List ℕ
refusal_line (Words fault) = codes "refused: " ++ fault_text fault
refusal_line (Size size) = codes "refused 11 SetSize: the set has " ++ (decimal size.seats ++ (codes " signers, not " ++ decimal size.keys))
refusal_line NoSigners = codes "refused: no signers yet, a line \"signers KEY KEY ..\" comes first"

abbrev pub answer_line : Answer → List ℕ
answer_line (Seated n f q t) =
    codes "signers " ++ (decimal n ++ (codes " faults " ++ (decimal f ++ (codes " quorum " ++ (decimal q ++ (codes " safe tip " ++ decimal t.0))))))
answer_line (Counted was t) = codes "counted, was " ++ (decimal was.0 ++ (codes ", safe tip " ++ decimal t.0))
answer_line (NotCounted t) = codes "not counted, safe tip " ++ decimal t.0
