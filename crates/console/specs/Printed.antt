-- What is printed of an answer, of a refusal and of a summary. Assumes nothing.
use Rattle.std.specs.Prelude.{ℕ, cond, List, [], ◌∷◌, ◌++◌, length, take, Some, None, codes, decimal, Option, nat_lt}
use Rattle.std.specs.Char.{is_ascii_graphic}
use Rattle.std.specs.List.{flat_map}
use Rattle.console_forms.specs.Printed.{answer_line as forms_answer, refusal_line as forms_refusal}
use Rattle.console_forms.specs.Reading.{said}
use Rattle.console_journal.specs.Printed.{answer_text as journals_answer, refusal_line as journals_refusal}
use Rattle.console_provider.specs.Printed.{answer_line as providers_answer, refusal_line as providers_refusal}
use Rattle.console_tips.specs.Printed.{answer_line as tips_answer, refusal_line as tips_refusal}
use Rattle.text.specs.Hex.{hex_of}
use Rattle.types.specs.Numbers.{Height}
use Rattle.console.specs.declared.answers.Answer.{Answer}
use Rattle.console.specs.declared.answers.Answer.TheVariants.{Tips as TipsAnswer, Forms as FormsAnswer, Providers as ProvidersAnswer, Journals as JournalsAnswer}
use Rattle.console.specs.declared.refusals.Refused.{Refused}
use Rattle.console.specs.declared.refusals.Refused.TheVariants.{Tips as TipsRefused, Forms as FormsRefused, Providers as ProvidersRefused, Journals as JournalsRefused, Unknown}
use Rattle.console.specs.declared.summaries.Summary.{Summary}

abbrev pub answer_line : Answer → List ℕ
answer_line (TipsAnswer a) = tips_answer a
answer_line (FormsAnswer a) = forms_answer (said a)
answer_line (ProvidersAnswer a) = providers_answer a
answer_line (JournalsAnswer a) = journals_answer a

-- a byte as it can be printed: itself where it is a printing ASCII character, else \x and its two hex digits
abbrev pub shown : ℕ → List ℕ
shown b = cond (is_ascii_graphic b) (b ∷ []) (codes "\\x" ++ hex_of (b ∷ []))

-- at most the first 32 bytes of a word, as they can be printed, and two dots where there are more
abbrev pub excerpt : List ℕ → List ℕ
excerpt w = flat_map shown (take 32 w) ++ cond (nat_lt 32 (length w)) (codes "..") []

abbrev pub refused_line : Refused → List ℕ
refused_line (TipsRefused e) = tips_refusal e
refused_line (FormsRefused e) = forms_refusal e
refused_line (ProvidersRefused e) = providers_refusal e
refused_line (JournalsRefused e) = journals_refusal e
refused_line (Unknown w) = codes "refused: no command is named " ++ (excerpt w.now ++ codes ", --help lists them")

abbrev pub tip_text : Option Height → List ℕ
tip_text None = codes " refused, no safe tip"
tip_text (Some t) = codes " refused, safe tip " ++ decimal t.0

abbrev pub summary_line : Summary → List ℕ
summary_line s = decimal s.counts.lines ++ (codes " lines, " ++ (decimal s.counts.counted ++ (codes " tips counted, " ++ (decimal s.counts.refused ++ tip_text s.safe_tip))))
