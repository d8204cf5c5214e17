-- What is printed of an answer and of a refusal. Assumes nothing.
use Rattle.std.specs.Prelude.{ℕ, List, ◌++◌, codes, decimal, Some, None, Option}
use Rattle.bitmaps.specs.declared.rejection.Rejection.{Rejection}
use Rattle.bitmaps.specs.declared.rejection.Rejection.TheVariants as against
use Rattle.provider_commands.specs.Printed.{fault_text}
use Rattle.provider_commands.specs.declared.commands.Kind.TheVariants.{Listed, Pooled}
use Rattle.text.specs.Hex.{hex_of}
use Rattle.trial.specs.declared.fault.Fault.{Fault}
use Rattle.trial.specs.declared.fault.Fault.TheVariants.{FewKeys, ManyKeys, EqualKeys, UnsortedKeys, OwnSigner, EpochTwice, EpochBack}
use Rattle.types.specs.Numbers.{Participant}
use Rattle.console_provider.specs.declared.answers.Answer.{Answer}
use Rattle.console_provider.specs.declared.answers.Answer.TheVariants.{Chosen, Known, Signed, Accepted, Rejected, Assembled, Against}
use Rattle.console_provider.specs.declared.answers.Refusal.{Refusal}
use Rattle.console_provider.specs.declared.answers.Refusal.TheVariants.{Words, Signers, UnknownEpoch, NoOwnSigner, AssemblyFailed}

abbrev pub reason_text : Rejection → List ℕ
reason_text against.UnknownEpoch = codes "an unknown epoch"
reason_text against.NoMap = codes "no map"
reason_text against.SignerOutside = codes "a bit that is no signer's"
reason_text against.TooFew = codes "too few signers"
reason_text against.WrongLength = codes "a wrong length"
reason_text against.BadSignature = codes "a bad signature"

abbrev pub signers_text : Fault → List ℕ
signers_text FewKeys = codes "an epoch has 2 keys or more"
signers_text ManyKeys = codes "an epoch has 16 keys at most"
signers_text (EqualKeys i) = codes "the key of signer " ++ (decimal i ++ codes " is the one before it")
signers_text (UnsortedKeys i) = codes "the key of signer " ++ (decimal i ++ codes " is below the one before it")
signers_text OwnSigner = codes "the own signer is none of the epoch's"
signers_text EpochTwice = codes "the epoch is the one before it"
signers_text EpochBack = codes "the epoch is below the one before it"

abbrev pub refusal_line : Refusal → List ℕ
refusal_line (Words fault) = codes "refused: " ++ fault_text fault
refusal_line (Signers fault) = codes "refused: " ++ signers_text fault
refusal_line (UnknownEpoch e) = codes "refused 5 UnknownEpoch: " ++ decimal e.0
refusal_line (NoOwnSigner e) = codes "refused: epoch " ++ (decimal e.0 ++ codes " has no own signer")
refusal_line AssemblyFailed = codes "refused 29 AssemblyFailed"

abbrev pub own_text : Option Participant → List ℕ
own_text None = codes "none"
own_text (Some p) = decimal p.0

abbrev pub answer_line : Answer → List ℕ
answer_line (Chosen Listed) = codes "provider listed"
answer_line (Chosen Pooled) = codes "provider pooled"
answer_line (Known e n f q own) =
    codes "epoch " ++ (decimal e.0 ++ (codes " signers " ++ (decimal n ++ (codes " faults " ++ (decimal f ++ (codes " quorum " ++ (decimal q ++ (codes " own " ++ own_text own))))))))
answer_line (Signed s) = codes "signature " ++ hex_of s.bytes
answer_line Accepted = codes "accepted"
answer_line Rejected = codes "rejected"
answer_line (Assembled c) = codes "certificate " ++ hex_of c.items
answer_line (Against r) = codes "rejected: " ++ reason_text r
