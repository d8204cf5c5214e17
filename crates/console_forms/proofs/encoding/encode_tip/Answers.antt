use Rattle.std.proofs.Common.{rules}
use Rattle.console_forms.proofs.encoding.encode_tip.Goals as goal

pub returns-in_err-number : goal.returns-in_err-number
returns-in_err-number c = search rules
