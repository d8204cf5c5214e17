use Rattle.console_forms.proofs.Back.{back}
use Rattle.console_forms.proofs.laws.says_back.Goals as goal

pub returns : goal.returns
returns c = back
