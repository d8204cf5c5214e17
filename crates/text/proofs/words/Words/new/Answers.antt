use Rattle.text.proofs.Splitting.{length-words, words_runs}
use Rattle.text.proofs.words.Words.new.Goals as goal

pub returns-clause-within : goal.returns-clause-within
returns-clause-within c = length-words c.args.line.now

pub returns-clause-runs : goal.returns-clause-runs
returns-clause-runs c = words_runs
