use Rattle.std.proofs.Common.{arith}
use Rattle.command_words.proofs.NoForm.{no_play}
use Rattle.command_words.proofs.forms.read_play.Goals as goal

pub returns-in_default-clause-value : goal.returns-in_default-clause-value
returns-in_default-clause-value c = no_play c.args.words.now (omega arith)

pub returns-then-words-gt3-clause-value : goal.returns-then-words-gt3-clause-value
returns-then-words-gt3-clause-value c = no_play c.args.words.now (omega arith)
