use Rattle.std.proofs.Common.{arith}
use Rattle.command_words.proofs.NoForm.{no_sample}
use Rattle.command_words.proofs.forms.read_sample.Goals as goal

pub returns-in_default-clause-value : goal.returns-in_default-clause-value
returns-in_default-clause-value c = no_sample c.args.words.now (omega arith)

pub returns-then-words-gt3-clause-value : goal.returns-then-words-gt3-clause-value
returns-then-words-gt3-clause-value c = no_sample c.args.words.now (omega arith)
