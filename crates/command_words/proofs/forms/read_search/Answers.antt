use Rattle.std.proofs.Common.{arith}
use Rattle.command_words.proofs.NoForm.{no_search}
use Rattle.command_words.proofs.forms.read_search.Goals as goal

pub returns-in_default-clause-value : goal.returns-in_default-clause-value
returns-in_default-clause-value c command = no_search c.args.words.now command (omega arith)
